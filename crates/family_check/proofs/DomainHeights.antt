-- Heights of the parts of a type that is granted a sort.
use Rattle.std.proofs.Common.{◌≡◌, ℕ, ◌≤◌, Ok, IfOk, List, length, All, sym, subst as transport, arith}
use Rattle.std.proofs.lemmas.List.Elements.{All-nil, All-cons}
use Rattle.theory.specs.Terms.{Term, height}
use Rattle.theory.specs.Terms.Term.{Pi}
use Rattle.theory.specs.Telescopes.{Context, Telescope}
use Rattle.theory.specs.Signatures.{Signature}
use Rattle.family_check.specs.Asking.{sort_in}
use Rattle.family_check.specs.Families.{Role, levels_of}
use Rattle.family_check.specs.Outcomes.{Site, ended}
use Rattle.core_terms.specs.Telescopes.{domains_of, end_of}
use Rattle.family_check.proofs.AsDeclared.{levels-counted}
use Rattle.family_check.proofs.Lowness.{sort-low}

pub granted-low : (S : Signature) (site : Site) (G : Context) (t sort : Term) (left l : ℕ) → ended (Ok sort) l ≡ sort_in S site G t left → height t ≤ 2000
granted-low S site G t sort left l is = transport (λ x. IfOk x.0 (λ s. height t ≤ 2000)) (sym is) (sort-low S site G t left)

pub domains-count : (t : Term) → length (domains_of t) ≤ height t
domains-count (Pi a b) = let rest = domains-count b in omega arith
domains-count _ = omega arith

pub domains-low : (t : Term) (bound : ℕ) → height t ≤ bound → All (λ a. height a ≤ bound) (domains_of t)
domains-low (Pi a b) bound h = All-cons (λ x. height x ≤ bound) a (domains_of b) (omega arith) (domains-low b bound (omega arith))
domains-low _ bound h = All-nil (λ x. height x ≤ bound)

pub end-low : (t : Term) → height (end_of t) ≤ height t
end-low (Pi a b) = let rest = end-low b in omega arith
end-low _ = omega arith

-- as many levels as types
pub leveled-count : (S : Signature) (role : Role) (count : ℕ) (G : Context) (tele : Telescope) (left : ℕ) (levels : List ℕ) (l : ℕ) → ended (Ok levels) l ≡ levels_of S role count G tele left
    → length levels ≡ length tele
leveled-count S role count G tele left levels l is =
    transport (λ x. IfOk x.0 (λ ls. length ls ≡ length tele)) (sym is) (levels-counted S role count G tele left)
