-- The prelude meets the conditions of calls: it is settled, and a signature that begins with it has the identity families.
use Rattle.std.proofs.Common.{◌≡◌, ℕ, zero, suc, ◌<◌, Bool, Some, List, [], ◌∷◌, ◌++◌, slice_get, All, refl, sym, ap, ◌∙◌, append-nil, subst as transport, arith}
use Rattle.std.specs.List.{range_with_len}
use Rattle.std.proofs.lemmas.List.Elements.{All-append, All-cons, All-head, All-map, All-tail}
use Rattle.std.proofs.lemmas.Option.{same_Some}
use Rattle.theory.specs.Terms.{Term, Const, top}
use Rattle.theory.specs.Families.{Family}
use Rattle.theory.specs.Prelude.{empty_family, equality_family, unit_family, pair_family, at_levels, prelude}
use Rattle.theory.specs.Signatures.{Entry, FamilyOf, Definition, Signature, HasIdentity, equality}
use Rattle.theory.specs.SignatureScopes.{IsConstructorNumber}
use Rattle.theory.proofs.Lists.{slice_get-longer}
use Rattle.theory.proofs.PreludeWellFormed.{equality_at}
use Rattle.kernel_reduce.proofs.ScopedSignatures.{prelude-scoped}
use Rattle.family_check.specs.Scopes.{HasPrelude, IsSettled}

pub identity-there : (S : Signature) (i : ℕ) → HasPrelude S → i < top → HasIdentity S i
identity-there S i h low = record {
  level = low;
  entry =
      ap (λ es. slice_get es (equality i)) h.entries
      ∙ slice_get-longer (prelude S.has_k).entries h.more (equality i) (FamilyOf (equality_family i)) (equality_at top i low);
}

pub equality-there : (S : Signature) (i : ℕ) → HasPrelude S → i < top → IsConstructorNumber S (equality i) 0
equality-there S i h low = (equality_family i, (identity-there S i h low).entry, omega arith)

abbrev IsFamilyEntry : Entry → Type 0
IsFamilyEntry (FamilyOf f) = Unit {0}
IsFamilyEntry _ = ⊥

at-levels : (family : ℕ → Family) → All IsFamilyEntry (at_levels family)
at-levels family = All-map IsFamilyEntry (λ i. FamilyOf (family i)) (range_with_len 0 top) (λ k d w. tt)

families : (k : Bool) → All IsFamilyEntry (prelude k).entries
families k =
    All-append IsFamilyEntry (FamilyOf empty_family ∷ at_levels equality_family ++ at_levels unit_family) (at_levels pair_family)
    (All-append IsFamilyEntry (FamilyOf empty_family ∷ at_levels equality_family) (at_levels unit_family)
    (All-cons IsFamilyEntry (FamilyOf empty_family) (at_levels equality_family) tt (at-levels equality_family)) (at-levels unit_family))
    (at-levels pair_family)

none-defined : (es : List Entry) → All IsFamilyEntry es → (n : ℕ) (name : List ℕ) (type body : Term) → slice_get es n ≡ Some (Definition name type body) → ⊥
none-defined [] h n name type body at = absurd (grind arith)
none-defined (e ∷ es) h zero name type body at =
    let is : e ≡ Definition name type body = same_Some e (Definition name type body) at in transport IsFamilyEntry is (All-head IsFamilyEntry e es h)
none-defined (e ∷ es) h (suc n) name type body at = none-defined es (All-tail IsFamilyEntry e es h) n name type body at

pub prelude-settled : (k : Bool) → IsSettled (prelude k)
prelude-settled k = record { scoped = prelude-scoped k; bodies = λ n name type at. none-defined (prelude k).entries (families k) n name type (Const n) at }

pub prelude-first : (k : Bool) → HasPrelude (prelude k)
prelude-first k = record { more = []; entries = sym (append-nil (prelude k).entries); has_k = refl }
