-- Parts of the terms to which head steps lead.
use Rattle.std.proofs.Common.{◌≡◌, ℕ, Bool, Some, IfSome, inl, refl, subst as transport}
use Rattle.theory.specs.Terms.{Term}
use Rattle.theory.specs.Terms.Term.{Var, Pi, Lam, App, Let}
use Rattle.theory.specs.Signatures.{Signature}
use Rattle.theory.specs.SignatureScopes.{IsScoped, IsScopedSignature}
use Rattle.kernel_reduce.specs.Steps.{step_of}
use Rattle.kernel_reduce.proofs.ScopedReduction.{step-scoped}
use Rattle.term_pool.specs.Parts.{IsPart}
use Rattle.store_reduce.specs.Formed.{Reaches, IsPartOnTheWay}
use Rattle.store_reduce.specs.Formed.Reaches.{none, more}
use Rattle.term_pool.specs.Held.{Held, AddsParts, Lacks}
use Rattle.store_reduce.specs.Additions.{AddsOnly, LacksOne}
use Rattle.store_reduce.proofs.Adding.{adds-parts, lacks-parts, adds-more, lacks-more}
use Rattle.store_reduce.proofs.PlaceLaws.{after, place-reaches}

pub part-self : (t : Term) → IsPart t t
part-self (Pi a b) = inl refl
part-self (Lam a b) = inl refl
part-self (App f a) = inl refl
part-self (Let a t b) = inl refl
part-self (Var n) = refl
part-self _ = refl

-- a part of the term itself
pub way-here : (S : Signature) (delta : Bool) (t x : Term) → IsPart x t → IsPartOnTheWay S delta t x
way-here S delta t x h = record { whole = t; reached = none; part = h }

-- a part on the way of a term that is on the way
pub way-on : (S : Signature) (delta : Bool) (t u x : Term) → Reaches S delta t u → IsPartOnTheWay S delta u x → IsPartOnTheWay S delta t x
way-on S delta t u x r w = record { whole = w.whole; reached = after S delta t u w.whole r w.reached; part = w.part }

-- a part on the way of the term at a place is one on the way of the whole
pub way-place : (S : Signature) (delta : Bool) (whole : Term → Term) → ((t u : Term) → step_of S delta t ≡ Some u → step_of S delta (whole t) ≡ Some (whole u))
    → ((t x : Term) → IsPart x t → IsPart x (whole t)) → (t x : Term) → IsPartOnTheWay S delta t x → IsPartOnTheWay S delta (whole t) x
way-place S delta whole steps parts t x w =
    record { whole = whole w.whole; reached = place-reaches S delta whole steps t w.whole w.reached; part = parts w.whole x w.part }

-- a step is on the way
pub step-reached : (S : Signature) (delta : Bool) (t u : Term) → step_of S delta t ≡ Some u → Reaches S delta t u
step-reached S delta t u e = more none e

pub reached-scoped : (S : Signature) (delta : Bool) (n : ℕ) (t u : Term) → IsScopedSignature S → IsScoped S n t → Reaches S delta t u → IsScoped S n u
reached-scoped S delta n t u signature h none = h
reached-scoped S delta n t u signature h (more {u = v} r e) =
    transport (λ o. IfSome o (IsScoped S n)) e (step-scoped S delta n v signature (reached-scoped S delta n t v signature h r))

module _ {I : Type 0} (S : Signature) (delta : Bool) (t : Term) (old new : Held I) where
  -- what is made of the parts of a step is on the way
  pub step-adds : (u : Term) → step_of S delta t ≡ Some u → AddsParts old new u → AddsOnly (IsPartOnTheWay S delta t) old new
  step-adds u e a = adds-parts (IsPartOnTheWay S delta t) u old new (λ x h. way-on S delta t u x (more none e) (way-here S delta u x h)) a

  pub here-adds : AddsParts old new t → AddsOnly (IsPartOnTheWay S delta t) old new
  here-adds a = adds-parts (IsPartOnTheWay S delta t) t old new (λ x h. way-here S delta t x h) a

  pub reached-adds : (u : Term) → Reaches S delta t u → AddsOnly (IsPartOnTheWay S delta u) old new → AddsOnly (IsPartOnTheWay S delta t) old new
  reached-adds u r a = adds-more (IsPartOnTheWay S delta u) (IsPartOnTheWay S delta t) old new (λ x w. way-on S delta t u x r w) a

module _ {I : Type 0} (S : Signature) (delta : Bool) (t : Term) (held : Held I) where
  pub step-lacks : (u : Term) → step_of S delta t ≡ Some u → Lacks held u → LacksOne (IsPartOnTheWay S delta t) held
  step-lacks u e l = lacks-parts (IsPartOnTheWay S delta t) u held (λ x h. way-on S delta t u x (more none e) (way-here S delta u x h)) l

  pub here-lacks : Lacks held t → LacksOne (IsPartOnTheWay S delta t) held
  here-lacks l = lacks-parts (IsPartOnTheWay S delta t) t held (λ x h. way-here S delta t x h) l

  pub reached-lacks : (u : Term) → Reaches S delta t u → LacksOne (IsPartOnTheWay S delta u) held → LacksOne (IsPartOnTheWay S delta t) held
  reached-lacks u r l = lacks-more (IsPartOnTheWay S delta u) (IsPartOnTheWay S delta t) held (λ x w. way-on S delta t u x r w) l

pub ruleset way_laws = (step-adds, here-adds, step-lacks, here-lacks, step-reached, reached-scoped)
