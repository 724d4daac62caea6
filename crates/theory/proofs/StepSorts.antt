-- A step keeps every bound on the sorts from top on.
use Rattle.std.proofs.Common.{ℕ, ◌≤◌, inl, inr, arith}
use Rattle.std.proofs.lemmas.List.Elements.{All-weaker}
use Rattle.theory.specs.Terms.{Term, SortsBelow, top}
use Rattle.theory.specs.Families.{Argument, Plain, Recursive}
use Rattle.theory.specs.Signatures.{Signature}
use Rattle.theory.specs.Signatures.TypeOf.{constructor}
use Rattle.theory.specs.Conversion.{Contracts}
use Rattle.theory.specs.Conversion.Contracts.{beta, zeta, delta, iota, axiom_k}
use Rattle.theory.specs.Conversion.Step.{here, domain, codomain, annotation, body, function, argument, let_type, let_value, let_body}
use Rattle.theory.specs.WellFormed.{IsTyped}
use Rattle.theory.specs.SortLaws.{SortsOfStep}
use Rattle.theory.proofs.SortLevels.{sorts_raised}
use Rattle.theory.proofs.SortInstances.{sorts_of_put, sorts_bound, sorts_before_constructor}
use Rattle.theory.proofs.Bounds.{HasTerms, iota-kept}
use Rattle.theory.proofs.TermSorts.{sorts_of_term}

terms-raised : (n m : ℕ) → n ≤ m → (a : Argument) → HasTerms (SortsBelow n) a → HasTerms (SortsBelow m) a
terms-raised n m le (Plain type level) h = tt
terms-raised n m le (Recursive inner targets level) h =
    let raise : (t : Term) → SortsBelow n t → SortsBelow m t = λ t. sorts_raised t n m le in (
      All-weaker (SortsBelow n) (SortsBelow m) raise inner h.0,
      All-weaker (SortsBelow n) (SortsBelow m) raise targets h.1,
    )

sorts_of_contracts : (S : Signature) → IsTyped S → (n : ℕ) → top ≤ n → {t u : Term} → Contracts S t u → SortsBelow n t
    → SortsBelow n u
sorts_of_contracts S typed n le (beta {a} {b} {u}) h = sorts_of_put b u n h.0.1 h.1
sorts_of_contracts S typed n le (zeta {a} {t} {b}) h = sorts_of_put b t n h.2 h.1
sorts_of_contracts S typed n le (delta k {body = value} at new) h = elim (typed.bodies at) [
  | inl own ↦ absurd (new own)
  | inr type ↦ sorts_raised value top n le (sorts_of_term type)
]
sorts_of_contracts S typed n le (iota k m number f c ps P ms is qs us {method} at chosen redex method_at) h =
    iota-kept (SortsBelow n) (λ x. SortsBelow n) (sorts_bound n (omega arith)) 0 k m number ps P ms is qs us number method
    c.arguments
    (All-weaker (HasTerms (SortsBelow top)) (HasTerms (SortsBelow n)) (terms-raised top n le) c.arguments
    (sorts_before_constructor k f c top (sorts_of_term (typed.types (constructor k number at chosen)).1)))
    method_at h
sorts_of_contracts S typed n le (axiom_k i m on identity) h = h.0.1

-- a step keeps every bound on the sorts from top on
pub sorts_of_step : SortsOfStep
sorts_of_step S typed n le t u (here c) h = sorts_of_contracts S typed n le c h
sorts_of_step S typed n le t u (domain {a} {a'} k) h = (sorts_of_step S typed n le a a' k h.0, h.1)
sorts_of_step S typed n le t u (codomain {b = b} {b' = b'} k) h = (h.0, sorts_of_step S typed n le b b' k h.1)
sorts_of_step S typed n le t u (annotation {a} {a'} k) h = (sorts_of_step S typed n le a a' k h.0, h.1)
sorts_of_step S typed n le t u (body {b = b} {b' = b'} k) h = (h.0, sorts_of_step S typed n le b b' k h.1)
sorts_of_step S typed n le t u (function {f} {f'} k) h = (sorts_of_step S typed n le f f' k h.0, h.1)
sorts_of_step S typed n le t u (argument {a = a} {a' = a'} k) h = (h.0, sorts_of_step S typed n le a a' k h.1)
sorts_of_step S typed n le t u (let_type {a} {a'} k) h = (sorts_of_step S typed n le a a' k h.0, h.1, h.2)
sorts_of_step S typed n le x u (let_value {t = t} {t' = t'} k) h =
    (h.0, sorts_of_step S typed n le t t' k h.1, h.2)
sorts_of_step S typed n le x u (let_body {b = b} {b' = b'} k) h =
    (h.0, h.1, sorts_of_step S typed n le b b' k h.2)
