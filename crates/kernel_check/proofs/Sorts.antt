-- Head reduction brings no sort above top in.
use Rattle.std.proofs.Common.{ℕ, ◌≤◌, zero, suc, true, Option, Some, None, IfSome}
use Rattle.theory.specs.Terms.{Term, SortsBelow, top}
use Rattle.theory.specs.Signatures.{Signature}
use Rattle.theory.specs.Conversion.{Step}
use Rattle.theory.specs.WellFormed.{IsTyped}
use Rattle.theory.proofs.StepSorts.{sorts_of_step}
use Rattle.core_terms.specs.Answers.{Spent, is_low}
use Rattle.kernel_reduce.specs.Steps.{step_of}
use Rattle.kernel_reduce.specs.Reduction.{without_units, with_unit, whnf_of}
use Rattle.core_terms.proofs.Answers.{Answers}
use Rattle.kernel_reduce.proofs.Answers.{if_low-has}
use Rattle.kernel_reduce.proofs.StepLaws.{step-steps}

without_units-sorts : (n : ℕ) (t : Term) (step : Option Term) → SortsBelow n t → Answers (SortsBelow n) (without_units t step)
without_units-sorts n t None h = h
without_units-sorts n t (Some u) h = tt

with_unit-sorts : (S : Signature) (n : ℕ) (t : Term) (left : ℕ) (next : Term → Spent Term) (step : Option Term) → IsTyped S → top ≤ n
    → IfSome step (Step S t) → SortsBelow n t → ((u : Term) → SortsBelow n u → Answers (SortsBelow n) (next u))
    → Answers (SortsBelow n) (with_unit t left next step)
with_unit-sorts S n t left next None typed bound steps h k = h
with_unit-sorts S n t left next (Some u) typed bound steps h k = k u (sorts_of_step S typed n bound t u steps h)

pub whnf-sorts : (S : Signature) (n left : ℕ) (t : Term) → IsTyped S → top ≤ n → SortsBelow n t → Answers (SortsBelow n) (whnf_of S true left t)
whnf-sorts S n zero t typed bound h =
    if_low-has (SortsBelow n) (is_low t) _ zero (λ low. without_units-sorts n t (step_of S true t) h)
whnf-sorts S n (suc left) t typed bound h =
    if_low-has (SortsBelow n) (is_low t) _ (suc left) (λ low.
    with_unit-sorts S n t left (whnf_of S true left) (step_of S true t) typed bound (step-steps S true t) h (λ u k.
    whnf-sorts S n left u typed bound k))
