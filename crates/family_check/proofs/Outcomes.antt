-- Properties of an outcome and of the units that it leaves, from those of its parts.
use Rattle.std.proofs.Common.{◌≡◌, ℕ, ◌≤◌, Bool, true, false, Result, Ok, Err, IfOk, refl, arith}
use Rattle.theory.specs.Terms.{Term}
use Rattle.core_terms.specs.Answers.{Spent}
use Rattle.core_terms.proofs.Answers.{Answers}
use Rattle.core_terms.specs.Verdicts.{Verdict}
use Rattle.core_terms.specs.Verdicts.Verdict.{Yes, No}
use Rattle.core_terms.specs.declared.stop.Stop.{Stop}
use Rattle.kernel_check.specs.Laws.{IfYes}
use Rattle.family_check.specs.Outcomes.{Site, Outcome, on_part, granted}
use Rattle.family_check.specs.Entering.{if_new}

pub granted-has : (P : Term → Type 0) (site : Site) (asked : Spent Verdict) → IfOk asked.0 (λ verdict. IfYes verdict P) → Answers P (granted site asked)
granted-has P site asked h = by_case asked.0 h
  where
    by_case : (r : Result Verdict Stop) → IfOk r (λ verdict. IfYes verdict P) → IfOk (on_part site r) P
    by_case (Ok (Yes type)) k = k
    by_case (Ok (No denial)) k = tt
    by_case (Err e) k = tt

pub if_new-has : {A : Type 0} (P : A → Type 0) (test : Bool) (next : ℕ → Outcome A) (left : ℕ) → (test ≡ true → Answers P (next left)) → Answers P (if_new test next left)
if_new-has P true next left h = h refl
if_new-has P false next left h = tt

pub if_new-spends : {A : Type 0} (test : Bool) (next : ℕ → Outcome A) (left : ℕ) → (next left).1 ≤ left → (if_new test next left).1 ≤ left
if_new-spends true next left h = h
if_new-spends false next left h = omega arith
