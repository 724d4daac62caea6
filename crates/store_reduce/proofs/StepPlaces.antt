-- The one step of an application, where its function part or its scrutinee takes one.
use Rattle.std.proofs.Common.{◌≡◌, ℕ, ◌<◌, ◌≤◌, Bool, true, Some, None, Result, Ok, Err, ap₂, subst as transport, arith}
use Rattle.theory.specs.Terms.{Term, height}
use Rattle.theory.specs.Terms.Term.{App}
use Rattle.theory.specs.Signatures.{Signature}
use Rattle.theory.specs.Spines.{head_of, spine_of}
use Rattle.core_terms.specs.declared.stop.Stop.{Stop}
use Rattle.core_terms.specs.declared.stop.Stop.TheVariants.{Deep}
use Rattle.kernel_reduce.specs.Steps.{awaits_scrutinee, step_of}
use Rattle.kernel_reduce.specs.Reduction.{answered, step_taken}
use Rattle.term_pool.specs.Held.{Held, Extends, AddsParts, Lacks}
use Rattle.store_reduce.specs.Additions.{AddsOnly, LacksOne}
use Rattle.store_reduce.specs.Formed.{IsStepPart}
use Rattle.store_reduce.specs.Forms.{StepsIn, function_body}
use Rattle.store_reduce.specs.declared.form.Stepped.{Stepped}
use Rattle.store_reduce.proofs.Adding.{adds-then}
use Rattle.store_reduce.proofs.OneStep.{function-adds, scrutinee-adds, step-adds, step-lacks}
use Rattle.store_reduce.proofs.PlaceLaws.{IsPlace}
use Rattle.store_reduce.proofs.TakenSteps.{of-some, placed-step, placed-deep, placed-refusal}
use Rattle.store_reduce.proofs.Turning.{function-steps, function-place, scrutinee-steps, scrutinee-place, not-function}

module _ (S : Signature) (delta : Bool) (f u : Term) (low : height (App f u) ≤ 2000) where
  function-at : IsPlace S delta 0 (λ g. App g u)
  function-at = function-place S delta 0 u (omega arith)

  pub function-step : (left rest : ℕ) (g : Term) → answered (Ok (Some g)) rest ≡ step_taken (step_of S delta f) left → height (App g u) ≤ 2000
      → answered (Ok (Some (App g u))) rest ≡ step_taken (step_of S delta (App f u)) left
  function-step left rest g e h = placed-step S delta (λ g. App g u) function-at left rest f g e h

  pub function-deep : (left rest : ℕ) (g : Term) → answered (Ok (Some g)) rest ≡ step_taken (step_of S delta f) left → 2000 < height (App g u)
      → answered (Err Deep) rest ≡ step_taken (step_of S delta (App f u)) left
  function-deep left rest g e h = placed-deep S delta (λ g. App g u) function-at left rest f g e h

  pub function-refusal : (left rest : ℕ) (stop : Stop) → answered (Err stop) rest ≡ step_taken (step_of S delta f) left
      → answered (Err stop) rest ≡ step_taken (step_of S delta (App f u)) left
  function-refusal left rest stop e = placed-refusal S delta (λ g. App g u) function-at left rest f stop e

  pub function-step-adds : {I : Type 0} (old mid new : Held I) (left rest : ℕ) (g : Term) → answered (Ok (Some g)) rest ≡ step_taken (step_of S delta f) left
      → AddsOnly (IsStepPart S delta f) old mid → Extends mid new → AddsParts mid new (App g u) → AddsOnly (IsStepPart S delta (App f u)) old new
  function-step-adds old mid new left rest g e a x b =
      let step = function-steps S delta u f g (of-some (step_of S delta f) left rest g e).some in
      adds-then (IsStepPart S delta (App f u)) old mid new (function-adds S delta f u old mid a) x (step-adds S delta (App f u) mid new (App g u) step b)

  pub function-step-lacks : {I : Type 0} (held : Held I) (left rest : ℕ) (g : Term) → answered (Ok (Some g)) rest ≡ step_taken (step_of S delta f) left
      → Lacks held (App g u) → LacksOne (IsStepPart S delta (App f u)) held
  function-step-lacks held left rest g e l =
      step-lacks S delta (App f u) held (App g u) (function-steps S delta u f g (of-some (step_of S delta f) left rest g e).some) l

module _ (S : Signature) (delta : Bool) (f u : Term) (low : height (App f u) ≤ 2000) (rests : step_of S delta f ≡ None) (plain : function_body f ≡ None)
    (awaits : awaits_scrutinee S (head_of f) (spine_of f) ≡ true) where
  scrutinee-at : IsPlace S delta 0 (λ v. App f v)
  scrutinee-at = scrutinee-place S delta 0 f rests (not-function f plain) awaits (omega arith)

  pub scrutinee-step : (left rest : ℕ) (v : Term) → answered (Ok (Some v)) rest ≡ step_taken (step_of S delta u) left → height (App f v) ≤ 2000
      → answered (Ok (Some (App f v))) rest ≡ step_taken (step_of S delta (App f u)) left
  scrutinee-step left rest v e h = placed-step S delta (λ v. App f v) scrutinee-at left rest u v e h

  pub scrutinee-deep : (left rest : ℕ) (v : Term) → answered (Ok (Some v)) rest ≡ step_taken (step_of S delta u) left → 2000 < height (App f v)
      → answered (Err Deep) rest ≡ step_taken (step_of S delta (App f u)) left
  scrutinee-deep left rest v e h = placed-deep S delta (λ v. App f v) scrutinee-at left rest u v e h

  pub scrutinee-refusal : (left rest : ℕ) (stop : Stop) → answered (Err stop) rest ≡ step_taken (step_of S delta u) left
      → answered (Err stop) rest ≡ step_taken (step_of S delta (App f u)) left
  scrutinee-refusal left rest stop e = placed-refusal S delta (λ v. App f v) scrutinee-at left rest u stop e

  pub scrutinee-step-adds : {I : Type 0} (old mid new : Held I) (left rest : ℕ) (v : Term) → answered (Ok (Some v)) rest ≡ step_taken (step_of S delta u) left
      → AddsOnly (IsStepPart S delta u) old mid → Extends mid new → AddsParts mid new (App f v) → AddsOnly (IsStepPart S delta (App f u)) old new
  scrutinee-step-adds old mid new left rest v e a x b =
      let step = scrutinee-steps S delta f rests (not-function f plain) awaits u v (of-some (step_of S delta u) left rest v e).some in
      adds-then (IsStepPart S delta (App f u)) old mid new (scrutinee-adds S delta f u rests plain awaits old mid a) x
      (step-adds S delta (App f u) mid new (App f v) step b)

  pub scrutinee-step-lacks : {I : Type 0} (held : Held I) (left rest : ℕ) (v : Term) → answered (Ok (Some v)) rest ≡ step_taken (step_of S delta u) left
      → Lacks held (App f v) → LacksOne (IsStepPart S delta (App f u)) held
  scrutinee-step-lacks held left rest v e l =
      step-lacks S delta (App f u) held (App f v) (scrutinee-steps S delta f rests (not-function f plain) awaits u v (of-some (step_of S delta u) left rest v e).some) l

module _ {I : Type 0} (result : Result (Stepped I) Stop) where
  -- the step of a term, where the answer is that of the step of an equal one with as many units
  pub steps-as : (S : Signature) (delta : Bool) (tree : I → Term) (end : ℕ) (t u : Term) (left rest : ℕ) → u ≡ t → rest ≡ left
      → StepsIn tree result end (step_taken (step_of S delta u) rest) → StepsIn tree result end (step_taken (step_of S delta t) left)
  steps-as S delta tree end t u left rest same units h =
      transport (StepsIn tree result end) (ap₂ (λ x n. step_taken (step_of S delta x) n) same units) h

pub ruleset step_place_laws =
    (function-step, function-deep, function-refusal, function-step-adds, function-step-lacks, scrutinee-step, scrutinee-deep, scrutinee-refusal, scrutinee-step-adds, scrutinee-step-lacks)
