-- The answers of reduction: a term that the given one converts to, scoped where that one is. A head form that costs no unit is the term
-- itself.
use Rattle.std.proofs.Common.{◌≡◌, ℕ, zero, suc, ◌≤◌, Bool, true, false, Option, Some, None, Result, Ok, Err, IfOk, refl, arith}
use Rattle.theory.specs.Terms.{Term, height}
use Rattle.theory.specs.Signatures.{Signature}
use Rattle.theory.specs.SignatureScopes.{IsScoped, IsScopedSignature}
use Rattle.theory.specs.Conversion.{Converts}
use Rattle.core_terms.specs.Answers.{Spent, and_next, is_low}
use Rattle.core_terms.specs.Bounds.{most_height}
use Rattle.core_terms.specs.declared.stop.Stop.{Stop}
use Rattle.core_terms.proofs.Answers.{Answers}
use Rattle.kernel_reduce.specs.Laws.{IsHeadForm}
use Rattle.kernel_reduce.specs.Steps.{step_of}
use Rattle.kernel_reduce.specs.Reduction.{if_low, without_units, with_unit, whnf_of, normal_of}
use Rattle.kernel_reduce.proofs.ReductionLaws.{whnf-is_head_form, whnf-spends, normal-converts, normal-spends}
use Rattle.kernel_reduce.proofs.ScopedReduction.{whnf-scoped, normal-scoped}
use Rattle.unification.proofs.SpentUnits.{Leaves, Within, answers-within, and_next-within}

-- t converts to u, which is scoped where t is
pub record IsReduct (S : Signature) (t u : Term) : Type 0 where
  pub converts : Converts S t u
  pub scoped : (n : ℕ) → IsScopedSignature S → IsScoped S n t → IsScoped S n u

-- u is reached with `rest` of `left` units, and is t itself where none is spent
pub record IsHead (S : Signature) (left : ℕ) (t u : Term) (rest : ℕ) : Type 0 where
  pub reduct : IsReduct S t u
  pub stays : rest ≡ left → u ≡ t

-- ---- head forms

pub whnf-reduct : (S : Signature) (delta : Bool) (left : ℕ) (t : Term) → Answers (IsReduct S t) (whnf_of S delta left t)
whnf-reduct S delta left t =
    by (whnf_of S delta left t).0 (whnf-is_head_form S delta left t) (λ n closed scoped. whnf-scoped S delta left n t closed scoped)
  where
    by : (r : Result Term Stop) → IfOk r (IsHeadForm S delta t)
        → ((n : ℕ) → IsScopedSignature S → IsScoped S n t → IfOk r (IsScoped S n)) → IfOk r (IsReduct S t)
    by (Ok u) h k = record { converts = h.converts; scoped = k }
    by (Err e) h k = tt

-- where no unit is spent, the answer is the term itself
abbrev pub Stays : (left : ℕ) → Term → Term → ℕ → Type 0
Stays left t u rest = rest ≡ left → u ≡ t

if_low-leaves : {A : Type 0} (P : A → ℕ → Type 0) (test : Bool) (next : ℕ → Spent A) (left : ℕ) → Leaves P (next left).0 (next left).1
    → Leaves P (if_low test next left).0 (if_low test next left).1
if_low-leaves P true next left h = h
if_low-leaves P false next left h = tt

without_units-stays : (t : Term) (step : Option Term) → Leaves (Stays zero t) (without_units t step).0 (without_units t step).1
without_units-stays t None = λ e. refl
without_units-stays t (Some u) = tt

with_unit-stays : (t : Term) (left : ℕ) (next : Term → Spent Term) (step : Option Term) → ((u : Term) → (next u).1 ≤ left)
    → Leaves (Stays (suc left) t) (with_unit t left next step).0 (with_unit t left next step).1
with_unit-stays t left next None h = λ e. refl
with_unit-stays t left next (Some u) h = fewer (next u).0 (next u).1 (h u)
  where
    fewer : (r : Result Term Stop) (rest : ℕ) → rest ≤ left → Leaves (Stays (suc left) t) r rest
    fewer (Ok v) rest le = λ e. absurd (omega arith)
    fewer (Err e) rest le = tt

pub whnf-stays : (S : Signature) (delta : Bool) (left : ℕ) (t : Term) → Leaves (Stays left t) (whnf_of S delta left t).0 (whnf_of S delta left t).1
whnf-stays S delta zero t = if_low-leaves (Stays zero t) (is_low t) _ zero (without_units-stays t (step_of S delta t))
whnf-stays S delta (suc left) t =
    if_low-leaves (Stays (suc left) t) (is_low t) _ (suc left)
    (with_unit-stays t left (whnf_of S delta left) (step_of S delta t) (whnf-spends S delta left))

pub whnf-within : (S : Signature) (delta : Bool) (left : ℕ) (t : Term) → Within left (IsHead S left t) (whnf_of S delta left t)
whnf-within S delta left t = record {
  spends = whnf-spends S delta left t;
  leaves = by (whnf_of S delta left t).0 (whnf_of S delta left t).1 (whnf-reduct S delta left t) (whnf-stays S delta left t);
}
  where
    by : (r : Result Term Stop) (rest : ℕ) → IfOk r (IsReduct S t) → Leaves (Stays left t) r rest → Leaves (IsHead S left t) r rest
    by (Ok u) rest h k = record { reduct = h; stays = k }
    by (Err e) rest h k = tt

-- calls after a reduction to a head form
pub reduced-within : {A : Type 0} (Q : A → ℕ → Type 0) (S : Signature) (delta : Bool) (t : Term) (left : ℕ) (go : Term → ℕ → Spent A)
    → ((u : Term) (rest : ℕ) → rest ≤ left → IsHead S left t u rest → Within rest Q (go u rest)) → Within left Q (and_next (whnf_of S delta left t) go)
reduced-within Q S delta t left go h =
    and_next-within (IsHead S left t) Q (whnf_of S delta left t) go left (whnf-within S delta left t) h

-- ---- normal forms

pub normal-within : (S : Signature) (delta : Bool) (room : ℕ) (t : Term) (left : ℕ) → Within left (λ u rest. IsReduct S t u) (normal_of S delta room t left)
normal-within S delta room t left =
    answers-within left (IsReduct S t) (normal_of S delta room t left) (normal-spends S delta room t left)
    (by (normal_of S delta room t left).0 (normal-converts S delta room t left) (λ n closed scoped. normal-scoped S delta room n t left closed scoped))
  where
    by : (r : Result Term Stop) → IfOk r (λ u. Converts S t u × (height u ≤ most_height))
        → ((n : ℕ) → IsScopedSignature S → IsScoped S n t → IfOk r (IsScoped S n)) → IfOk r (IsReduct S t)
    by (Ok u) h k = record { converts = h.0; scoped = k }
    by (Err e) h k = tt
