-- Laws of reduction and comparison: an answer is tied to conversion, and no call gives units back.
use Rattle.std.specs.Prelude.{◌≡◌, ℕ, ◌≤◌, Bool, None, IfSome, IfOk, IsTrue}
use Rattle.theory.specs.Terms.{Term, height}
use Rattle.theory.specs.Signatures.{Signature}
use Rattle.theory.specs.SignatureScopes.{IsScoped, IsScopedSignature}
use Rattle.theory.specs.Conversion.{Step, Converts, Below}
use Rattle.core_terms.specs.Bounds.{most_height}
use Rattle.kernel_reduce.specs.Steps.{step_of}
use Rattle.kernel_reduce.specs.Reduction.{head_step_of, whnf_of, normal_of}
use Rattle.kernel_reduce.specs.Comparison.{convertible_of, subtype_of}

-- a head step is a step
abbrev pub HeadStepIsStep : Type 0
HeadStepIsStep =
    (S : Signature) (delta : Bool) (t : Term) (left : ℕ) →
    IfOk (head_step_of S delta t left).0 (λ next. IfSome next (Step S t))

-- a head step is no higher than a term may be
abbrev pub HeadStepIsLow : Type 0
HeadStepIsLow =
    (S : Signature) (delta : Bool) (t : Term) (left : ℕ) →
    IfOk (head_step_of S delta t left).0 (λ next. IfSome next (λ u. height u ≤ most_height))

-- u is a head form of t: t converts to it, it takes no head step, and it is no higher than a term may be
pub record IsHeadForm (S : Signature) (delta : Bool) (t u : Term) : Type 0 where
  pub converts : Converts S t u
  pub rests : step_of S delta u ≡ None
  pub low : height u ≤ most_height

abbrev pub WhnfIsHeadForm : Type 0
WhnfIsHeadForm =
    (S : Signature) (delta : Bool) (left : ℕ) (t : Term) →
    IfOk (whnf_of S delta left t).0 (IsHeadForm S delta t)

-- a term converts to its normal form, which is no higher than a term may be
abbrev pub NormalConverts : Type 0
NormalConverts =
    (S : Signature) (delta : Bool) (room : ℕ) (t : Term) (left : ℕ) →
    IfOk (normal_of S delta room t left).0 (λ u. Converts S t u × (height u ≤ most_height))

-- terms that are found convertible convert
abbrev pub ConvertibleConverts : Type 0
ConvertibleConverts =
    (S : Signature) (room : ℕ) (a b : Term) (left : ℕ) →
    IfOk (convertible_of S room a b left).0 (λ holds. IsTrue holds → Converts S a b)

-- a term that is found below another one is below it
abbrev pub SubtypeIsBelow : Type 0
SubtypeIsBelow =
    (S : Signature) (room : ℕ) (a b : Term) (left : ℕ) →
    IfOk (subtype_of S room a b left).0 (λ holds. IsTrue holds → Below S a b)

-- no call leaves more units than it had
abbrev pub HeadStepSpends : Type 0
HeadStepSpends = (S : Signature) (delta : Bool) (t : Term) (left : ℕ) → (head_step_of S delta t left).1 ≤ left

abbrev pub WhnfSpends : Type 0
WhnfSpends = (S : Signature) (delta : Bool) (left : ℕ) (t : Term) → (whnf_of S delta left t).1 ≤ left

abbrev pub NormalSpends : Type 0
NormalSpends =
    (S : Signature) (delta : Bool) (room : ℕ) (t : Term) (left : ℕ) → (normal_of S delta room t left).1 ≤ left

abbrev pub ConvertibleSpends : Type 0
ConvertibleSpends = (S : Signature) (room : ℕ) (a b : Term) (left : ℕ) → (convertible_of S room a b left).1 ≤ left

abbrev pub SubtypeSpends : Type 0
SubtypeSpends = (S : Signature) (room : ℕ) (a b : Term) (left : ℕ) → (subtype_of S room a b left).1 ≤ left

-- head steps, head forms and normal forms of scoped terms are scoped, over a scoped signature
abbrev pub StepScoped : Type 0
StepScoped =
    (S : Signature) (delta : Bool) (n : ℕ) (t : Term) → IsScopedSignature S → IsScoped S n t →
    IfSome (step_of S delta t) (IsScoped S n)

abbrev pub HeadStepScoped : Type 0
HeadStepScoped =
    (S : Signature) (delta : Bool) (n : ℕ) (t : Term) (left : ℕ) → IsScopedSignature S → IsScoped S n t →
    IfOk (head_step_of S delta t left).0 (λ next. IfSome next (IsScoped S n))

abbrev pub WhnfScoped : Type 0
WhnfScoped =
    (S : Signature) (delta : Bool) (left n : ℕ) (t : Term) → IsScopedSignature S → IsScoped S n t →
    IfOk (whnf_of S delta left t).0 (IsScoped S n)

abbrev pub NormalScoped : Type 0
NormalScoped =
    (S : Signature) (delta : Bool) (room n : ℕ) (t : Term) (left : ℕ) → IsScopedSignature S → IsScoped S n t →
    IfOk (normal_of S delta room t left).0 (IsScoped S n)
