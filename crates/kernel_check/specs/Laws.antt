-- Laws of the checker's answers: a Yes gives a derivation, no call gives units back, and the answers are scoped and no higher than terms
-- may be.
use Rattle.std.specs.Prelude.{◌≡◌, ℕ, ◌+◌, ◌≤◌, length, IfOk}
use Rattle.theory.specs.Terms.{Term, Sort, SortsBelow, height, top}
use Rattle.theory.specs.Telescopes.{Context}
use Rattle.theory.specs.Signatures.{Signature}
use Rattle.theory.specs.Typing.{IsContext, Has, IsType}
use Rattle.theory.specs.WellFormed.{IsTyped}
use Rattle.theory.specs.SignatureScopes.{IsScoped, IsScopedTelescope, IsScopedContext, IsScopedSignature}
use Rattle.core_terms.specs.Bounds.{most_height}
use Rattle.core_terms.specs.Verdicts.{Reason, Mismatch, NotAProduct, NotASort, Denial, Verdict, Yes, No}
use Rattle.kernel_check.specs.Checking.{infer_of, infer_sort_of, check_of}

-- the type that is answered has P
abbrev pub IfYes : Verdict → (Term → Type 0) → Type 0
IfYes (Yes type) P = P type
IfYes (No denial) P = Unit {0}

-- the term has the type, which is a sort or has one, and no sort in the type is above top
pub record HasType (S : Signature) (G : Context) (t type : Term) : Type 0 where
  pub derivation : Has S G t type
  pub is_type : IsType S G type
  pub levels : SortsBelow (top + 1) type

-- the term has the sort, whose level is at most top
pub record HasUniverse (S : Signature) (G : Context) (t sort : Term) : Type 0 where
  pub level : ℕ
  pub is_sort : sort ≡ Sort level
  pub limit : level ≤ top
  pub derivation : Has S G t (Sort level)

-- the term has the wanted type, and the one that was found
pub record HasWanted (S : Signature) (G : Context) (t wanted found : Term) : Type 0 where
  pub derivation : Has S G t wanted
  pub found_type : HasType S G t found

-- a term and the type that is answered for it are no higher than terms may be
pub record AreBothLow (t a : Term) : Type 0 where
  pub term : height t ≤ most_height
  pub type : height a ≤ most_height

abbrev pub IsSort : Term → Type 0
IsSort t = (level : ℕ) × (t ≡ Sort level)

abbrev pub InferIsLow : Type 0
InferIsLow =
    (S : Signature) (room : ℕ) (G : Context) (t : Term) (left : ℕ) →
    IfOk (infer_of S room G t left).0 (λ verdict. IfYes verdict (AreBothLow t))

abbrev pub InferSortIsLow : Type 0
InferSortIsLow =
    (S : Signature) (room : ℕ) (G : Context) (t : Term) (left : ℕ) →
    IfOk (infer_sort_of S room G t left).0 (λ verdict. IfYes verdict (AreBothLow t))

abbrev pub CheckIsLow : Type 0
CheckIsLow =
    (S : Signature) (room : ℕ) (G : Context) (t wanted : Term) (left : ℕ) →
    IfOk (check_of S room G t wanted left).0 (λ verdict. IfYes verdict (AreBothLow t))

-- the answer for a type is a sort
abbrev pub InferSortIsSort : Type 0
InferSortIsSort =
    (S : Signature) (room : ℕ) (G : Context) (t : Term) (left : ℕ) →
    IfOk (infer_sort_of S room G t left).0 (λ verdict. IfYes verdict IsSort)

-- The checker is sound, over a typed signature and in a well-formed context. It rests neither on subject reduction nor on
-- confluence or normalisation: a type that had to be reduced is checked once more.

abbrev pub InferIsSound : Type 0
InferIsSound =
    (S : Signature) → IsTyped S → (room : ℕ) (G : Context) (t : Term) (left : ℕ) → IsContext S G →
    IfOk (infer_of S room G t left).0 (λ verdict. IfYes verdict (HasType S G t))

abbrev pub InferSortIsSound : Type 0
InferSortIsSound =
    (S : Signature) → IsTyped S → (room : ℕ) (G : Context) (t : Term) (left : ℕ) → IsContext S G →
    IfOk (infer_sort_of S room G t left).0 (λ verdict. IfYes verdict (HasUniverse S G t))

-- where `wanted` is a sort or has one
abbrev pub CheckIsSound : Type 0
CheckIsSound =
    (S : Signature) → IsTyped S → (room : ℕ) (G : Context) (t wanted : Term) (left : ℕ) → IsContext S G → IsType S G wanted →
    IfOk (check_of S room G t wanted left).0 (λ verdict. IfYes verdict (HasWanted S G t wanted))

-- no call leaves more units than it had
abbrev pub InferSpends : Type 0
InferSpends = (S : Signature) (room : ℕ) (G : Context) (t : Term) (left : ℕ) → (infer_of S room G t left).1 ≤ left

abbrev pub InferSortSpends : Type 0
InferSortSpends =
    (S : Signature) (room : ℕ) (G : Context) (t : Term) (left : ℕ) → (infer_sort_of S room G t left).1 ≤ left

abbrev pub CheckSpends : Type 0
CheckSpends =
    (S : Signature) (room : ℕ) (G : Context) (t wanted : Term) (left : ℕ) → (check_of S room G t wanted left).1 ≤ left

-- the terms of a reason are scoped over n variables
abbrev pub IsScopedReason : Signature → ℕ → Reason → Type 0
IsScopedReason S n (Mismatch found wanted) = IsScoped S n found × IsScoped S n wanted
IsScopedReason S n (NotAProduct found) = IsScoped S n found
IsScopedReason S n (NotASort found) = IsScoped S n found
IsScopedReason S n _ = Unit {0}

-- the context of the denial, and the reason over it
abbrev pub IsScopedDenial : Signature → Denial → Type 0
IsScopedDenial S denial = IsScopedTelescope S 0 denial.ctx × IsScopedReason S (length denial.ctx) denial.reason

abbrev pub IsScopedVerdict : Signature → ℕ → Verdict → Type 0
IsScopedVerdict S n (Yes type) = IsScoped S n type
IsScopedVerdict S n (No denial) = IsScopedDenial S denial

-- The answers are scoped, over a scoped signature and in a scoped context.

abbrev pub InferScoped : Type 0
InferScoped =
    (S : Signature) (room : ℕ) (G : Context) (t : Term) (left : ℕ) →
    IsScopedSignature S → IsScopedContext S G → IsScoped S (length G) t →
    IfOk (infer_of S room G t left).0 (IsScopedVerdict S (length G))

abbrev pub InferSortScoped : Type 0
InferSortScoped =
    (S : Signature) (room : ℕ) (G : Context) (t : Term) (left : ℕ) →
    IsScopedSignature S → IsScopedContext S G → IsScoped S (length G) t →
    IfOk (infer_sort_of S room G t left).0 (IsScopedVerdict S (length G))

abbrev pub CheckScoped : Type 0
CheckScoped =
    (S : Signature) (room : ℕ) (G : Context) (t wanted : Term) (left : ℕ) →
    IsScopedSignature S → IsScopedContext S G → IsScoped S (length G) t → IsScoped S (length G) wanted →
    IfOk (check_of S room G t wanted left).0 (IsScopedVerdict S (length G))
