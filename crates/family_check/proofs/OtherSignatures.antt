-- Denials and terms that are scoped over one signature are scoped over another that has the numbers of the first one.
use Rattle.std.proofs.Common.{◌≡◌, ℕ, ◌+◌, List, [], ◌∷◌, length, sym, ap, ◌∙◌, subst as transport, inl, inr, arith}
use Rattle.theory.specs.Families.{Argument, Family}
use Rattle.theory.specs.Families.Argument.{Plain, Recursive}
use Rattle.theory.specs.Signatures.{Signature, Entry, FamilyOf, EliminatorAt, AxiomKAt, Definition, IsEntryAt}
use Rattle.theory.specs.WellFormed.{pushed}
use Rattle.theory.specs.SignatureScopes.{IsConstantNumber, IsFamilyNumber, IsConstructorNumber, IsScopedArguments}
use Rattle.theory.proofs.Lists.{slice_get-last, slice_get-longer}
use Rattle.theory.proofs.Pushing.{push_is_longer, entry_of-pushed}
use Rattle.theory.proofs.Widening.{prefix_keeps}
use Rattle.theory.proofs.ScopedTerms.{HasNumbers, keeps-numbers, scoped-wider, telescope-wider}
use Rattle.core_terms.specs.Verdicts.{Reason, Denial}
use Rattle.core_terms.specs.Verdicts.Reason.{Mismatch, NotAProduct, NotASort, NoSuchInstance}
use Rattle.kernel_check.specs.Laws.{IsScopedReason, IsScopedDenial}

reason-wider : {S T : Signature} → HasNumbers S T → (n : ℕ) (reason : Reason) → IsScopedReason S n reason → IsScopedReason T n reason
reason-wider m n (Mismatch found wanted) h = (scoped-wider m h.0, scoped-wider m h.1)
reason-wider m n (NotAProduct found) h = scoped-wider m h
reason-wider m n (NotASort found) h = scoped-wider m h
reason-wider m n NoSuchInstance h = tt
reason-wider m n _ h = tt

pub denial-wider : {S T : Signature} → HasNumbers S T → (denial : Denial) → IsScopedDenial S denial → IsScopedDenial T denial
denial-wider m denial h = (telescope-wider m 0 denial.ctx h.0, reason-wider m (length denial.ctx) denial.reason h.1)

-- one entry more
pub pushed-numbers : (S : Signature) (e : Entry) → HasNumbers S (pushed S e)
pushed-numbers S e = keeps-numbers (prefix_keeps (push_is_longer S e))

is_family : Entry → Type 0
is_family (FamilyOf f) = Unit {0}
is_family _ = ⊥

is_definition : Entry → Type 0
is_definition (Definition name type body) = Unit {0}
is_definition _ = ⊥

record_of : Family → Entry → Family
record_of f (FamilyOf g) = g
record_of f _ = f

-- without its last entry, where that is an instance
without-numbers : (S : Signature) (e : Entry) → ¬ (is_family e) → ¬ (is_definition e) → HasNumbers (pushed S e) S
unfolding is_family is_definition
without-numbers S e no_family no_definition = record {
  constants = λ n h. (h.0, h.1, h.2, earlier n _ (λ x same. no_definition (transport is_definition (sym same) tt)) h.3);
  families = λ n h. (h.0, earlier n _ (λ x same. no_family (transport is_family (sym same) tt)) h.1);
  constructors = λ n c h. (h.0, earlier n _ (λ x same. no_family (transport is_family (sym same) tt)) h.1, h.2);
}
  where
    earlier : (n : ℕ) (x : Entry) → (Unit {0} → e ≡ x → ⊥) → IsEntryAt (pushed S e) n x → IsEntryAt S n x
    earlier n x other at = elim (entry_of-pushed S e n x at) [
      | inl before ↦ before
      | inr (place, same) ↦ absurd (other tt same)
    ]

pub without_eliminator-numbers : (S : Signature) (n m : ℕ) → HasNumbers (pushed S (EliminatorAt n m)) S
unfolding is_family is_definition
without_eliminator-numbers S n m = without-numbers S (EliminatorAt n m) (λ no. no) (λ no. no)

pub without_axiom_k-numbers : (S : Signature) (i m : ℕ) → HasNumbers (pushed S (AxiomKAt i m)) S
unfolding is_family is_definition
without_axiom_k-numbers S i m = without-numbers S (AxiomKAt i m) (λ no. no) (λ no. no)

-- another family in the place of one without constructors
pub other_family-numbers : (S : Signature) (f g : Family) → f.constructors ≡ [] → HasNumbers (pushed S (FamilyOf f)) (pushed S (FamilyOf g))
unfolding is_definition record_of
other_family-numbers S f g bare = record { constants = constants; families = families; constructors = constructors }
  where
    kept : (n : ℕ) (x : Entry) → IsEntryAt S n x → IsEntryAt (pushed S (FamilyOf g)) n x
    kept n x at = slice_get-longer S.entries (FamilyOf g ∷ []) n x at

    constants : (n : ℕ) → IsConstantNumber (pushed S (FamilyOf f)) n → IsConstantNumber (pushed S (FamilyOf g)) n
    constants n (name, type, body, at) = elim (entry_of-pushed S (FamilyOf f) n (Definition name type body) at) [
      | inl before ↦ (name, type, body, kept n _ before)
      | inr (place, same) ↦ absurd (transport is_definition (sym same) tt)
    ]

    families : (n : ℕ) → IsFamilyNumber (pushed S (FamilyOf f)) n → IsFamilyNumber (pushed S (FamilyOf g)) n
    families n (h, at) = elim (entry_of-pushed S (FamilyOf f) n (FamilyOf h) at) [
      | inl before ↦ (h, kept n _ before)
      | inr (place, same) ↦
          (g, transport (λ k. IsEntryAt (pushed S (FamilyOf g)) k (FamilyOf g)) (sym place) (slice_get-last S.entries (FamilyOf g)))
    ]

    constructors : (n c : ℕ) → IsConstructorNumber (pushed S (FamilyOf f)) n c → IsConstructorNumber (pushed S (FamilyOf g)) n c
    constructors n c (h, at, lt) = elim (entry_of-pushed S (FamilyOf f) n (FamilyOf h) at) [
      | inl before ↦ (h, kept n _ before, lt)
      | inr (place, same) ↦
          let none : (h).constructors ≡ [] = ap (λ x. (record_of f x).constructors) (sym same) ∙ bare in
          absurd (let empty = ap length none in omega arith)
    ]

pub arguments-wider : {S T : Signature} → HasNumbers S T → (n : ℕ) (arguments : List Argument) → IsScopedArguments S n arguments → IsScopedArguments T n arguments
arguments-wider m n [] h = tt
arguments-wider m n (Plain type level ∷ arguments) h = ((scoped-wider m h.0.0, h.0.1), arguments-wider m (n + 1) arguments h.1)
arguments-wider m n (Recursive inner targets level ∷ arguments) h =
    ((telescope-wider m n inner h.0.0, λ k d w. scoped-wider m (h.0.1 k d w), h.0.2), arguments-wider m (n + 1) arguments h.1)
