-- Reduced terms are scoped again.
use Rattle.std.proofs.Common.{◌≡◌, ℕ, Bool, true, false, cond, Option, Some, None, Ok, List, [], ◌∷◌, ◌++◌, refl, subst as transport}
use Rattle.std.proofs.lemmas.List.Elements.{All-append}
use Rattle.theory.specs.Terms.{Term, Con}
use Rattle.theory.specs.Signatures.{Signature}
use Rattle.theory.specs.SignatureScopes.{IsScoped, IsScopedSignature}
use Rattle.theory.proofs.ScopedTerms.{applied-scoped}
use Rattle.core_terms.specs.Answers.{Spent, and_next, bounded}
use Rattle.core_terms.specs.Patterns as pattern
use Rattle.core_terms.specs.Patterns.{Pat, Pats}
use Rattle.core_terms.proofs.Answers.{Answers, and_next-has, bounded-has}
use Rattle.kernel_reduce.specs.Reduction.{answered, whnf_of}
use Rattle.kernel_reduce.specs.WellScoped.{AreScoped}
use Rattle.kernel_reduce.proofs.ScopedReduction.{whnf-scoped}
use Rattle.kernel_reduce.proofs.WellScoped.{all-scoped, scoped-all}
use Rattle.unification.specs.Built.{Built, built_of}
use Rattle.unification.proofs.Constructors.{built-is}
use Rattle.case_trees.specs.pattern_vectors.Matching.{is_constructor}
use Rattle.case_trees.specs.Kept.{at_arguments}
use Rattle.case_trees.proofs.ScopedWorking.{applied-parts}
use Rattle.clause_reports.specs.Shadows.{all_reduced, reduced_arguments, reduced_by}

module _ (S : Signature) (n : ℕ) where
  -- a constructor at other arguments
  others-scoped : (w : Term) (b : Built) (us : List Term) → built_of S w ≡ Some b → IsScoped S n w → AreScoped S n us → IsScoped S n (at_arguments b us)
  others-scoped w b us e h scoped =
      let parts = applied-parts S n b.n b.number b.parameters b.arguments (transport (IsScoped S n) (built-is S w b e).term h) in
      applied-scoped S n (Con b.n b.number) (b.parameters ++ us) parts.0
      (All-append (IsScoped S n) b.parameters us parts.1 (all-scoped S n us scoped))

  own-scoped : (w : Term) (b : Built) → built_of S w ≡ Some b → IsScoped S n w → AreScoped S n b.arguments
  own-scoped w b e h =
      let parts = applied-parts S n b.n b.number b.parameters b.arguments (transport (IsScoped S n) (built-is S w b e).term h) in
      scoped-all S n b.arguments parts.2

  module _ (m k : ℕ) (reduce : List Term → ℕ → Spent (List Term)) (keeps : (us : List Term) (left : ℕ) → AreScoped S n us → Answers (AreScoped S n) (reduce us left))
      (w : Term) (h : IsScoped S n w) (left : ℕ) where
    by-test : (b : Built) → built_of S w ≡ Some b → (test : Bool)
        → Answers (IsScoped S n) (cond test (and_next (reduce b.arguments left) (λ us rest. answered (bounded (at_arguments b us)) rest)) (answered (Ok w) left))
    by-test b e true =
        and_next-has (AreScoped S n) (IsScoped S n) (reduce b.arguments left) (λ us rest. answered (bounded (at_arguments b us)) rest)
        (keeps b.arguments left (own-scoped w b e h))
        (λ us rest scoped. bounded-has (IsScoped S n) (at_arguments b us) (λ low. others-scoped w b us e h scoped))
    by-test b e false = h

    by-built : (o : Option Built) → built_of S w ≡ o → Answers (IsScoped S n) (reduced_arguments m k reduce w o left)
    by-built None e = h
    by-built (Some b) e = by-test b e (is_constructor m k b)

    arguments-kept : Answers (IsScoped S n) (reduced_arguments m k reduce w (built_of S w) left)
    arguments-kept = by-built (built_of S w) refl

mutual
  reduced-scoped : (S : Signature) (n : ℕ) → IsScopedSignature S → (pat : Pat) (t : Term) (left : ℕ) → IsScoped S n t → Answers (IsScoped S n) (reduced_by S pat t left)
  reduced-scoped S n scoped (pattern.Con m k pats) t left h =
      and_next-has (IsScoped S n) (IsScoped S n) (whnf_of S true left t) (λ w rest. reduced_arguments m k (all_reduced S pats) w (built_of S w) rest)
      (whnf-scoped S true left n t scoped h)
      (λ w rest scoped_form. arguments-kept S n m k (all_reduced S pats) (λ us end all. all-reduced-scoped S n scoped pats us end all) w scoped_form rest)
  reduced-scoped S n scoped pattern.Bind t left h = h
  reduced-scoped S n scoped pattern.Wild t left h = h
  reduced-scoped S n scoped (pattern.Dot forced) t left h = h
  reduced-scoped S n scoped pattern.Absurd t left h = h

  pub all-reduced-scoped : (S : Signature) (n : ℕ) → IsScopedSignature S → (pats : Pats) (terms : List Term) (left : ℕ) → AreScoped S n terms
      → Answers (AreScoped S n) (all_reduced S pats terms left)
  all-reduced-scoped S n scoped pattern.nil terms left h = h
  all-reduced-scoped S n scoped (pattern.cons pat pats) [] left h = h
  all-reduced-scoped S n scoped (pattern.cons pat pats) (t ∷ terms) left h =
      and_next-has (IsScoped S n) (AreScoped S n) (reduced_by S pat t left)
      (λ u rest. and_next (all_reduced S pats terms rest) (λ us end. answered (Ok (u ∷ us)) end))
      (reduced-scoped S n scoped pat t left h.0)
      (λ u rest first.
      and_next-has (AreScoped S n) (AreScoped S n) (all_reduced S pats terms rest) (λ us end. answered (Ok (u ∷ us)) end)
      (all-reduced-scoped S n scoped pats terms rest h.1)
      (λ us end others. (first, others)))
