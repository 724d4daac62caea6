-- Working keeps the terms of a clause scoped.
use Rattle.std.proofs.Common.{ℕ, true, IfOk, List, [], ◌∷◌, ◌++◌, subst as transport}
use Rattle.std.proofs.lemmas.List.Elements.{All-append, All-cons, All-nil, All-head, All-tail}
use Rattle.std.specs.List.{All}
use Rattle.theory.specs.Terms.{Term, Con}
use Rattle.theory.specs.Telescopes.{applied}
use Rattle.theory.specs.Signatures.{Signature}
use Rattle.theory.specs.SignatureScopes.{IsScoped, IsScopedSignature}
use Rattle.theory.proofs.AllOf.{all_left, all_right}
use Rattle.theory.proofs.ScopedTerms.{applied-scoped, head-scoped, spine-scoped}
use Rattle.core_terms.specs.Patterns as pattern
use Rattle.core_terms.specs.Patterns.{Pat, Pats}
use Rattle.kernel_reduce.proofs.ScopedReduction.{whnf-scoped}
use Rattle.unification.proofs.Constructors.{built-is}
use Rattle.case_trees.specs.Pairs.{Pair, Pairs, waiting, term_in, terms_in}
use Rattle.case_trees.proofs.Arguments.{head-applied, spine-applied}
use Rattle.case_trees.proofs.ScopedPoints.{built-parts}
use Rattle.case_trees.proofs.Workings as work
use Rattle.case_trees.proofs.Workings.{ReducesTo, Works, WorkAll, Becomes, AllBecome}

pub reduced-scoped : (S : Signature) (n : ℕ) → IsScopedSignature S → (t w : Term) → ReducesTo S t w → IsScoped S n t → IsScoped S n w
reduced-scoped S n scoped t w to h = transport (λ r. IfOk r (IsScoped S n)) to.run (whnf-scoped S true to.units n t scoped h)

-- the parts of a constructor that is applied
pub applied-parts : (S : Signature) (n m k : ℕ) (ps us : List Term) → IsScoped S n (applied (Con m k) (ps ++ us))
    → IsScoped S n (Con m k) × All (IsScoped S n) ps × All (IsScoped S n) us
applied-parts S n m k ps us h =
    let spine = transport (All (IsScoped S n)) (spine-applied (Con m k) (ps ++ us)) (spine-scoped S n (applied (Con m k) (ps ++ us)) h) in (
      transport (IsScoped S n) (head-applied (Con m k) (ps ++ us)) (head-scoped S n (applied (Con m k) (ps ++ us)) h),
      all_left (IsScoped S n) ps us spine,
      all_right (IsScoped S n) ps us spine,
    )

applied-again : (S : Signature) (n m k : ℕ) (ps us vs : List Term) → IsScoped S n (applied (Con m k) (ps ++ us)) → All (IsScoped S n) vs
    → IsScoped S n (applied (Con m k) (ps ++ vs))
applied-again S n m k ps us vs h all =
    let parts = applied-parts S n m k ps us h in
    applied-scoped S n (Con m k) (ps ++ vs) parts.0 (All-append (IsScoped S n) ps vs parts.1 all)

pub waiting-scoped : (S : Signature) (n : ℕ) (pats : Pats) (terms : List Term) → All (IsScoped S n) terms → All (IsScoped S n) (terms_in (waiting pats terms))
waiting-scoped S n pattern.nil terms all = All-nil (IsScoped S n)
waiting-scoped S n (pattern.cons pat pats) [] all = All-nil (IsScoped S n)
waiting-scoped S n (pattern.cons pat pats) (t ∷ terms) all =
    All-cons (IsScoped S n) t (terms_in (waiting pats terms)) (All-head (IsScoped S n) t terms all)
    (waiting-scoped S n pats terms (All-tail (IsScoped S n) t terms all))

mutual
  works-scoped : (S : Signature) (n : ℕ) → IsScopedSignature S → (pat : Pat) (t : Term) (pair : Pair) → Works S pat t pair → IsScoped S n t → IsScoped S n (term_in pair)
  works-scoped S n scoped _ _ _ (work.binds t) h = h
  works-scoped S n scoped _ _ _ (work.passes t) h = h
  works-scoped S n scoped _ _ _ (work.keeps written t) h = h
  works-scoped S n scoped _ _ _ (work.stays m k pats t w to e) h = h
  works-scoped S n scoped _ _ _ (work.builds m k pats t w b pairs to e same all) h =
      let form = reduced-scoped S n scoped t w to h in
      let parts = built-parts S n w b form e in
      applied-again S n b.n b.number b.parameters b.arguments (terms_in pairs) (transport (IsScoped S n) (built-is S w b e).term form)
      (work-scoped S n scoped pats b.arguments pairs all parts.arguments)
  works-scoped S n scoped _ _ _ (work.clash m k pats t w b to e other) h = reduced-scoped S n scoped t w to h
  works-scoped S n scoped _ _ _ (work.absurd_stays t w to e) h = h
  works-scoped S n scoped _ _ _ (work.absurd_clash t w b to e) h = reduced-scoped S n scoped t w to h

  work-scoped : (S : Signature) (n : ℕ) → IsScopedSignature S → (pats : Pats) (ts : List Term) (pairs : Pairs) → WorkAll S pats ts pairs
      → All (IsScoped S n) ts → All (IsScoped S n) (terms_in pairs)
  work-scoped S n scoped _ _ _ (work.no_patterns terms) h = All-nil (IsScoped S n)
  work-scoped S n scoped _ _ _ (work.no_terms pat pats) h = All-nil (IsScoped S n)
  work-scoped S n scoped _ _ _ (work.more pat pats t terms pair pairs one clean all) h =
      All-cons (IsScoped S n) (term_in pair) (terms_in pairs) (works-scoped S n scoped pat t pair one (All-head (IsScoped S n) t terms h))
      (work-scoped S n scoped pats terms pairs all (All-tail (IsScoped S n) t terms h))
  work-scoped S n scoped _ _ _ (work.ends pat pats t terms pair one clash) h =
      All-cons (IsScoped S n) (term_in pair) (terms_in (waiting pats terms)) (works-scoped S n scoped pat t pair one (All-head (IsScoped S n) t terms h))
      (waiting-scoped S n pats terms (All-tail (IsScoped S n) t terms h))

mutual
  becomes-scoped : (S : Signature) (n : ℕ) → IsScopedSignature S → (pair new : Pair) → Becomes S pair new → IsScoped S n (term_in pair) → IsScoped S n (term_in new)
  becomes-scoped S n scoped _ _ (work.worked pat t new one) h = works-scoped S n scoped pat t new one h
  becomes-scoped S n scoped _ _ (work.inside m k ps pairs new all) h =
      applied-again S n m k ps (terms_in pairs) (terms_in new) h
      (all-become-scoped S n scoped pairs new all (applied-parts S n m k ps (terms_in pairs) h).2)
  becomes-scoped S n scoped _ _ (work.bound t) h = h
  becomes-scoped S n scoped _ _ (work.passed t) h = h
  becomes-scoped S n scoped _ _ (work.kept written t) h = h
  becomes-scoped S n scoped _ _ (work.clashed pat t) h = h

  -- the terms of worked pairs
  pub all-become-scoped : (S : Signature) (n : ℕ) → IsScopedSignature S → (pairs new : Pairs) → AllBecome S pairs new → All (IsScoped S n) (terms_in pairs)
      → All (IsScoped S n) (terms_in new)
  all-become-scoped S n scoped _ _ work.none h = h
  all-become-scoped S n scoped _ _ (work.more pair new pairs others one clean all) h =
      All-cons (IsScoped S n) (term_in new) (terms_in others) (becomes-scoped S n scoped pair new one (All-head (IsScoped S n) (term_in pair) (terms_in pairs) h))
      (all-become-scoped S n scoped pairs others all (All-tail (IsScoped S n) (term_in pair) (terms_in pairs) h))
  all-become-scoped S n scoped _ _ (work.ends pair new pairs one clash) h =
      All-cons (IsScoped S n) (term_in new) (terms_in pairs) (becomes-scoped S n scoped pair new one (All-head (IsScoped S n) (term_in pair) (terms_in pairs) h))
      (All-tail (IsScoped S n) (term_in pair) (terms_in pairs) h)
