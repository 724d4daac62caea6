-- Bindings and dots of scoped pairs are scoped.
use Rattle.std.proofs.Common.{ℕ, Bool, true, false, cond, Option, None, List, [], ◌∷◌, ◌++◌, map, sym, subst as transport}
use Rattle.std.proofs.lemmas.List.{map-append}
use Rattle.std.proofs.lemmas.List.Elements.{All-append, All-cons, All-nil, All-head, All-tail}
use Rattle.std.specs.List.{All}
use Rattle.theory.specs.Terms.{Term}
use Rattle.theory.specs.Signatures.{Signature}
use Rattle.theory.specs.SignatureScopes.{IsScoped}
use Rattle.theory.proofs.ScopedTerms.{sort-scoped}
use Rattle.core_terms.specs.Patterns as pattern
use Rattle.core_terms.specs.Patterns.{Pat, Pats}
use Rattle.case_trees.specs.Pairs.{Pair, Pairs, Waits, Binds, Passes, Keeps, Builds, Clashes, nil, cons, term_in, terms_in, unbound, all_unbound, bound_in, all_bound, dots_in, all_dots}
use Rattle.case_trees.specs.OwnWalks.{or_none, mentions_unbound, walked_dots}
use Rattle.case_trees.specs.Points.{under_solution}
use Rattle.case_trees.specs.Scoped.{IsScopedPattern, AreScopedPatterns}
use Rattle.case_trees.proofs.Shapes as shape
use Rattle.case_trees.proofs.Shapes.{HasShape, HaveShapes}
use Rattle.case_trees.proofs.ScopedPoints.{under-scoped}
use Rattle.case_trees.proofs.ScopedWorking.{applied-parts}

mapped-append : (S : Signature) (n : ℕ) (first rest : List (Option Term)) → All (IsScoped S n) (map or_none first) → All (IsScoped S n) (map or_none rest)
    → All (IsScoped S n) (map or_none (first ++ rest))
mapped-append S n first rest h k =
    transport (All (IsScoped S n)) (sym (map-append or_none first rest)) (All-append (IsScoped S n) (map or_none first) (map or_none rest) h k)

mutual
  unbound-scoped : (S : Signature) (n : ℕ) (pat : Pat) → All (IsScoped S n) (map or_none (unbound pat))
  unbound-scoped S n pattern.Bind = All-cons (IsScoped S n) (or_none None) [] (sort-scoped 0) (All-nil (IsScoped S n))
  unbound-scoped S n pattern.Wild = All-nil (IsScoped S n)
  unbound-scoped S n (pattern.Dot written) = All-nil (IsScoped S n)
  unbound-scoped S n (pattern.Con m k pats) = all-unbound-scoped S n pats
  unbound-scoped S n pattern.Absurd = All-nil (IsScoped S n)

  all-unbound-scoped : (S : Signature) (n : ℕ) (pats : Pats) → All (IsScoped S n) (map or_none (all_unbound pats))
  all-unbound-scoped S n pattern.nil = All-nil (IsScoped S n)
  all-unbound-scoped S n (pattern.cons pat pats) =
      mapped-append S n (unbound pat) (all_unbound pats) (unbound-scoped S n pat) (all-unbound-scoped S n pats)

mutual
  bound-scoped : (S : Signature) (n : ℕ) (pair : Pair) → IsScoped S n (term_in pair) → All (IsScoped S n) (map or_none (bound_in pair))
  bound-scoped S n (Waits pat t) h = unbound-scoped S n pat
  bound-scoped S n (Binds t) h = All-cons (IsScoped S n) t [] h (All-nil (IsScoped S n))
  bound-scoped S n (Passes t) h = All-nil (IsScoped S n)
  bound-scoped S n (Keeps written t) h = All-nil (IsScoped S n)
  bound-scoped S n (Builds m k ps pairs) h = all-bound-scoped S n pairs (applied-parts S n m k ps (terms_in pairs) h).2
  bound-scoped S n (Clashes pat t) h = unbound-scoped S n pat

  pub all-bound-scoped : (S : Signature) (n : ℕ) (pairs : Pairs) → All (IsScoped S n) (terms_in pairs) → All (IsScoped S n) (map or_none (all_bound pairs))
  all-bound-scoped S n nil h = All-nil (IsScoped S n)
  all-bound-scoped S n (cons pair pairs) h =
      mapped-append S n (bound_in pair) (all_bound pairs) (bound-scoped S n pair (All-head (IsScoped S n) (term_in pair) (terms_in pairs) h))
      (all-bound-scoped S n pairs (All-tail (IsScoped S n) (term_in pair) (terms_in pairs) h))

-- a written term over so many variables, and the term over n
abbrev pub IsScopedDot : Signature → (binds n : ℕ) → (Term × Term) → Type 0
IsScopedDot S binds n d = IsScoped S binds d.0 × IsScoped S n d.1

mutual
  dots-scoped : (S : Signature) (n binds : ℕ) (pat : Pat) (pair : Pair) → HasShape S pat pair → IsScopedPattern S binds pat → IsScoped S n (term_in pair)
      → All (IsScopedDot S binds n) (dots_in pair)
  dots-scoped S n binds _ _ (shape.waits pat t) p h = All-nil (IsScopedDot S binds n)
  dots-scoped S n binds _ _ (shape.binds t) p h = All-nil (IsScopedDot S binds n)
  dots-scoped S n binds _ _ (shape.passes t) p h = All-nil (IsScopedDot S binds n)
  dots-scoped S n binds _ _ (shape.keeps written t) p h = All-cons (IsScopedDot S binds n) (written, t) [] (p, h) (All-nil (IsScopedDot S binds n))
  dots-scoped S n binds _ _ (shape.builds m k pats b pairs e same args shapes) p h =
      all-dots-scoped S n binds pats pairs shapes p.1 (applied-parts S n b.n b.number b.parameters (terms_in pairs) h).2
  dots-scoped S n binds _ _ (shape.apart pat t far) p h = All-nil (IsScopedDot S binds n)

  pub all-dots-scoped : (S : Signature) (n binds : ℕ) (pats : Pats) (pairs : Pairs) → HaveShapes S pats pairs → AreScopedPatterns S binds pats
      → All (IsScoped S n) (terms_in pairs) → All (IsScopedDot S binds n) (all_dots pairs)
  all-dots-scoped S n binds _ _ shape.none p h = All-nil (IsScopedDot S binds n)
  all-dots-scoped S n binds _ _ (shape.more pat pats pair pairs one others) p h =
      All-append (IsScopedDot S binds n) (dots_in pair) (all_dots pairs)
      (dots-scoped S n binds pat pair one p.0 (All-head (IsScoped S n) (term_in pair) (terms_in pairs) h))
      (all-dots-scoped S n binds pats pairs others p.1 (All-tail (IsScoped S n) (term_in pair) (terms_in pairs) h))

-- dots with the bindings put in the written term
pub walked-scoped : (S : Signature) (n binds : ℕ) (bound : List (Option Term)) (written : List (Term × Term)) → All (IsScoped S n) (map or_none bound)
    → All (IsScopedDot S binds n) written → All (λ d. IsScoped S n d.0 × IsScoped S n d.1) (walked_dots bound written)
walked-scoped S n binds bound [] all h = All-nil (λ d. IsScoped S n d.0 × IsScoped S n d.1)
walked-scoped S n binds bound (d ∷ written) all h =
    by (mentions_unbound bound d.0) (walked-scoped S n binds bound written all (All-tail (IsScopedDot S binds n) d written h))
    (All-head (IsScopedDot S binds n) d written h)
  where
    by : (test : Bool) → All (λ e. IsScoped S n e.0 × IsScoped S n e.1) (walked_dots bound written) → IsScopedDot S binds n d
        → All (λ e. IsScoped S n e.0 × IsScoped S n e.1)
        (cond test (walked_dots bound written) ((under_solution (map or_none bound) d.0, d.1) ∷ walked_dots bound written))
    by true rest one = rest
    by false rest one =
        All-cons (λ e. IsScoped S n e.0 × IsScoped S n e.1) (under_solution (map or_none bound) d.0, d.1) (walked_dots bound written)
        (under-scoped S binds n (map or_none bound) d.0 all one.0, one.1) rest
