-- The terms that clauses were compared with are scoped where the terms are, whatever is written in dots.
use Rattle.std.proofs.Common.{◌≡◌, ℕ, Option, Some, None, List, [], ◌∷◌, ◌++◌, length, refl, arith}
use Rattle.std.proofs.lemmas.List.Elements.{All-append, All-cons, All-head, All-tail}
use Rattle.std.proofs.lemmas.Option.{slice_get_within}
use Rattle.std.specs.List.{All}
use Rattle.theory.specs.Terms.{Term, Con}
use Rattle.theory.specs.Signatures.{Signature}
use Rattle.theory.specs.SignatureScopes.{IsScoped}
use Rattle.theory.proofs.ScopedTerms.{applied-scoped}
use Rattle.unification.specs.Built.{Built, built_of}
use Rattle.case_trees.specs.Keeping.{keep, keep_all, kept_over, unless_built}
use Rattle.case_trees.specs.Pairs as pair
use Rattle.case_trees.specs.Pairs.{Binds, Builds, Clashes, Keeps, Pair, Pairs, Passes, Waits, term_in, terms_in}
use Rattle.case_trees.specs.Points.{Point}
use Rattle.case_trees.specs.Scoped.{IsScopedPoint}
use Rattle.case_trees.proofs.ScopedPoints.{built-parts}
use Rattle.case_trees.proofs.ScopedWorking.{applied-parts}

module _ (S : Signature) (n : ℕ) where
  mutual
    keep-scoped : (p : Pair) (t : Term) → IsScoped S n (term_in p) → IsScoped S n t → IsScoped S n (keep S p t)
    keep-scoped (Builds m k ps pairs) t h old =
        by (λ us all. keep-all-scoped pairs us (applied-parts S n m k ps (terms_in pairs) h).2 all) (built_of S t) refl
      where
        by : ((us : List Term) → All (IsScoped S n) us → All (IsScoped S n) (keep_all S pairs us)) → (o : Option Built) → built_of S t ≡ o
            → IsScoped S n (kept_over (keep_all S pairs) (term_in (Builds m k ps pairs)) o)
        by inside None e = h
        by inside (Some b) e =
            let parts = built-parts S n t b old e in
            let head : IsScoped S n (Con b.n b.number) =
            record {
              variables = omega arith;
              entries = (b.family, parts.entry, slice_get_within b.family.constructors b.number b.constructor parts.constructor);
            } in
            applied-scoped S n (Con b.n b.number) (b.parameters ++ keep_all S pairs b.arguments) head
            (All-append (IsScoped S n) b.parameters (keep_all S pairs b.arguments) parts.parameters
            (inside b.arguments parts.arguments))
    keep-scoped (Clashes pat w) t h old = by (built_of S t)
      where
        by : (o : Option Built) → IsScoped S n (unless_built w t o)
        by None = h
        by (Some b) = old
    keep-scoped (Waits pat u) t h old = old
    keep-scoped (Binds u) t h old = old
    keep-scoped (Passes u) t h old = old
    keep-scoped (Keeps written u) t h old = old

    pub keep-all-scoped : (pairs : Pairs) (terms : List Term) → All (IsScoped S n) (terms_in pairs) → All (IsScoped S n) terms
        → All (IsScoped S n) (keep_all S pairs terms)
    keep-all-scoped (pair.cons p pairs) (t ∷ terms) h old =
        All-cons (IsScoped S n) (keep S p t) (keep_all S pairs terms)
        (keep-scoped p t (All-head (IsScoped S n) (term_in p) (terms_in pairs) h) (All-head (IsScoped S n) t terms old))
        (keep-all-scoped pairs terms (All-tail (IsScoped S n) (term_in p) (terms_in pairs) h) (All-tail (IsScoped S n) t terms old))
    keep-all-scoped (pair.cons p pairs) [] h old = old
    keep-all-scoped pair.nil terms h old = old

-- the point with what the pairs of a clause were compared with
pub kept-point : (S : Signature) (p : Point) (pairs : Pairs) → IsScopedPoint S p → All (IsScoped S (length p.context)) (terms_in pairs)
    → IsScopedPoint S (record p { terms = keep_all S pairs p.terms })
kept-point S p pairs h terms = record {
  context = h.context;
  goal = h.goal;
  substitution = h.substitution;
  terms = keep-all-scoped S (length p.context) pairs p.terms terms h.terms;
}
