-- The comparisons of clauses change the terms that all clauses of a list share: at each place where a clause was compared with a
-- constructor they leave the head form that was compared.
use Rattle.std.specs.Prelude.{Option, Some, None, List, ◌∷◌, ◌++◌}
use Rattle.theory.specs.Terms.{Term, Con}
use Rattle.theory.specs.Telescopes.{applied}
use Rattle.theory.specs.Signatures.{Signature}
use Rattle.unification.specs.Built.{Built, built_of}
use Rattle.case_trees.specs.Pairs.{Pair, Pairs, Builds, Clashes, cons, term_in}

-- If an earlier comparison has left a constructor, it stays, and what is found in its arguments is kept in them. Otherwise the new term
-- takes the place.
abbrev pub kept_over : (keep : List Term → List Term) → (new : Term) → Option Built → Term
kept_over keep new None = new
kept_over keep new (Some b) = applied (Con b.n b.number) (b.parameters ++ keep b.arguments)

abbrev pub unless_built : (new old : Term) → Option Built → Term
unless_built new old None = new
unless_built new old (Some b) = old

abbrev mutual
  -- the shared term with what a pair was compared with
  pub keep : Signature → Pair → Term → Term
  keep S (Builds n number ps pairs) t = kept_over (keep_all S pairs) (term_in (Builds n number ps pairs)) (built_of S t)
  keep S (Clashes pat w) t = unless_built w t (built_of S t)
  keep S pair t = t

  pub keep_all : Signature → Pairs → List Term → List Term
  keep_all S (cons pair pairs) (t ∷ terms) = keep S pair t ∷ keep_all S pairs terms
  keep_all S _ terms = terms
