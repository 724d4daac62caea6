-- Clauses are for as many columns, whatever these are.
use Rattle.std.proofs.Common.{◌≡◌, List, [], ◌∷◌, length, refl, sym, ◌∙◌, arith}
use Rattle.theory.specs.Terms.{Term}
use Rattle.theory.specs.Signatures.{Signature}
use Rattle.core_terms.specs.Clauses as clause
use Rattle.core_terms.specs.Clauses.{Clauses, Is}
use Rattle.core_terms.specs.Patterns as pattern
use Rattle.core_terms.specs.Patterns.{Pats}
use Rattle.case_trees.specs.Scoped.{AreClausesFor}
use Rattle.case_trees.specs.pattern_vectors.Matching.{is_as_long}

pub as_long-same : (pats : Pats) (us vs : List Term) → length us ≡ length vs → is_as_long pats us ≡ is_as_long pats vs
as_long-same pattern.nil [] [] e = refl
as_long-same pattern.nil [] (v ∷ vs) e = absurd (omega (arith, e))
as_long-same pattern.nil (u ∷ us) [] e = absurd (omega (arith, e))
as_long-same pattern.nil (u ∷ us) (v ∷ vs) e = refl
as_long-same (pattern.cons pat pats) [] [] e = refl
as_long-same (pattern.cons pat pats) [] (v ∷ vs) e = absurd (omega (arith, e))
as_long-same (pattern.cons pat pats) (u ∷ us) [] e = absurd (omega (arith, e))
as_long-same (pattern.cons pat pats) (u ∷ us) (v ∷ vs) e = as_long-same pats us vs (omega (arith, e))

pub clauses-for : (S : Signature) (us vs : List Term) (clauses : Clauses) → length us ≡ length vs → AreClausesFor S us clauses → AreClausesFor S vs clauses
clauses-for S us vs clause.nil e h = h
clauses-for S us vs (clause.cons (Is pats binds right) clauses) e h = (
  record {
    long = sym (as_long-same pats us vs e) ∙ h.0.long;
    whole = h.0.whole;
    count = h.0.count;
    scoped = h.0.scoped;
  },
  clauses-for S us vs clauses e h.1,
)
