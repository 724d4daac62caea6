-- The sizes of clauses, which fall from a clause to those inside of its `with`.
use Rattle.std.proofs.Common.{ℕ, ◌+◌}
use Rattle.core_terms.specs.Clauses as clause
use Rattle.core_terms.specs.Clauses.{Clause, Clauses, Right, Is}

abbrev mutual
  pub size_clause : Clause → ℕ
  size_clause (Is pats binds right) = 1 + size_right right

  pub size_right : Right → ℕ
  size_right (clause.Side t) = 0
  size_right (clause.With t inner) = 1 + size_clauses inner
  size_right clause.Absurd = 0

  pub size_clauses : Clauses → ℕ
  size_clauses clause.nil = 0
  size_clauses (clause.cons c clauses) = size_clause c + size_clauses clauses
