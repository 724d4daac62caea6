-- The meanings of the code's patterns and clauses.
use Rattle.std.specs.Prelude.{List, map}
use Rattle.core_terms.specs.Meanings.{tree_of}
use Rattle.core_terms.specs.Patterns as pattern
use Rattle.core_terms.specs.Clauses as clause
use Rattle.core_terms.specs.declared.pattern.Pat.{Pat}
use Rattle.core_terms.specs.declared.pattern.Pat.TheOpen as open_pat
use Rattle.core_terms.specs.declared.pattern.Pat.TheFolds.{fold-Pat}
use Rattle.core_terms.specs.declared.pattern.Right.{Right}
use Rattle.core_terms.specs.declared.pattern.Clause.{Clause}
use Rattle.core_terms.specs.declared.pattern.Right.TheOpen as open_clause
use Rattle.core_terms.specs.declared.pattern.Right.TheFolds.{fold-Right, fold-Clause}

-- a pattern, once its arguments are given
abbrev pub pat_step : open_pat.Pat-F pattern.Pat → pattern.Pat
pat_step open_pat.Bind = pattern.Bind
pat_step open_pat.Wild = pattern.Wild
pat_step (open_pat.Dot t) = pattern.Dot (tree_of t)
pat_step (open_pat.Con f c args) = pattern.Con f c (pattern.vector args)
pat_step open_pat.Absurd = pattern.Absurd

abbrev pub pat_of : Pat → pattern.Pat
pat_of = fold-Pat pattern.Pat pat_step

abbrev pub pats_of : List Pat → pattern.Pats
pats_of pats = pattern.vector (map pat_of pats)

-- the right side after the patterns, once the clauses of a `with` are given
abbrev pub right_step : open_clause.Right-F clause.Right clause.Clause → clause.Right
right_step (open_clause.Side t) = clause.Side (tree_of t)
right_step (open_clause.With t inner) = clause.With (tree_of t) (clause.clauses inner)
right_step open_clause.Absurd = clause.Absurd

-- a clause, once its right side is given
abbrev pub clause_step : open_clause.Clause-F clause.Right clause.Clause → clause.Clause
clause_step c = clause.Is (pats_of c.pats) c.binds c.right

abbrev pub right_of : Right → clause.Right
right_of = fold-Right clause.Right clause.Clause right_step clause_step

abbrev pub clause_of : Clause → clause.Clause
clause_of = fold-Clause clause.Right clause.Clause right_step clause_step

abbrev pub clauses_of : List Clause → clause.Clauses
clauses_of list = clause.clauses (map clause_of list)
