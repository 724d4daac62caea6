-- The sizes of written clauses, which fall from a clause to those of its `with`.
use Rattle.std.proofs.Common.{◌≡◌, ℕ, zero, suc, ◌+◌, ◌<◌, ◌≤◌, List, [], ◌∷◌, map, length, get_or, ap, arith}
use Rattle.surface_syntax.specs.Trees as surf
use Rattle.surface_syntax.specs.TreeMeanings.{clause_of}
use Rattle.surface_syntax.specs.declared.tree.SurfClause.{SurfClause}

abbrev mutual
  pub size_clause : surf.Clause → ℕ
  size_clause (surf.Is x pats right) = 1 + size_right right

  pub size_right : surf.Right → ℕ
  size_right (surf.Side t) = 0
  size_right (surf.With t cs) = 1 + size_clauses cs
  size_right surf.Absurd = 0

  pub size_clauses : surf.Clauses → ℕ
  size_clauses surf.no_clause = 0
  size_clauses (surf.also c cs) = size_clause c + size_clauses cs

size_at : (cs : List SurfClause) (k : ℕ) (d : SurfClause) → k < length cs → size_clause (clause_of (get_or cs k d)) ≤ size_clauses (surf.clauses (map clause_of cs))
size_at [] k d lt = absurd (omega arith)
size_at (c ∷ cs) zero d lt = omega arith
size_at (c ∷ cs) (suc k) d lt = omega (arith, size_at cs k d (omega arith))

pub size_clause_item : (cs : List SurfClause) (k : ℕ) (c : SurfClause) → k < length cs → c ≡ get_or cs k c → size_clause (clause_of c) ≤ size_clauses (surf.clauses (map clause_of cs))
size_clause_item cs k c lt is =
    let at = size_at cs k c lt in
    let e : size_clause (clause_of c) ≡ size_clause (clause_of (get_or cs k c)) = ap (λ c. size_clause (clause_of c)) is in
    omega arith
