-- How many parts a declaration has.
use Rattle.std.specs.Prelude.{◌≤◌, ◌+◌, ℕ, length}
use Rattle.surface_syntax.specs.Trees as surf

-- how many `with` are in clauses
abbrev mutual
  pub withs_right : surf.Right → ℕ
  withs_right (surf.Side t) = 0
  withs_right (surf.With t cs) = 1 + withs cs
  withs_right surf.Absurd = 0

  pub withs_clause : surf.Clause → ℕ
  withs_clause (surf.Is w ps right) = withs_right right

  pub withs : surf.Clauses → ℕ
  withs surf.no_clause = 0
  withs (surf.also c cs) = withs_clause c + withs cs

-- there are no more parameters, constructors, members, tags and `with` than this number
abbrev pub HasFew : ℕ → surf.Decl → Type 0
HasFew most (surf.Def w ty body) = Unit {0}
HasFew most (surf.Decide w f e) = Unit {0}
HasFew most (surf.Data w params ty cons) = (length params ≤ most) × (length cons ≤ most)
HasFew most (surf.Mutual params members f t tags) = (length params ≤ most) × (length members ≤ most) × (length tags ≤ most)
HasFew most (surf.Fun w ty clauses) = withs clauses ≤ most
