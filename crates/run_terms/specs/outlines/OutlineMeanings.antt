-- The terms that outlines stand for.
use Rattle.std.specs.Prelude.{List, [], ◌∷◌}
use Rattle.theory.specs.Terms as tree
use Rattle.core_terms.specs.Meanings.{tree_of}
use Rattle.tree_translation.specs.Standings.{placed}
use Rattle.run_terms.specs.declared.outlines.outline.Outline.{Outline, Whole, Lam', App', Placed'}
use Rattle.run_terms.specs.declared.outlines.outline.Outlines.{Outlines, Empty, First'}

abbrev pub outline_of : Outline → tree.Term
outline_of (Whole t) = tree_of t
outline_of (Lam' a p o) = tree.Lam (tree_of a) (outline_of o)
outline_of (App' p f q a) = tree.App (outline_of f) (outline_of a)
outline_of (Placed' levels depth p o) = placed levels depth (outline_of o)

abbrev pub outlines_of : Outlines → List tree.Term
outlines_of Empty = []
outlines_of (First' o p rest) = outline_of o ∷ outlines_of rest
