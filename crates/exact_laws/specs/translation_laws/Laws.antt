-- The terms and names of case trees that the code makes are refused only where the term is too high.
use Rattle.std.specs.Prelude.{◌≡◌, ◌≤◌, ℕ, List, ◌++◌, length, Ok}
use Rattle.theory.specs.Terms.{height}
use Rattle.core_terms.specs.CaseTrees.{Tree}
use Rattle.unification.specs.ScopedStates.{IsReady}
use Rattle.problems.specs.Conditions.{AreBelow}
use Rattle.case_trees.specs.Points.{Point}
use Rattle.case_trees.specs.Scoped.{IsScopedTree}
use Rattle.case_trees.specs.Standing.{EachLeaf, LeafProperty, StandsAt}
use Rattle.tree_translation.specs.Conditions.{IsSeen, with_function}
use Rattle.tree_translation.specs.RightSides.{leaf_term}
use Rattle.tree_translation.specs.Splits.{Node}
use Rattle.tree_translation.specs.TreeTerms.{Translation, tree_names, tree_term}
use Rattle.leaf_terms.specs.CodeRightSides.{leaf_made}
use Rattle.function_entries.specs.CodeTrees.{tree_made, tree_names_made}

-- the term of a leaf is made where it is no higher than a term may be
abbrev pub LeafMade : Translation → LeafProperty
LeafMade w clause context goal substitution terms binds =
    (n : ℕ) (hidden : List ℕ) → height (leaf_term w.number w.plan w.recursions w.part w.order n hidden clause substitution terms binds) ≤ 2000 →
    leaf_made w.number w.plan w.recursions w.part w.order n hidden clause substitution terms binds
    ≡ Ok (leaf_term w.number w.plan w.recursions w.part w.order n hidden clause substitution terms binds)

-- A tree over a point, at a node of which the point's context is what is seen. The hidden variables are some of the node's context.
pub record IsTreeOver (w : Translation) (p : Point) (t : Tree) (node : Node) : Type 0 where
  pub ready : IsReady w.signature
  pub stands : StandsAt w.signature p t
  pub scoped : IsScopedTree w.signature t
  pub is_seen : IsSeen node.context node.hidden p.context
  pub hidden : AreBelow (length node.context) node.hidden

-- The term of a tree is made where it is no higher than a term may be, if those of its leaves are,
abbrev pub TreeAnswers : Type 0
TreeAnswers =
    (w : Translation) (p : Point) (t : Tree) (node : Node) → IsTreeOver w p t node → EachLeaf (LeafMade w) t → height (tree_term w t node) ≤ 2000 →
    tree_made w t node ≡ Ok (tree_term w t node)

-- and then so are its names, whatever its leaves are.
abbrev pub TreeNamesAnswer : Type 0
TreeNamesAnswer =
    (w : Translation) (p : Point) (t : Tree) (node : Node) (names : List (List ℕ)) → IsTreeOver w p t node → height (tree_term w t node) ≤ 2000 →
    tree_names_made w.signature w.part.level t node names ≡ Ok (names ++ tree_names w.signature w.part.level t node)

-- The trees of a function are split over the signature with the function as a provisional constant. They are made all the same over the
-- signature itself, of which only the families are read,
abbrev pub with_function_at : Translation → Translation
with_function_at w = record w { signature = with_function w.signature w.plan }

abbrev pub FunctionTreeAnswers : Type 0
FunctionTreeAnswers =
    (w : Translation) (p : Point) (t : Tree) (node : Node) → IsTreeOver (with_function_at w) p t node → EachLeaf (LeafMade w) t →
    height (tree_term w t node) ≤ 2000 → tree_made w t node ≡ Ok (tree_term w t node)

-- and so are their names.
abbrev pub FunctionTreeNamesAnswer : Type 0
FunctionTreeNamesAnswer =
    (w : Translation) (p : Point) (t : Tree) (node : Node) (names : List (List ℕ)) → IsTreeOver (with_function_at w) p t node →
    height (tree_term w t node) ≤ 2000 →
    tree_names_made w.signature w.part.level t node names ≡ Ok (names ++ tree_names w.signature w.part.level t node)
