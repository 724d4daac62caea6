-- The trees of the parts of a plan are refused only where they are too high.
use Rattle.std.specs.Prelude.{◌≡◌, ◌≤◌, ℕ, List, ◌++◌, Ok}
use Rattle.theory.specs.Terms.{Term, height}
use Rattle.theory.specs.Telescopes.{Telescope}
use Rattle.tree_translation.specs.structural_rec.Uses.{Use}
use Rattle.unification.specs.ScopedStates.{IsReady}
use Rattle.case_trees.specs.Points.{start_at}
use Rattle.case_trees.specs.Scoped.{IsScopedPoint}
use Rattle.case_trees.specs.Standing.{EachLeaf}
use Rattle.tree_translation.specs.Conditions.{IsPartOf, with_function}
use Rattle.tree_translation.specs.Splits.{Node}
use Rattle.tree_translation.specs.TreeTerms.{Translation, tree_names, tree_term}
use Rattle.function_entries.specs.CodeTrees.{tree_made, tree_names_made}
use Rattle.entry_laws.specs.node_roots.Laws.{IsRoot}
use Rattle.exact_laws.specs.translation_laws.Laws.{LeafMade}

-- A part of a plan, whose tree begins from a context, a goal and terms of columns over the signature with the function, and a node of
-- which that context is what is seen: that of a helper, or of the step.
pub record IsRooted (w : Translation) (uses : List Use) (at : ℕ) (context : Telescope) (goal : Term) (terms : List Term) (node : Node) : Type 0 where
  pub ready : IsReady (with_function w.signature w.plan)
  pub part : IsPartOf w.signature w.plan uses at w.part context goal terms
  pub scoped : IsScopedPoint (with_function w.signature w.plan) (start_at context goal terms)
  pub root : IsRoot node context

-- The term of a part's tree is made where it is no higher than a term may be, if those of its leaves are,
abbrev pub PartAnswers : Type 0
PartAnswers =
    (w : Translation) (uses : List Use) (at : ℕ) (context : Telescope) (goal : Term) (terms : List Term) (node : Node) →
    IsRooted w uses at context goal terms node → EachLeaf (LeafMade w) w.part.tree → height (tree_term w w.part.tree node) ≤ 2000 →
    tree_made w w.part.tree node ≡ Ok (tree_term w w.part.tree node)

-- and then so are its names, whatever its leaves are.
abbrev pub PartNamesAnswer : Type 0
PartNamesAnswer =
    (w : Translation) (uses : List Use) (at : ℕ) (context : Telescope) (goal : Term) (terms : List Term) (node : Node) (names : List (List ℕ)) →
    IsRooted w uses at context goal terms node → height (tree_term w w.part.tree node) ≤ 2000 →
    tree_names_made w.signature w.part.level w.part.tree node names ≡ Ok (names ++ tree_names w.signature w.part.level w.part.tree node)
