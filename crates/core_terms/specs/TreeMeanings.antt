-- The meanings of the code's steps, case trees and walks.
use Rattle.std.specs.Prelude.{List, map}
use Rattle.core_terms.specs.Meanings.{tree_of, tele_of}
use Rattle.core_terms.specs.CaseTrees as pure
use Rattle.core_terms.specs.declared.case_tree.Step.{Step}
use Rattle.core_terms.specs.declared.case_tree.Walk.{Walk}
use Rattle.core_terms.specs.declared.case_tree.Branch.{Branch}
use Rattle.core_terms.specs.declared.case_tree.Tree.{Tree}
use Rattle.core_terms.specs.declared.case_tree.Branch.TheOpen as opened
use Rattle.core_terms.specs.declared.case_tree.Branch.TheFolds.{fold-Branch, fold-Tree}

abbrev pub step_of : Step → pure.Step
step_of s = record { group = s.group; rule = s.rule; ty = tree_of s.ty; left = tree_of s.left; right = tree_of s.right }

abbrev pub steps_of : List Step → List pure.Step
steps_of steps = map step_of steps

-- a branch, once the tree that it goes on with is given
abbrev pub branch_step : opened.Branch-F pure.Branch pure.Tree → pure.Branch
branch_step (opened.Absurd steps ctx left right) =
    pure.Absurd (steps_of steps) (tele_of ctx) (tree_of left) (tree_of right)
branch_step (opened.Solved steps origin tree) = pure.Solved (steps_of steps) origin tree.value

-- a tree, once its branches are given
abbrev pub tree_step : opened.Tree-F pure.Branch pure.Tree → pure.Tree
tree_step (opened.Leaf clause ctx goal subst terms binds) =
    pure.Leaf clause (tele_of ctx) (tree_of goal) (tele_of subst) (tele_of terms) (tele_of binds)
tree_step (opened.Split ctx var family ty branches) =
    pure.Split (tele_of ctx) var family (tree_of ty) (pure.branches branches)

abbrev pub branch_of : Branch → pure.Branch
branch_of = fold-Branch pure.Branch pure.Tree branch_step tree_step

abbrev pub case_tree_of : Tree → pure.Tree
case_tree_of = fold-Tree pure.Branch pure.Tree branch_step tree_step

abbrev pub branches_of : List Branch → pure.Branches
branches_of list = pure.branches (map branch_of list)

abbrev pub walk_of : Walk → pure.Walk
walk_of w = record {
  ctx = tele_of w.ctx;
  goal = tree_of w.goal;
  subst = tele_of w.subst;
  terms = tele_of w.terms;
  binds = tele_of w.binds;
  dots = map (λ d. (tree_of d.0, tree_of d.1)) w.dots;
}
