use Rattle.core_terms.specs.TreeMeanings.{branches_of, case_tree_of}
use Rattle.tree_cases.specs.Sizes.{size_of, size_of_all}
use Rattle.tree_cases.proofs.tree_texts.+leaves.Given as goal

abbrev pub decreases-leaves : goal.decreases-leaves
decreases-leaves l = size_of (case_tree_of l.tree.now)

abbrev pub decreases-leaves_of : goal.decreases-leaves_of
decreases-leaves_of l = size_of_all (branches_of l.branches.now)
