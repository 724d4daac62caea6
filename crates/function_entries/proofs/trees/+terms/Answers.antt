use Rattle.std.proofs.Common.{rules, ◌≡◌, sym, subst}
use Rattle.core_terms.specs.Answers.{Gives}
use Rattle.core_terms.specs.CaseTrees as pure
use Rattle.core_terms.specs.Meanings.{tree_of, tele_of}
use Rattle.core_terms.specs.TreeMeanings.{case_tree_of}
use Rattle.core_terms.specs.declared.case_tree.Branch.TheFolds.{the_lemmas}
use Rattle.run_terms.specs.outlines.OutlineMeanings.{outline_of}
use Rattle.split_terms.specs.NodeMeanings.{node_of}
use Rattle.leaf_terms.specs.PlaceMeanings.{translation_of}
use Rattle.function_entries.specs.CodeTrees.{tree_made}
use Rattle.function_entries.proofs.trees.+terms.Goals as goal

pub tree_term-returns-in-Leaf : goal.tree_term-returns-in-Leaf
tree_term-returns-in-Leaf t c =
    let leaf = c.in-Leaf in
    let meant : case_tree_of c.args.tree.now
    ≡ pure.Leaf leaf.clause (tele_of leaf.ctx) (tree_of leaf.goal) (tele_of leaf.subst) (tele_of leaf.terms) (tele_of leaf.binds) =
    search (rules, the_lemmas, c.in-Leaf.is) in
    let P : pure.Tree → Type 0 = λ tree.
    Gives outline_of c.leaf_at.result (tree_made (translation_of c.args.w.now) tree (node_of c.args.node.now)) in
    let first = rw c.as_slice.ensures at c.leaf_at.ensures in
    let second = rw c.as_slice-in-Leaf.ensures at first in
    let third = rw c.as_slice-in-Leaf-2.ensures at second in
    subst P (sym meant) third
