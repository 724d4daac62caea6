-- The meanings of leaves that are found in a tree.
use Rattle.std.specs.Prelude.{List, map}
use Rattle.core_terms.specs.Meanings.{tree_of, tele_of}
use Rattle.clause_reports.specs.Shadows as pure
use Rattle.clause_equations.specs.declared.shadow_vectors.leaves.TreeLeaf.{TreeLeaf}

abbrev pub leaf_of : TreeLeaf → pure.TreeLeaf
leaf_of l = record {
  context = tele_of l.ctx.now;
  goal = tree_of l.goal.now;
  substitution = tele_of l.subst.now;
  terms = tele_of l.terms.now;
  binds = tele_of l.binds.now;
}

abbrev pub all_leaves_of : List TreeLeaf → List pure.TreeLeaf
all_leaves_of leaves = map leaf_of leaves
