use Rattle.std.proofs.Common.{◌∙◌, ap, sym, subst}
use Rattle.shared_text.specs.CodeMeanings.{AreLive, trees}
use Rattle.shared_text.proofs.SharedIds.{with-live, with-tree}
use Rattle.shared_text.proofs.tree_set.add_tree.Goals as goal

pub returns-clause-live : goal.returns-clause-live
returns-clause-live c =
    let p = c.args.pool.now in
    subst (AreLive p) (sym c.in_ok-add.ensures.ok) (with-live p c.mark-whole.ensures.whole c.args.set.now c.args.id c.requires.set c.requires.live)

pub returns-clause-trees : goal.returns-clause-trees
returns-clause-trees c =
    let p = c.args.pool.now in
    ap (trees p) c.in_ok-add.ensures.ok ∙ with-tree p c.mark-whole.ensures.whole c.args.set.now c.args.id c.requires.set c.requires.live
