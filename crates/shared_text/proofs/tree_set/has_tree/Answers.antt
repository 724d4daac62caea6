use Rattle.std.proofs.Common.{◌∙◌}
use Rattle.shared_text.proofs.SharedIds.{any-id}
use Rattle.shared_text.proofs.tree_set.has_tree.Goals as goal

pub returns : goal.returns
returns c = c.has.ensures ∙ any-id c.args.pool.now c.mark-whole.ensures.whole c.args.id c.requires.live c.args.set.now c.requires.set
