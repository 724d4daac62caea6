use Rattle.std.proofs.Common.{◌∙◌}
use Rattle.shared_text.proofs.SharedIds.{position-id}
use Rattle.shared_text.proofs.tree_set.number_of_tree.Goals as goal

pub returns : goal.returns
returns c = c.place.ensures ∙ position-id c.args.pool.now c.mark-whole.ensures.whole c.args.id c.requires.live c.args.set.now c.requires.set
