use Rattle.std.proofs.Common.{rules}
use Rattle.term_pool.specs.declared.node.Node.TheVariants.{Sort}
use Rattle.term_pool.proofs.Places.{entered-old, entered-new}
use Rattle.term_pool.proofs.placing.entered.Goals as goal

pub returns-clause-there : goal.returns-clause-there
returns-clause-there c =
    entered-old _ (Sort 0) c.args.nodes.now.keys c.args.node _ _ _ c.in_ok-entry.ensures.added c.in_ok-entry.ensures.keys c.in_ok-entry.ensures.index (λ y e. search rules)

pub returns-clause-new : goal.returns-clause-new
returns-clause-new c =
    entered-new _ (Sort 0) c.args.nodes.now.keys c.args.node _ _ _ c.in_ok-entry.ensures.added c.in_ok-entry.ensures.keys c.in_ok-entry.ensures.index (search rules)
