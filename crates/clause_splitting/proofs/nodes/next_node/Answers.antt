use Rattle.clause_splitting.proofs.NodeCodes.{node-moved}
use Rattle.clause_splitting.proofs.nodes.next_node.Goals as goal

pub returns-clause-kept : goal.returns-clause-kept
returns-clause-kept c =
    node-moved c.args.sig.now c.args.node.now c.args.ctx.now c.in_ok-ctx.ctx c.args.subst.now c.solution_for-solution.result.now c.in_ok-point.point
    c.new.result c.as_slice.result.now c.in_ok-live.live c.requires.node c.requires.solved c.in_ok-ctx.ensures c.solution_for-solution.ensures c.in_ok-point.ensures.answer
    c.in_ok-point.ensures.few c.new.ensures c.as_slice.ensures c.in_ok-live.ensures
