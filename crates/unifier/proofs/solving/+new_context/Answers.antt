use Rattle.std.proofs.Common.{arith}
use Rattle.problems.proofs.Rooms.{over-first}
use Rattle.unifier.proofs.solving.+new_context.Goals as goal

pub put-requires-clause-over : goal.put-requires-clause-over
put-requires-clause-over t c =
    over-first c.args.ctx.now c.args.order.now c.index-ctx-j.result c.requires.ctx c.requires.levels (omega arith) c.index-ctx-j.is
