use Rattle.std.proofs.Common.{arith}
use Rattle.problems.proofs.Rooms.{over-at}
use Rattle.problems.proofs.moving.put_terms.Goals as goal

pub put-requires-clause-over : goal.put-requires-clause-over
put-requires-clause-over c =
    over-at c.args.size c.loop-t.t-index c.args.terms.now c.t-item.result c.requires.over (omega arith) c.t-item.is
