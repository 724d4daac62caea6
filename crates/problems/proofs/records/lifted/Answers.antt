use Rattle.std.proofs.Common.{arith}
use Rattle.problems.specs.Conditions.{most_depth}
use Rattle.problems.proofs.Rooms.{over-at}
use Rattle.problems.proofs.records.lifted.Goals as goal

pub raised-requires-clause-numbers : goal.raised-requires-clause-numbers
raised-requires-clause-numbers c =
    let over = over-at most_depth c.loop-t.t-index c.args.terms.now c.t-item.result c.requires.terms (omega arith) c.t-item.is in
    let low = over.0 in
    let free = over.1 in
    omega arith

pub raised-requires-clause-binders : goal.raised-requires-clause-binders
raised-requires-clause-binders c =
    let over = over-at most_depth c.loop-t.t-index c.args.terms.now c.t-item.result c.requires.terms (omega arith) c.t-item.is in
    let low = over.0 in
    omega arith
