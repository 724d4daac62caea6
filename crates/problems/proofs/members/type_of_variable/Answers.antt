use Rattle.std.proofs.Common.{◌+◌, ◌-◌, length, arith}
use Rattle.problems.proofs.FamilyMembers.{types-at}
use Rattle.problems.proofs.members.type_of_variable.Goals as goal

pub lift-requires : goal.lift-requires
lift-requires c =
    let free = types-at 0 (length c.args.ctx.now - (c.args.x + 1)) c.args.ctx.now c.index-ctx-ctx.result c.requires.context (omega arith) c.index-ctx-ctx.is in
    omega arith
