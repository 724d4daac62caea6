use Rattle.std.proofs.Common.{arith}
use Rattle.problems.proofs.Rooms.{code-few}
use Rattle.clause_splitting.proofs.origins.context_without.Goals as goal

pub new_context-requires-clause-depth : goal.new_context-requires-clause-depth
new_context-requires-clause-depth c = omega (arith, code-few c.args.ctx.now c.requires.solved.types, c.requires.fewer)
