use Rattle.std.proofs.Common.{arith}
use Rattle.core_terms.specs.Meanings.{tele_of}
use Rattle.problems.proofs.Rooms.{code-few, types-low}
use Rattle.clause_splitting.proofs.origins.order_without.Goals as goal

pub overflow_cast-ctx : goal.overflow_cast-ctx
overflow_cast-ctx c = omega (arith, code-few c.args.ctx.now c.requires.types)

pub dependants-requires-clause-low : goal.dependants-requires-clause-low
dependants-requires-clause-low c = types-low 0 (tele_of c.args.ctx.now) c.requires.types

pub dependants-requires-clause-few : goal.dependants-requires-clause-few
dependants-requires-clause-few c = omega (arith, code-few c.args.ctx.now c.requires.types)

pub new_order-requires-clause-few : goal.new_order-requires-clause-few
new_order-requires-clause-few c = code-few c.args.ctx.now c.requires.types
