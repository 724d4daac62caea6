use Rattle.std.proofs.Common.{length}
use Rattle.case_below_gen.proofs.components.+tuple_type.Given as goal

abbrev pub decreases-tuple_type : goal.decreases-tuple_type
decreases-tuple_type l = length l.args.now
