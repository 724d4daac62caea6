use Rattle.std.proofs.Common.{length}
use Rattle.case_below_gen.proofs.branches.+applied_to_droppings.Given as goal

abbrev pub decreases-applied_to_droppings : goal.decreases-applied_to_droppings
decreases-applied_to_droppings l = length l.cons.now
