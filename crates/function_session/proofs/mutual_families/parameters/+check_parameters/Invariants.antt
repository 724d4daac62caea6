use Rattle.std.proofs.Common.{length}
use Rattle.function_session.proofs.mutual_families.parameters.+check_parameters.Given as goal

abbrev pub decreases-check_parameters : goal.decreases-check_parameters
decreases-check_parameters l = length l.params.now
