use Rattle.std.proofs.Common.{length}
use Rattle.elim.proofs.elim_program.working.+count_declarations.Given as goal

abbrev pub decreases-count_declarations : goal.decreases-count_declarations
decreases-count_declarations l = length l.decls.now
