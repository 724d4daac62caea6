use Rattle.elim.proofs.elim_program.Shown.{shown}
use Rattle.elim.proofs.elim_program.laws.accepted_is_shown.Goals as goal

pub returns : goal.returns
returns c = shown
