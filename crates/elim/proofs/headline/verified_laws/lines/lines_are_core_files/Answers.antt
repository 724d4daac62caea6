use Rattle.elim.proofs.headline.verified_laws.Written.{lines_are_core_files}
use Rattle.elim.proofs.headline.verified_laws.lines.lines_are_core_files.Goals as goal

pub returns : goal.returns
returns c = lines_are_core_files
