use Rattle.elim.proofs.headline.verified_laws.Written.{lines_are_writable}
use Rattle.elim.proofs.headline.verified_laws.lines.lines_are_writable.Goals as goal

pub returns : goal.returns
returns c = lines_are_writable
