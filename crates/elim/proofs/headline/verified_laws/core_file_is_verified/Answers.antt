use Rattle.elim.proofs.headline.verified_laws.CoreFiles.{core_file-verified}
use Rattle.elim.proofs.headline.verified_laws.core_file_is_verified.Goals as goal

pub returns : goal.returns
returns c = core_file-verified
