use Rattle.elim.proofs.headline.program_laws.CoreLaws.{one_signature}
use Rattle.elim.proofs.headline.program_laws.one_signature.Goals as goal

pub returns : goal.returns
returns c = one_signature
