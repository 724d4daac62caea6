use Rattle.elim.proofs.headline.verified_laws.Compiled.{compiled-verified}
use Rattle.elim.proofs.headline.verified_laws.compiled_is_verified.Goals as goal

pub returns : goal.returns
returns c = compiled-verified
