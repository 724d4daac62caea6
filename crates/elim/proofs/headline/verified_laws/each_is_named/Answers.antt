use Rattle.elim.proofs.headline.verified_laws.CoreFiles.{each-named}
use Rattle.elim.proofs.headline.verified_laws.each_is_named.Goals as goal

pub returns : goal.returns
returns c = each-named
