use Rattle.resolve.proofs.LawProofs.{terms-resolve}
use Rattle.resolve.proofs.laws.terms_resolve.Goals as goal

pub returns : goal.returns
returns c = terms-resolve
