use Rattle.resolve.proofs.LawProofs.{families-resolve}
use Rattle.resolve.proofs.laws.families_resolve.Goals as goal

pub returns : goal.returns
returns c = families-resolve
