use Rattle.resolve.proofs.ScopedMembers.{mutual-families-resolve}
use Rattle.resolve.proofs.laws.mutual_families_resolve.Goals as goal

pub returns : goal.returns
returns c = mutual-families-resolve
