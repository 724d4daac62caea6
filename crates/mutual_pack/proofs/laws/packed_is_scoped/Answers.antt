use Rattle.mutual_pack.proofs.PackedScoped.{packed-is-scoped}
use Rattle.mutual_pack.proofs.laws.packed_is_scoped.Goals as goal

pub returns : goal.returns
returns c = packed-is-scoped
