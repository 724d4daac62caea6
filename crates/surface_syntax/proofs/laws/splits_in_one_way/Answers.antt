use Rattle.std.proofs.Common.{refl}
use Rattle.surface_syntax.proofs.Unique.{one_split}
use Rattle.surface_syntax.proofs.laws.splits_in_one_way.Goals as goal

pub returns : goal.returns
returns c = λ cs ts us a b. one_split a b refl refl
