use Rattle.std.proofs.Common.{refl}
use Rattle.surface_syntax.proofs.TokenLaws.{reads_spelled, spelled_splits}
use Rattle.surface_syntax.proofs.laws.splits_by_spellings.Goals as goal

pub returns : goal.returns
returns c = λ cs tokens. (λ s. reads_spelled s refl, λ s. spelled_splits cs tokens s)
