use Rattle.std.proofs.Common.{refl, []}
use Rattle.surface_syntax.proofs.TokenLaws.{slices}
use Rattle.surface_syntax.proofs.laws.tokens_are_slices.Goals as goal

pub returns : goal.returns
returns c = λ cs ts s. slices cs [] refl refl s
