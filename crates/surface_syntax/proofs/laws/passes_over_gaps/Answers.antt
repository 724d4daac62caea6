use Rattle.surface_syntax.proofs.TokenLaws.{gap_is, is_gap}
use Rattle.surface_syntax.proofs.laws.passes_over_gaps.Goals as goal

pub returns : goal.returns
returns c = λ cs n. (λ e. gap_is cs n e, λ w. is_gap cs n w)
