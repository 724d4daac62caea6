use Rattle.surface_syntax.proofs.TokenLaws.{bad_nothing, nothing_bad}
use Rattle.surface_syntax.proofs.laws.finds_nothing_else.Goals as goal

pub returns : goal.returns
returns c = λ cs. (λ e. bad_nothing cs e, λ w. nothing_bad cs w.0 w.1)
