use Rattle.surface_syntax.proofs.TokenLaws.{found_first, first_found}
use Rattle.surface_syntax.proofs.laws.finds_the_longest.Goals as goal

pub returns : goal.returns
returns c = λ cs of n. (λ e. found_first cs of n e, λ w. first_found cs of n w)
