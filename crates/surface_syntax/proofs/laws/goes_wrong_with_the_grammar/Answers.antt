use Rattle.surface_syntax.proofs.Places.{run_wrong}
use Rattle.surface_syntax.proofs.Found.{wrong_run, wrong_not_nested}
use Rattle.surface_syntax.proofs.laws.goes_wrong_with_the_grammar.Goals as goal

pub returns : goal.returns
returns c = λ ts n. (λ q. (run_wrong ts n q, λ k w. wrong_not_nested ts n k q w), λ w. wrong_run ts n w.0 w.1)
