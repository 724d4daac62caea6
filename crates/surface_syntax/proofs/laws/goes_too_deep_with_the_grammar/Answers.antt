use Rattle.surface_syntax.proofs.Nested.{run_deep}
use Rattle.surface_syntax.proofs.Found.{nested_run}
use Rattle.surface_syntax.proofs.laws.goes_too_deep_with_the_grammar.Goals as goal

pub returns : goal.returns
returns c = λ ts n. (λ q. run_deep ts n q, λ w. nested_run ts n w)
