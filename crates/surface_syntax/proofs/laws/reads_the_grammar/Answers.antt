use Rattle.surface_syntax.specs.Machine.{limit}
use Rattle.surface_syntax.proofs.Runs.{run_file, file_run}
use Rattle.surface_syntax.proofs.laws.reads_the_grammar.Goals as goal

pub returns : goal.returns
returns c = λ ts ds. (λ q. run_file limit ts ds q, λ file. file_run limit ts ds file)
