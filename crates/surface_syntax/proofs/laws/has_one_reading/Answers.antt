use Rattle.surface_syntax.proofs.Runs.{one_file}
use Rattle.surface_syntax.proofs.laws.has_one_reading.Goals as goal

pub returns : goal.returns
returns c = λ allows ts ds es a b. one_file allows ts ds es a b
