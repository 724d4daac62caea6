use Rattle.exact_laws.proofs.run_laws.MadeSplits.{split-only_deep}
use Rattle.exact_laws.proofs.run_laws.split_only_deep.Goals as goal

pub returns : goal.returns
returns c = split-only_deep
