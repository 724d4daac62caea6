use Rattle.exact_laws.proofs.run_laws.MadeSplits.{split_names-only_deep}
use Rattle.exact_laws.proofs.run_laws.split_names_only_deep.Goals as goal

pub returns : goal.returns
returns c = split_names-only_deep
