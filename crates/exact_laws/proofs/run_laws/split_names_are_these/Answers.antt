use Rattle.exact_laws.proofs.run_laws.MadeSplits.{split_names-are_these}
use Rattle.exact_laws.proofs.run_laws.split_names_are_these.Goals as goal

pub returns : goal.returns
returns c = split_names-are_these
