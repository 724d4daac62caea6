use Rattle.exact_laws.proofs.run_laws.ExactSplits.{split_term-is_exact}
use Rattle.exact_laws.proofs.run_laws.split_term_is_exact.Goals as goal

pub returns : goal.returns
returns c = split_term-is_exact
