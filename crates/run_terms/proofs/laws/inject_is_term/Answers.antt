use Rattle.run_terms.proofs.MadeTerms.{inject-is}
use Rattle.run_terms.proofs.laws.inject_is_term.Goals as goal

pub returns : goal.returns
returns c = inject-is
