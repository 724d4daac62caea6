use Rattle.run_terms.proofs.MadeTerms.{conflict-is}
use Rattle.run_terms.proofs.laws.conflict_is_term.Goals as goal

pub returns : goal.returns
returns c = conflict-is
