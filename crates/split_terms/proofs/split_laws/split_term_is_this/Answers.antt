use Rattle.split_terms.proofs.SplitsMade.{split-is}
use Rattle.split_terms.proofs.split_laws.split_term_is_this.Goals as goal

pub returns : goal.returns
returns c = split-is
