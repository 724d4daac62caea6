use Rattle.split_terms.proofs.SplitsMade.{standing-is}
use Rattle.split_terms.proofs.split_laws.standing_is_this.Goals as goal

pub returns : goal.returns
returns c = standing-is
