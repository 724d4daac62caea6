use Rattle.proof_walks.proofs.WalkLaws.{walk-is-made}
use Rattle.proof_walks.proofs.laws.walk_is_made.Goals as goal

pub returns : goal.returns
returns c = walk-is-made
