use Rattle.proof_walks.proofs.WalkLaws.{walk-answers}
use Rattle.proof_walks.proofs.laws.walk_answers.Goals as goal

pub returns : goal.returns
returns c = walk-answers
