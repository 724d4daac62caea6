use Rattle.lex_recursion.proofs.FollowingPositions.{following-decides}
use Rattle.lex_recursion.proofs.laws.following_decides.Goals as goal

pub returns : goal.returns
returns c = following-decides
