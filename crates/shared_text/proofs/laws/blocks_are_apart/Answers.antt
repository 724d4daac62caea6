use Rattle.shared_text.proofs.BlocksApart.{blocks_are_apart}
use Rattle.shared_text.proofs.laws.blocks_are_apart.Goals as goal

pub returns : goal.returns
returns c = blocks_are_apart
