use Rattle.shared_text.proofs.BlocksExpand.{blocks_say_the_line}
use Rattle.shared_text.proofs.laws.blocks_say_the_line.Goals as goal

pub returns : goal.returns
returns c = blocks_say_the_line
