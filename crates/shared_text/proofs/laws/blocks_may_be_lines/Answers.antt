use Rattle.shared_text.proofs.Unshared.{blocks_may_be_lines}
use Rattle.shared_text.proofs.laws.blocks_may_be_lines.Goals as goal

pub returns : goal.returns
returns c = blocks_may_be_lines
