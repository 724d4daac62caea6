use Rattle.core_text.proofs.Feeds.{lines_are_apart}
use Rattle.core_text.proofs.laws.lines_are_apart.Goals as goal

pub returns : goal.returns
returns c = lines_are_apart
