use Rattle.elim.proofs.headline.line_laws.WrittenPatterns.{patterns-are_written}
use Rattle.elim.proofs.headline.line_laws.patterns_are_written.Goals as goal

pub returns : goal.returns
returns c = patterns-are_written
