use Rattle.elim.proofs.headline.program_laws.AnswersRead.{reads_by_the_grammar}
use Rattle.elim.proofs.headline.program_laws.reads_by_the_grammar.Goals as goal

pub returns : goal.returns
returns c = reads_by_the_grammar
