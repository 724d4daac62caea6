use Rattle.elim.proofs.headline.program_laws.AnswersRead.{gives_by_the_grammar}
use Rattle.elim.proofs.headline.program_laws.gives_by_the_grammar.Goals as goal

pub returns : goal.returns
returns c = gives_by_the_grammar
