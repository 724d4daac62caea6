use Rattle.elim.proofs.headline.Accepted.{the-shown}
use Rattle.elim.proofs.headline.laws.accepted_is_the_shown.Goals as goal

pub returns : goal.returns
returns c = the-shown c.accepted_is_shown.ensures c.gives_by_the_grammar.ensures c.functions_are_by_clauses.ensures
