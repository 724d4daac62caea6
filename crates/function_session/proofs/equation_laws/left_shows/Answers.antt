use Rattle.function_session.proofs.equation_laws.LeftShowing.{left-shows}
use Rattle.function_session.proofs.equation_laws.left_shows.Goals as goal

pub returns : goal.returns
returns c = left-shows
