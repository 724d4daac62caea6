use Rattle.unification.proofs.SearchLaws.{search-goes_on}
use Rattle.unification.proofs.run_laws.search_goes_on.Goals as goal

pub returns : goal.returns
returns c = search-goes_on
