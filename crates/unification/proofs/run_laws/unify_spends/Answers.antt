use Rattle.unification.proofs.RunProperties.{unify-spends}
use Rattle.unification.proofs.run_laws.unify_spends.Goals as goal

pub returns : goal.returns
returns c = unify-spends
