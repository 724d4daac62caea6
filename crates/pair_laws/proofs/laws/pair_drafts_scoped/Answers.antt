use Rattle.pair_laws.proofs.PairScopes.{drafts-scoped}
use Rattle.pair_laws.proofs.laws.pair_drafts_scoped.Goals as goal

pub returns : goal.returns
returns c = drafts-scoped
