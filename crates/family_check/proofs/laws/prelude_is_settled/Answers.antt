use Rattle.family_check.proofs.PreludeEntries.{prelude-settled, prelude-first}
use Rattle.family_check.proofs.laws.prelude_is_settled.Goals as goal

pub returns : goal.returns
returns c = λ k. (prelude-settled k, prelude-first k)
