use Rattle.theory.specs.Terms.{top}
use Rattle.theory.proofs.PreludeWellFormed.{pair_at}
use Rattle.theory.proofs.prelude_laws.pair_is_entry.Goals as goal

pub returns : goal.returns
returns c = λ k i h. pair_at top i h
