use Rattle.theory.specs.Terms.{top}
use Rattle.theory.proofs.PreludeWellFormed.{equality_at}
use Rattle.theory.proofs.prelude_laws.equality_is_entry.Goals as goal

pub returns : goal.returns
returns c = λ k i h. equality_at top i h
