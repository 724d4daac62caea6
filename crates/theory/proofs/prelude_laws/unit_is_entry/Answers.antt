use Rattle.theory.specs.Terms.{top}
use Rattle.theory.proofs.PreludeWellFormed.{unit_at}
use Rattle.theory.proofs.prelude_laws.unit_is_entry.Goals as goal

pub returns : goal.returns
returns c = λ k i h. unit_at top i h
