use Rattle.theory.specs.Terms.{top}
use Rattle.theory.proofs.PreludeWellFormed.{length_to}
use Rattle.theory.proofs.prelude_laws.prelude_length.Goals as goal

pub returns : goal.returns
returns c = λ k. length_to top
