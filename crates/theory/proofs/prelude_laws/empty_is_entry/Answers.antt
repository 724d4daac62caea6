use Rattle.std.proofs.Common.{refl}
use Rattle.theory.proofs.prelude_laws.empty_is_entry.Goals as goal

pub returns : goal.returns
returns c = λ k. refl
