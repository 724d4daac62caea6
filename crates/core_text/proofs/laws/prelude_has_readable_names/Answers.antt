use Rattle.core_text.proofs.PreludeReadable.{prelude-readable}
use Rattle.core_text.proofs.laws.prelude_has_readable_names.Goals as goal

pub returns : goal.returns
returns c = prelude-readable
