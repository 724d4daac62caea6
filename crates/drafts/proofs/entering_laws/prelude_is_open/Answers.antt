use Rattle.drafts.proofs.entering_laws.OpenPrelude.{prelude-open}
use Rattle.drafts.proofs.entering_laws.prelude_is_open.Goals as goal

pub returns : goal.returns
returns c = prelude-open
