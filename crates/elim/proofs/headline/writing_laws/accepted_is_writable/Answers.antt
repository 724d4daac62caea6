use Rattle.core_text.proofs.NamesSpelled.{names-stay-readable}
use Rattle.core_text.proofs.PreludeReadable.{prelude-readable}
use Rattle.core_text.proofs.SurfaceReadable.{surface-names-are-readable}
use Rattle.elim.proofs.headline.writing_laws.Writables.{accepted-writable}
use Rattle.elim.proofs.headline.writing_laws.accepted_is_writable.Goals as goal

pub returns : goal.returns
returns c = accepted-writable names-stay-readable prelude-readable surface-names-are-readable
