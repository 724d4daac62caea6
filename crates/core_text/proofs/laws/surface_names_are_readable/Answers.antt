use Rattle.core_text.proofs.SurfaceReadable.{surface-names-are-readable}
use Rattle.core_text.proofs.laws.surface_names_are_readable.Goals as goal

pub returns : goal.returns
returns c = surface-names-are-readable
