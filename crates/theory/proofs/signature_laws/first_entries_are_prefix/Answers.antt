use Rattle.theory.proofs.WellFormedness.{first_is_prefix}
use Rattle.theory.proofs.signature_laws.first_entries_are_prefix.Goals as goal

pub returns : goal.returns
returns c = first_is_prefix
