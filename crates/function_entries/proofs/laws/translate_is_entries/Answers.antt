use Rattle.function_entries.proofs.EntriesMade.{translate-is}
use Rattle.function_entries.proofs.laws.translate_is_entries.Goals as goal

pub returns : goal.returns
returns c = translate-is
