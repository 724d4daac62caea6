use Rattle.exact_laws.proofs.translation_laws.MadeEntries.{translate_made-is_entries}
use Rattle.exact_laws.proofs.translation_laws.translate_made_is_entries.Goals as goal

pub returns : goal.returns
returns c = translate_made-is_entries
