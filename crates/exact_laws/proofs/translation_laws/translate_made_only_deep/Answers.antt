use Rattle.exact_laws.proofs.translation_laws.MadeEntries.{translate_made-only_deep}
use Rattle.exact_laws.proofs.translation_laws.translate_made_only_deep.Goals as goal

pub returns : goal.returns
returns c = translate_made-only_deep
