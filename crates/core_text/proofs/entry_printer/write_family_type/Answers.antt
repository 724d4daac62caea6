use Rattle.std.proofs.Common.{arith}
use Rattle.std.proofs.lemmas.Grind.{common_steps}
use Rattle.core_text.proofs.ProductTexts.{text_type_shown}
use Rattle.core_text.proofs.entry_printer.write_family_type.Goals as goal

pub returns-clause-ok : goal.returns-clause-ok
returns-clause-ok c = rw text_type_shown (grind (arith, common_steps))
