use Rattle.std.proofs.Common.{arith}
use Rattle.std.proofs.lemmas.Grind.{common_steps}
use Rattle.core_text.proofs.ProductTexts.{text_products}
use Rattle.core_text.proofs.entry_printer.write_constructor_type.Goals as goal

pub returns-clause-ok : goal.returns-clause-ok
returns-clause-ok c = rw text_products (grind (arith, common_steps))
