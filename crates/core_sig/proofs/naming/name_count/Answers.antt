use Rattle.std.proofs.Common.{sym}
use Rattle.core_sig.proofs.NameLists.{length-entry_names}
use Rattle.core_sig.proofs.naming.name_count.Goals as goal

pub returns-in-Family : goal.returns-in-Family
returns-in-Family c = rw (c.in-Family.is, c.as_slice.ensures) (sym (length-entry_names c.in-Family.family))
