use Rattle.core_sig.proofs.StoredEntries.{stored-none}
use Rattle.core_sig.proofs.storing.Terms.new.Goals as goal

pub returns : goal.returns
returns c = rw (c.empty.ensures, c.new.ensures.items, c.new-2.ensures.items) stored-none
