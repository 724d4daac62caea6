use Rattle.std.proofs.Common.{sym}
use Rattle.std.proofs.lemmas.List.{take-map}
use Rattle.core_sig.proofs.name_index.NameIndex.truncate.Goals as goal

pub returns : goal.returns
returns c = rw (← c.self.view_is, c.truncate.ensures.entries) (sym (take-map _ c.args.len c.self.inside.found.entries))
