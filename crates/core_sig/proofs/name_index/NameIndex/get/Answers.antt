use Rattle.std.proofs.Common.{◌∙◌}
use Rattle.core_sig.proofs.Lookups.{lookup-shown}
use Rattle.core_sig.proofs.name_index.NameIndex.get.Goals as goal

pub returns : goal.returns
returns c =
    rw (← c.self.view_is) (c.copied.ensures ∙ (c.get.ensures.value ∙ lookup-shown c.args.name.now c.self.inside.found.entries))
