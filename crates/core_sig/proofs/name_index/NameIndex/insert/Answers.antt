use Rattle.std.proofs.Common.{ap, ◌∙◌}
use Rattle.core_sig.proofs.Lookups.{shown, shown-insert}
use Rattle.core_sig.proofs.name_index.NameIndex.insert.Goals as goal

pub returns-clause-ok : goal.returns-clause-ok
returns-clause-ok c =
    rw (← c.self.view_is)
    (ap shown c.in_ok-insert.ensures.entries
    ∙ shown-insert c.self.inside.found c.in_ok-name.name c.args.found c.args.name.now c.in_ok-name.ensures.items
    (rw c.self.view_is c.requires))
