use Rattle.std.proofs.Common.{Err, ap, ◌∙◌}
use Rattle.core_terms.specs.Meanings.{tree_of}
use Rattle.core_sig.proofs.Imports.{refused-low}
use Rattle.core_sig.proofs.importing.import_low.Goals as goal

pub returns-in-Err-clause-memory : goal.returns-in-Err-clause-memory
returns-in-Err-clause-memory g c =
    ap Err (c.without_room.ensures ∙ refused-low c.in-Err.e (tree_of c.args.t.now) c.requires c.in-Err.ensures.makes)
