use Rattle.elim.proofs.elim_program.TextLines.{on_more}
use Rattle.elim.proofs.elim_program.block.+write_entries.Goals as goal

pub returns-clause-ok : goal.returns-clause-ok
returns-clause-ok t c =
    on_more c.write_entries.result c.args.sig.now c.args.at c.args.count _ _ _ c.if-count-eq0.false c.in_ok-write_entry.ensures.ok c.write_entries.ensures.ok
