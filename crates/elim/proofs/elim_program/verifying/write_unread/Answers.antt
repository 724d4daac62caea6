use Rattle.std.proofs.Common.{refl, sym, ◌∙◌}
use Rattle.elim.proofs.elim_program.Entries.{written-unread}
use Rattle.elim.proofs.elim_program.Following.{no_block}
use Rattle.elim.proofs.elim_program.verifying.write_unread.Goals as goal

pub returns-then-is_memory-clause-written : goal.returns-then-is_memory-clause-written
returns-then-is_memory-clause-written g c = λ meant same. no_block _ _ meant refl

pub returns-clause-written : goal.returns-clause-written
returns-clause-written g c = written-unread _ _ c.args.stop _ _ c.unread-stop.ensures (sym c.is_memory.ensures ∙ c.if-is_memory.false) c.write_stop_line.ensures.written
