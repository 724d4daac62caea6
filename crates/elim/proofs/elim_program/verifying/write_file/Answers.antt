use Rattle.std.proofs.Common.{sym, ◌∙◌}
use Rattle.core_text.specs.Heads.{head_of}
use Rattle.elim.proofs.elim_program.Entries.{written-file}
use Rattle.elim.proofs.program_texts.FileHeads.{is-head}
use Rattle.elim.proofs.elim_program.verifying.write_file.Goals as goal

pub write_entry_lines-requires : goal.write_entry_lines-requires
write_entry_lines-requires g c = (is-head c.args.command.k c.in-Ok.k c.in-Ok.start c.args.text.now (sym c.read_head.ensures ∙ c.in-Ok.is)).within

pub returns-in-Ok-new-clause-written : goal.returns-in-Ok-new-clause-written
returns-in-Ok-new-clause-written g c =
    written-file (g.K.Sink.written c.args.sink.now) (g.K.Sink.written c.write_entry_lines.new.sink) c.write_entry_lines.result c.args.command.fuel c.args.text.now (head_of c.args.command.k c.args.text.now) c.in-Ok.k c.in-Ok.start
    (sym c.read_head.ensures ∙ c.in-Ok.is) c.in-Ok-new.session.signature c.in-Ok-new.ensures.signature c.in-Ok-new.session.fuel c.in-Ok-new.ensures.fuel c.write_entry_lines.ensures.written
