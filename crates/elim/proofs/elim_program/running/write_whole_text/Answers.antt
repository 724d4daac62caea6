use Rattle.std.proofs.Common.{Ok, map, sym, ap, ◌∙◌}
use Rattle.elim.specs.program_texts.Texts.{answer_of}
use Rattle.surface_syntax.specs.TreeMeanings.{decl_of}
use Rattle.elim.proofs.elim_program.NewSessions.{written-in-new}
use Rattle.elim.proofs.elim_program.running.write_whole_text.Goals as goal

-- src/running.rt:82:1
pub returns-in_ok-session-in-Ok-clause-written : goal.returns-in_ok-session-in-Ok-clause-written
returns-in_ok-session-in-Ok-clause-written g c =
    let w = c.write_declarations.ensures.written in
    let s = c.in_ok-session-in-Ok in
    (w.0, w.1, written-in-new c.args.command (map decl_of c.as_slice.result.now) (answer_of c.args.answer) s.session c.write_declarations.result w.0 (ap answer_of c.in-Ok.is ∙ ap (λ xs. Ok (map decl_of xs)) (sym c.as_slice.ensures)) s.ensures.whole w.2)
