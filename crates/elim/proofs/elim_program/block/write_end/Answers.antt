use Rattle.std.proofs.Common.{◌++◌, ◌∷◌, [], codes, map, sym}
use Rattle.elim.specs.program_texts.Lines.{text_of}
use Rattle.elim.specs.elim_program.Outputs.{accepted_line, note_lines}
use Rattle.function_session.specs.function_lines.LineMeanings.{clause_line_of}
use Rattle.elim.proofs.elim_program.TextLines.{text_both}
use Rattle.elim.proofs.program_texts.WrittenTexts.{on_both}
use Rattle.elim.proofs.elim_program.block.write_end.Goals as goal

pub returns-clause-ok : goal.returns-clause-ok
returns-clause-ok c =
    let notes = note_lines c.args.sig.now (map clause_line_of c.args.clauses.now) c.args.equations.now in
    let line = accepted_line c.args.name.now in
    on_both c.write_accepted.result c.args.out.now.items _ _ (text_of notes) (line ++ codes "\n") (text_of (notes ++ line ∷ [])) c.in_ok-write_notes.ensures.ok
    c.write_accepted.ensures.ok (sym (text_both notes (line ∷ [])))
