use Rattle.std.proofs.Common.{◌++◌, map, sym, ap, ◌∙◌}
use Rattle.elim.specs.program_texts.ClauseTexts.{clause_lines, clauses_text}
use Rattle.elim.specs.program_texts.Lines.{text_of}
use Rattle.elim.specs.elim_program.Outputs.{mutual_line}
use Rattle.function_session.specs.function_lines.LineMeanings.{clause_line_of}
use Rattle.elim.proofs.elim_program.TextLines.{text_both, clauses_are}
use Rattle.elim.proofs.program_texts.WrittenTexts.{on_both}
use Rattle.elim.proofs.elim_program.block.write_notes.Goals as goal

pub returns-clause-ok : goal.returns-clause-ok
returns-clause-ok c =
    let lines = map clause_line_of c.args.clauses.now in
    let clauses = clause_lines c.args.sig.now lines in
    let equations = map mutual_line c.args.equations.now in
    on_both c.write_equations.result c.args.out.now.items _ _ (clauses_text c.args.sig.now lines) (text_of equations) (text_of (clauses ++ equations)) c.in_ok-write_clauses.ensures.ok
    c.write_equations.ensures.ok (ap (λ t. t ++ text_of equations) (clauses_are c.args.sig.now lines) ∙ sym (text_both clauses equations))
