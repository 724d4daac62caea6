use Rattle.std.proofs.Common.{◌++◌, codes}
use Rattle.elim.specs.program_texts.ClauseTexts as spec
use Rattle.elim.specs.program_texts.Lines.{text_of}
use Rattle.function_session.specs.function_lines.LineMeanings.{clause_line_of}
use Rattle.elim.proofs.elim_program.TextLines.{leaves_text}
use Rattle.elim.proofs.program_texts.WrittenTexts.{on_both}
use Rattle.elim.proofs.elim_program.clause_texts.write_with_leaves.Goals as goal

pub returns-clause-ok : goal.returns-clause-ok
returns-clause-ok c =
    let clause = clause_line_of c.args.clause.now in
    on_both c.write_leaves_of.result c.args.out.now.items _ _ (spec.clause_line c.args.sig.now clause ++ codes "\n") (text_of (spec.leaf_lines c.args.sig.now clause.line))
    (text_of (spec.with_leaves c.args.sig.now clause)) c.in_ok-write_clause.ensures.ok c.write_leaves_of.ensures.ok (leaves_text c.args.sig.now clause)
