use Rattle.std.proofs.Common.{◌++◌, codes, sym, append_assoc}
use Rattle.elim.specs.program_texts.Refusals.{clause_text}
use Rattle.elim.proofs.program_texts.WrittenTexts.{on_both}
use Rattle.elim.proofs.program_texts.refused_functions.write_mismatch.Goals as goal

pub returns : goal.returns
returns c =
    let first = codes "DotMismatch " ++ clause_text c.args.function.now c.args.clause ++ codes " " ++ c.args.ctx.now ++ codes " " ++ c.args.written.now in
    on_both c.write_after.result c.args.out.now.items _ _ first (codes " forced " ++ c.args.forced.now) (first ++ codes " forced " ++ c.args.forced.now) c.in_ok-write_written.ensures c.write_after.ensures
    (sym (append_assoc first (codes " forced ") c.args.forced.now))
