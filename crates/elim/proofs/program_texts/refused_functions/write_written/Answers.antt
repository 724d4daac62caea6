use Rattle.std.proofs.Common.{◌++◌, codes, sym, append_assoc}
use Rattle.elim.specs.program_texts.Refusals.{clause_text}
use Rattle.elim.proofs.program_texts.WrittenTexts.{on_both}
use Rattle.elim.proofs.program_texts.refused_functions.write_written.Goals as goal

pub returns : goal.returns
returns c =
    let first = codes "DotMismatch " ++ clause_text c.args.function.now c.args.clause ++ codes " " ++ c.args.ctx.now in
    on_both c.write_after.result c.args.out.now.items _ _ first (codes " " ++ c.args.written.now) (first ++ codes " " ++ c.args.written.now) c.in_ok-write_in.ensures c.write_after.ensures
    (sym (append_assoc first (codes " ") c.args.written.now))
