use Rattle.shared_text.specs.BlockText.{shared_text}
use Rattle.shared_text.specs.CodeMeanings.{shared_of}
use Rattle.shared_text.proofs.BlocksOfLines.{parameters-less}
use Rattle.shared_text.proofs.line_writer.write_parameters.Goals as goal

pub loop-ty-preserved : goal.loop-ty-preserved
loop-ty-preserved c =
    let texts = c.args.texts.now in
    rw (c.in_ok-write-2.ensures.ok, c.in_ok-write_shared.ensures.ok, c.in_ok-write.ensures.ok)
    (parameters-less (shared_text texts.sig.now (shared_of texts)) texts.pool.now c.args.params.now c.loop-ty.ty-index (record { at = 0 }) c.loop-ty.out.items _ c.loop-ty-test.true c.loop-ty.invariant)
