use Rattle.std.proofs.Common.{arith}
use Rattle.shared_text.specs.BlockText.{shared_text}
use Rattle.shared_text.specs.CodeMeanings.{shared_of}
use Rattle.shared_text.proofs.BlocksOfLines.{constructors-less}
use Rattle.shared_text.proofs.line_writer.write_constructors.Goals as goal

pub cons-preserved : goal.cons-preserved
cons-preserved c =
    let texts = c.args.texts.now in
    record {
      within = omega (arith, c.cons-test.true);
      text =
          rw c.in_ok-write_constructor.ensures.ok
          (constructors-less (shared_text texts.sig.now (shared_of texts)) texts.pool.now c.args.types.now c.args.cons.now c.cons.at c.index-cons-at.result (record { at = 0 }) c.cons.before.now c.cons.out.items _
          c.cons-test.true c.index-cons-at.is c.requires.types.terms c.cons.invariant.text);
    }
