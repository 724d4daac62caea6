use Rattle.std.proofs.Common.{◌-◌, arith}
use Rattle.core_text.proofs.SpineTexts.{variables_less}
use Rattle.core_text.proofs.spines.write_variables.Goals as goal

pub loop-at-preserved : goal.loop-at-preserved
loop-at-preserved c =
    rw (c.in_ok-write_numbered.ensures.ok, c.from.ensures, c.from-in-loop-at.ensures)
    (variables_less c.args.sig.now c.loop-at.out.items _ c.args.from c.loop-at.at (c.loop-at.at - 1) (omega arith) c.loop-at.invariant)
