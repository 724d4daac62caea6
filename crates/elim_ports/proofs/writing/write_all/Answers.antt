use Rattle.std.proofs.Common.{arith}
use Rattle.std.proofs.lemmas.Grind.{common_steps}
use Rattle.std.proofs.lemmas.List.{take_rest}
use Rattle.std.proofs.Math.Seq.{take-add}
use Rattle.std.proofs.KnownBytes.{Appends-trans}
use Rattle.elim_ports.proofs.writing.write_all.Goals as goal

pub loop-sent-preserved : goal.loop-sent-preserved
loop-sent-preserved g c =
    let before = c.loop-sent.invariant in
    let wrote = c.in-Ok.ensures in
    record {
      within = grind (arith, common_steps);
      appended = rw take-add (Appends-trans _ _ _ _ _ before.appended (rw take_rest at wrote.bytes));
      never_falls = omega (arith, before.never_falls, wrote.never_falls);
    }
