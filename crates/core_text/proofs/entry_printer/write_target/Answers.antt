use Rattle.std.proofs.Common.{◌≡◌, ◌+◌, ◌<◌, length, ap, arith}
use Rattle.std.proofs.lemmas.Bool.Decides.{nat_tests}
use Rattle.std.proofs.lemmas.Grind.{common_steps}
use Rattle.core_text.proofs.SpineTexts.{text_target}
use Rattle.core_text.proofs.entry_printer.write_target.Goals as goal
use Rattle.core_text.proofs.entry_printer.write_target.Goals.{else-params-eq0-via-then-params-eq0+else-is_empty, else-params-eq0-via-else-params-eq0}

pub returns-clause-ok : goal.returns-clause-ok
returns-clause-ok c =
    let con = c.args.con.now in
    let same : length c.as_slice-targets.result.now ≡ length con.targets = ap length c.as_slice-targets.ensures in
    let some : 0 < c.args.params + length con.targets =
    elim c.else-params-eq0.branch [
      | else-params-eq0-via-then-params-eq0+else-is_empty w ↦ let empty = w.if-is_empty.ensures in grind (arith, nat_tests, empty, same)
      | else-params-eq0-via-else-params-eq0 w ↦ omega arith
    ]
    in rw (text_target c.args.sig.now c.args.family (length con.args) c.args.params con.targets some) (grind (arith, common_steps))
