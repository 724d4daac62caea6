use Rattle.std.proofs.Common.{◌≡◌, ◌<◌, length, get_or}
use Rattle.core_sig.proofs.ConstructorTypes.{kinds_at}
use Rattle.core_text.proofs.ConstructorTexts.{constructors_less}
use Rattle.core_text.proofs.entry_printer.write_constructors.Goals as goal

pub loop-con-preserved : goal.loop-con-preserved
loop-con-preserved c =
    let family = c.args.family.now in
    let con = c.con-item.result in
    let lt : c.loop-con.con-index < length family.cons = rw (← c.as_slice-con-items.ensures) c.loop-con-test.true in
    let is : con ≡ get_or family.cons c.loop-con.con-index con = rw (← c.as_slice-con-items.ensures) c.con-item.is in
    rw (c.in_ok-write_constructor_type.ensures.ok, c.in_ok-write-3.ensures.ok, c.in_ok-write-2.ensures.ok, c.in_ok-write.ensures.ok, c.as_slice.ensures, c.as_slice-params.ensures)
    (constructors_less c.args.sig.now c.args.number family c.loop-con.before.now c.loop-con.out.items _ family.cons c.loop-con.con-index con (kinds_at c.args.number family c.loop-con.con-index con c.requires lt is) lt is c.loop-con.invariant)
