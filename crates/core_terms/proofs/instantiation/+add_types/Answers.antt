use Rattle.std.proofs.Common.{length, drop, ◌-◌, arith}
use Rattle.std.proofs.lemmas.List.{length-take, length-drop}
use Rattle.core_terms.proofs.instantiation.+add_types.Goals as goal

pub add_types-requires : goal.add_types-requires
add_types-requires t c =
    let tele = c.args.tele.now in
    let rest = length-take (length tele - 1) (drop 1 tele) in
    let less = length-drop 1 tele in
    (omega arith, (c.requires.values, omega arith))
