use Rattle.std.proofs.Common.{length, drop, ◌-◌, arith}
use Rattle.std.proofs.lemmas.List.{length-take, length-drop}
use Rattle.core_terms.proofs.telescopes.+add_substituted.Goals as goal

pub add_substituted-requires : goal.add_substituted-requires
add_substituted-requires t c =
    let tele = c.args.tele.now in
    let rest = length-take (length tele - 1) (drop 1 tele) in
    let less = length-drop 1 tele in
    (omega arith, (omega arith, omega arith))
