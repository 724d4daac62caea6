use Rattle.std.proofs.Common.{length, drop, ◌-◌, arith}
use Rattle.std.proofs.lemmas.List.{length-take, length-drop}
use Rattle.core_terms.proofs.instantiation.+add_terms.Goals as goal

pub add_terms-requires : goal.add_terms-requires
add_terms-requires t c =
    let terms = c.args.terms.now in
    let rest = length-take (length terms - 1) (drop 1 terms) in
    let less = length-drop 1 terms in
    (omega arith, c.requires)
