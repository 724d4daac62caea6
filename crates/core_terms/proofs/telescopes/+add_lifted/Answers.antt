use Rattle.std.proofs.Common.{◌≤◌, ◌+◌, length, drop, ◌-◌, arith}
use Rattle.std.proofs.lemmas.List.{length-take, length-drop}
use Rattle.theory.specs.Terms.{free_of}
use Rattle.core_terms.specs.Bounds.{most_free}
use Rattle.core_terms.proofs.Lists.{value-has, rest-have}
use Rattle.core_terms.proofs.telescopes.+add_lifted.Goals as goal

pub lift-requires : goal.lift-requires
lift-requires t c =
    value-has (λ s. free_of s + c.args.by ≤ most_free) c.args.tele.now 0 _ (omega arith) c.ty-item.is c.requires.indices

pub add_lifted-requires : goal.add_lifted-requires
add_lifted-requires t c =
    let tele = c.args.tele.now in
    let rest = length-take (length tele - 1) (drop 1 tele) in
    let less = length-drop 1 tele in
    (omega arith, (rest-have (λ s. free_of s + c.args.by ≤ most_free) tele c.requires.indices, omega arith))
