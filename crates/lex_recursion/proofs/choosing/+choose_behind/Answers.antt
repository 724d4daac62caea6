use Rattle.std.proofs.Common.{Ok, ◌-◌, ap, arith, drop, length, length-drop, length-take, map, subst, take}
use Rattle.core_terms.proofs.Builders.{ok_is}
use Rattle.core_terms.specs.Answers.{Gives}
use Rattle.core_terms.specs.Meanings.{tele_of}
use Rattle.tree_translation.specs.structural_rec.Meanings.{admission_of, uses_of}
use Rattle.lex_recursion.specs.Meanings.{choice_of, failing_of}
use Rattle.lex_recursion.specs.Pairs as pairs
use Rattle.lex_recursion.proofs.LaterPairs.{later-choice}
use Rattle.lex_recursion.proofs.choosing.+choose_behind.Goals as goal

pub returns-in-Failing : goal.returns-in-Failing
returns-in-Failing t c =
    let S = c.args.s.now.sig.now in
    let tele = tele_of c.args.s.now.tele.now in
    subst (λ m. Gives choice_of c.choose_behind.result (Ok m))
    (later-choice S c.args.s.now.own (length tele) (uses_of c.args.s.now.uses.now)
    (λ k. pairs.if_some (pairs.pair_behind S tele c.args.first.now.position (admission_of c.args.first.now.admission.now) k))
    (map failing_of c.args.rows) (map failing_of c.in-Failing.rows) c.args.k (length c.args.rest.now) (length (take (length c.args.rest.now - 1) (drop 1 c.args.rest.now)))
    (omega (arith, c.in-len1-up.len_at_least)) (omega (arith, length-take (length c.args.rest.now - 1) (drop 1 c.args.rest.now), length-drop 1 c.args.rest.now))
    (choice_of c.in_ok-taken-in-len1-up.taken) (ok_is c.in_ok-taken-in-len1-up.ensures) (ap choice_of c.in-Failing.is))
    c.choose_behind.ensures
