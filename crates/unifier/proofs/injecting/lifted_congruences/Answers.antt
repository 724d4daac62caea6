use Rattle.std.proofs.Common.{List, length, ap, ap₂, sym, ◌∙◌, subst as transport, arith}
use Rattle.theory.specs.Telescopes.{variables}
use Rattle.theory.specs.Terms.{Term}
use Rattle.core_terms.specs.Answers.{Gives, bounded_terms}
use Rattle.core_terms.specs.Meanings.{tele_of}
use Rattle.core_terms.proofs.Builders.{ok_is}
use Rattle.tele_eq.specs.Congruences.{congruences}
use Rattle.tele_eq.specs.Items.{AreSmallTerms, items_of}
use Rattle.unification.specs.Injecting.{lifted}
use Rattle.problems.specs.Conditions.{most_depth, most_levels}
use Rattle.problems.proofs.KnownRecords.{lifted-over, over-more, over-small, variables-small}
use Rattle.unifier.proofs.injecting.lifted_congruences.Goals as goal

pub lifted-requires-clause-terms : goal.lifted-requires-clause-terms
lifted-requires-clause-terms c = over-more most_levels most_depth (tele_of c.args.left.now) (omega arith) (omega arith) c.requires.left

pub lifted-requires-2-clause-terms : goal.lifted-requires-2-clause-terms
lifted-requires-2-clause-terms c = over-more most_levels most_depth (tele_of c.args.right.now) (omega arith) (omega arith) c.requires.right

pub cong-requires-clause-left : goal.cong-requires-clause-left
cong-requires-clause-left c =
    let count = ap length c.as_slice.ensures in
    let k = length c.as_slice.result.now in
    transport AreSmallTerms (sym (ok_is c.in_ok-left.ensures))
    (over-small most_depth (lifted k (tele_of c.args.left.now))
    (lifted-over most_levels k most_depth (tele_of c.args.left.now) (omega arith) (omega arith) c.requires.left))

pub cong-requires-clause-right : goal.cong-requires-clause-right
cong-requires-clause-right c =
    let count = ap length c.as_slice.ensures in
    let k = length c.as_slice.result.now in
    transport AreSmallTerms (sym (ok_is c.in_ok-right.ensures))
    (over-small most_depth (lifted k (tele_of c.args.right.now))
    (lifted-over most_levels k most_depth (tele_of c.args.right.now) (omega arith) (omega arith) c.requires.right))

pub cong-requires-clause-eqs : goal.cong-requires-clause-eqs
cong-requires-clause-eqs c =
    let count = ap length c.as_slice.ensures in
    transport AreSmallTerms (sym (ok_is c.in_ok-proofs.ensures)) (variables-small (length c.as_slice.result.now) (omega arith))

pub returns : goal.returns
returns c =
    let X = items_of c.args.arguments.now in
    let Y = items_of c.args.members.now in
    let Z = tele_of c.args.terms.now in
    let us = tele_of c.args.left.now in
    let vs = tele_of c.args.right.now in
    let P : List Term → Type 0 = λ ts. Gives tele_of c.cong.result (bounded_terms ts) in
    transport P
    (ap (λ es. congruences X Y Z (tele_of c.in_ok-left.left) (tele_of c.in_ok-right.right) es) (ok_is c.in_ok-proofs.ensures)
    ∙ (ap₂ (λ l r. congruences X Y Z l r (variables (length c.as_slice.result.now))) (ok_is c.in_ok-left.ensures) (ok_is c.in_ok-right.ensures)
    ∙ ap (λ k. congruences X Y Z (lifted k us) (lifted k vs) (variables k)) (ap length c.as_slice.ensures)))
    c.cong.ensures
