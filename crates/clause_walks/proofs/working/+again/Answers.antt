use Rattle.std.proofs.Common.{rules, ◌≡◌, ◌-◌, length, take, drop, refl, sym, ◌∙◌, subst, arith}
use Rattle.std.proofs.lemmas.Result.{err_from_is_err_and}
use Rattle.core_terms.specs.Answers.{Runs}
use Rattle.core_terms.specs.Meanings.{tele_of}
use Rattle.case_trees.specs.Pairs as spec
use Rattle.case_trees.specs.Working.{work_pairs}
use Rattle.problems.specs.Conditions.{most_levels}
use Rattle.clause_walks.specs.CodeWorking.{rooms_of}
use Rattle.clause_walks.specs.Meanings.{pair_of, pairs_of, behind}
use Rattle.clause_walks.specs.declared.pairs.Pair.TheFolds.{the_lemmas}
use Rattle.clause_walks.proofs.WorkingCodes.{gives-runs, clash-behind, clean-behind, first-made, pairs-refused, pairs-end, pairs-go, rest-smaller, rest-pairs-scoped, inside-smaller, inside-scoped}
use Rattle.clause_walks.proofs.working.+again.Goals as goal

pub after_pair-returns-then-clash-clause-answer : goal.after_pair-returns-then-clash-clause-answer
after_pair-returns-then-clash-clause-answer t c =
    let pairs = pairs_of c.args.pairs.now in
    gives-runs pairs_of c.copy_after.result (behind c.push.new.self pairs) c.args.kernel.now.left _ c.copy_after.ensures
    (clash-behind c.args.made c.push.new.self c.args.worked pairs (work_pairs c.args.sig.now (rooms_of c.args.rooms) pairs) c.args.kernel.now.left c.in_ok-push.ensures.ok
    (sym c.clashes-clash.ensures ∙ c.if-clash.true))

pub after_pair-returns-else-clash-clause-answer : goal.after_pair-returns-else-clash-clause-answer
after_pair-returns-else-clash-clause-answer t c =
    let pairs = pairs_of c.args.pairs.now in
    subst (λ meant. Runs pairs_of c.work_onto.result c.work_onto.new.kernel.left meant)
    (clean-behind c.args.made c.push.new.self c.args.worked pairs (work_pairs c.args.sig.now (rooms_of c.args.rooms) pairs) c.args.kernel.now.left c.in_ok-push.ensures.ok
    (sym c.clashes-clash.ensures ∙ c.if-clash.false))
    c.work_onto.ensures.answer

pub work_inside-returns-clause-answer : goal.work_inside-returns-clause-answer
work_inside-returns-clause-answer t c =
    subst (λ meant. Runs pairs_of c.work_onto.result c.work_onto.new.kernel.left meant) (first-made c.new-made.result _ c.new-made.ensures) c.work_onto.ensures.answer

pub work_onto-returns-in_err-worked-in-len1-up-clause-answer : goal.work_onto-returns-in_err-worked-in-len1-up-clause-answer
work_onto-returns-in_err-worked-in-len1-up-clause-answer t c =
    let q = err_from_is_err_and c.from_residual.result c.from_residual.ensures.1 in
    rw (q.1, q.2)
    (λ other.
    pairs-refused c.args.sig.now (rooms_of c.args.rooms) c.args.made c.args.pairs.now c.pair-item.result c.room_for-room.result c.args.kernel.now.left c.work_pair.new.kernel.left _ c.in-len1-up.len_at_least c.pair-item.is
    c.room_for-room.ensures (c.in_err-worked-in-len1-up.ensures.answer other))

pub work_onto-after_pair-requires : goal.work_onto-after_pair-requires
work_onto-after_pair-requires t c =
    let smaller = rest-smaller c.args.pairs.now c.pair-item.result c.in-len1-up.len_at_least c.pair-item.is in (
      omega (arith, smaller, c.decreases),
      (c.in_ok-worked-in-len1-up.ensures.kernel, (c.requires.ready, rest-pairs-scoped c.args.sig.now most_levels c.args.pairs.now c.pair-item.result c.in-len1-up.len_at_least c.pair-item.is c.requires.terms)),
    )

pub work_onto-returns-in-empty-clause-answer : goal.work_onto-returns-in-empty-clause-answer
work_onto-returns-in-empty-clause-answer t c = pairs-end c.args.sig.now (rooms_of c.args.rooms) c.args.made c.args.pairs.now c.args.kernel.now.left c.in-empty.len_below

pub work_onto-returns-in_ok-worked-in-len1-up-clause-answer : goal.work_onto-returns-in_ok-worked-in-len1-up-clause-answer
work_onto-returns-in_ok-worked-in-len1-up-clause-answer t c =
    let step = pairs-go c.args.sig.now (rooms_of c.args.rooms) c.args.made c.args.pairs.now (take (length c.args.pairs.now - 1) (drop 1 c.args.pairs.now)) c.pair-item.result (pair_of c.in_ok-worked-in-len1-up.worked)
    c.room_for-room.result c.args.kernel.now.left c.work_pair.new.kernel.left c.in-len1-up.len_at_least c.pair-item.is c.room_for-room.ensures refl c.in_ok-worked-in-len1-up.ensures.answer in
    subst (λ meant. Runs pairs_of c.after_pair.result c.after_pair.new.kernel.left meant) step c.after_pair.ensures.answer

pub work_pair-work_inside-requires : goal.work_pair-work_inside-requires
work_pair-work_inside-requires t c =
    let pairs = pairs_of c.as_slice.result.now in
    let is : pair_of c.args.pair.now ≡ spec.Builds c.in-Builds.n c.in-Builds.number (tele_of c.in-Builds.ps) pairs = search (rules, the_lemmas) in
    let smaller = inside-smaller (pair_of c.args.pair.now) c.in-Builds.n c.in-Builds.number (tele_of c.in-Builds.ps) pairs is in (
      omega (arith, smaller, c.decreases),
      (c.requires.kernel, (c.requires.ready, inside-scoped c.args.sig.now most_levels (pair_of c.args.pair.now) c.in-Builds.n c.in-Builds.number (tele_of c.in-Builds.ps) pairs is c.requires.term)),
    )
