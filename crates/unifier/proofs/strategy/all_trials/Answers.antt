use Rattle.std.proofs.Common.{Some, ◌-◌, length, drop, subst, arith}
use Rattle.std.proofs.lemmas.List.{length-take, length-drop}
use Rattle.core_terms.specs.Answers.{Runs}
use Rattle.problems.specs.Meanings.{state_of, turn_of}
use Rattle.unifier.proofs.TrialChains.{first-next}
use Rattle.unifier.proofs.strategy.all_trials.Goals as goal

pub returns-in-None-clause-answer : goal.returns-in-None-clause-answer
returns-in-None-clause-answer c =
    let es = c.as_slice.result.now in
    subst (Runs (λ turn. Some (turn_of turn)) c.first_trials.result c.first_trials.new.kernel.left)
    (first-next c.args.sig.now (state_of c.args.s.now) es c.args.s.now.equations c.first-item.result _ c.args.kernel.now.left c.group_trials.new.kernel.left c.as_slice.ensures c.in-len1-up.len_at_least c.first-item.is
    (rw c.in-None.is at c.in_ok-turn.ensures.answer) (omega (arith, length-take (length es - 1) (drop 1 es), length-drop 1 es)))
    c.first_trials.ensures.answer
