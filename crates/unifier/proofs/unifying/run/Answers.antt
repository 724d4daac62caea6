use Rattle.std.proofs.Common.{◌≡◌, Some, Ok, refl, ◌∙◌, ap, subst, arith}
use Rattle.std.proofs.lemmas.List.{map-append}
use Rattle.std.proofs.lemmas.Result.{err_from_is_err_and}
use Rattle.core_terms.specs.TreeMeanings.{step_of, steps_of}
use Rattle.unification.specs.Outcomes.{behind_steps}
use Rattle.unification.specs.Runs.{end_of, run_of}
use Rattle.unification.specs.Strategy as strategy
use Rattle.problems.specs.Meanings.{outcome_of, state_of, turn_of}
use Rattle.problems.specs.declared.turn.Turn.TheVariants.{Goes}
use Rattle.unifier.proofs.BelowCodes.{gives-runs}
use Rattle.unifier.proofs.RunCodes.{behind_all, end-there, run-ends, run-goes, run-refused, run-starts, turns-fall}
use Rattle.unifier.proofs.RunEnds.{code-ends}
use Rattle.unifier.proofs.unifying.run.Goals as goal

pub turns-init : goal.turns-init
turns-init c = record {
  meant = ap (λ steps. behind_all (steps_of steps) (run_of c.args.sig.now (state_of c.args.start.value) c.args.kernel.now.left)) c.new-steps.ensures
      ∙ run-starts c.args.sig.now (state_of c.args.start.value) c.args.kernel.now.left;
  kept = c.requires.state;
  kernel = c.requires.kernel;
  sum = refl;
  spends = omega arith;
}

pub turns-preserved : goal.turns-preserved
turns-preserved c =
    let S = c.args.sig.now in
    let t = state_of c.in-Goes.next.value in
    let at = subst (λ s. (Ok (Some (turn_of (Goes c.in-Goes.step c.in-Goes.next))), c.turn.new.kernel.left) ≡ strategy.turn_of S (state_of s) c.turns.kernel.left) c.deref.ensures (rw c.in-Goes.is at c.in_ok-end.ensures.answer) in
    record {
      meant = ap (λ steps. behind_all steps (run_of S t c.turn.new.kernel.left)) (ap steps_of c.in_ok-push-in-Goes.ensures.ok ∙ map-append step_of c.turns.steps _)
          ∙ (run-goes S (state_of c.turns.state.value) t c.turns.kernel.left c.turn.new.kernel.left (step_of c.in-Goes.step) (steps_of c.turns.steps) at ∙ c.turns.invariant.meant);
      kept = rw c.in-Goes.is at c.in_ok-end.ensures.kept;
      kernel = c.in_ok-end.ensures.kernel;
      sum = omega (arith, c.in_ok-end.ensures.sum, c.turns.invariant.sum);
      spends = omega (arith, c.in_ok-end.ensures.spends, c.turns.invariant.spends);
    }

pub turns-smaller : goal.turns-smaller
turns-smaller c =
    let S = c.args.sig.now in
    let at = subst (λ s. (Ok (Some (turn_of (Goes c.in-Goes.step c.in-Goes.next))), c.turn.new.kernel.left) ≡ strategy.turn_of S (state_of s) c.turns.kernel.left) c.deref.ensures (rw c.in-Goes.is at c.in_ok-end.ensures.answer) in
    turns-fall S (state_of c.turns.state.value) (state_of c.in-Goes.next.value) c.turns.kernel.left c.turn.new.kernel.left (step_of c.in-Goes.step) at

pub returns-in_err-end-clause-answer : goal.returns-in_err-end-clause-answer
returns-in_err-end-clause-answer c =
    let S = c.args.sig.now in
    let q = err_from_is_err_and c.from_residual.result c.from_residual.ensures.1 in
    rw (q.1, q.2)
    (λ other.
    run-refused S (state_of c.turns.state.value) c.turns.kernel.left c.turn.new.kernel.left _ (steps_of c.turns.steps)
    (c.in_err-end.ensures.answer other ∙ ap (λ s. strategy.turn_of S (state_of s) c.turns.kernel.left) c.deref.ensures)
    ∙ c.turns.invariant.meant)

pub returns-in_default : goal.returns-in_default
returns-in_default c =
    let S = c.args.sig.now in
    let s = state_of c.turns.state.value in
    let turn = turn_of c.in_ok-end.end in
    let there = end-there s turn (code-ends c.in_ok-end.end c.in_default.not-Goes) in
    let given = c.finish.ensures in
    record {
      answer = gives-runs outcome_of c.finish.result c.turn.new.kernel.left (Ok (behind_steps (steps_of c.turns.steps) there.0)) (run_of S (state_of c.args.start.value) c.args.kernel.now.left)
          (c.finish.ensures there.0 (ap (λ s. end_of (state_of s) turn) c.into_inner.ensures ∙ there.1))
          (run-ends S s c.turns.kernel.left c.turn.new.kernel.left turn there.0 (steps_of c.turns.steps)
          (c.in_ok-end.ensures.answer ∙ ap (λ s. strategy.turn_of S (state_of s) c.turns.kernel.left) c.deref.ensures) there.1
          ∙ c.turns.invariant.meant);
      kernel = c.in_ok-end.ensures.kernel;
      sum = omega (arith, c.in_ok-end.ensures.sum, c.turns.invariant.sum);
      spends = omega (arith, c.in_ok-end.ensures.spends, c.turns.invariant.spends);
    }
