use Rattle.std.proofs.Common.{Ok, ap, inl, inr, ◌∙◌}
use Rattle.std.proofs.lemmas.List.{map-append}
use Rattle.core_terms.specs.Meanings.{tree_of, tele_of}
use Rattle.core_terms.specs.TreeMeanings.{step_of, steps_of}
use Rattle.unification.specs.Outcomes.{Absurd}
use Rattle.problems.specs.Meanings.{state_of, turn_of}
use Rattle.unifier.proofs.RunEnds.{fails-end, sticks-end, done-end, goes-end}
use Rattle.unifier.proofs.unifying.finish.Goals as goal

pub returns-in-Fails : goal.returns-in-Fails
returns-in-Fails c = λ outcome at.
    ap (λ steps. Ok (Absurd steps (tele_of c.args.state.ctx) (tree_of c.in-Fails.left) (tree_of c.in-Fails.right))) (ap steps_of c.in_ok-push-in-Fails.ensures.ok ∙ map-append step_of c.args.steps _)
    ∙ ap Ok (fails-end (steps_of c.args.steps) (state_of c.args.state) (turn_of c.args.end) (step_of c.in-Fails.step) (tree_of c.in-Fails.left) (tree_of c.in-Fails.right) outcome (ap turn_of c.in-Fails.is) at)

pub returns-in-Sticks : goal.returns-in-Sticks
returns-in-Sticks c = λ outcome at.
    ap Ok (sticks-end (steps_of c.args.steps) (state_of c.args.state) (turn_of c.args.end) c.in-Sticks.why (tree_of c.in-Sticks.left) (tree_of c.in-Sticks.right) outcome (ap turn_of c.in-Sticks.is) at)

pub returns : goal.returns
returns c = λ outcome at.
    elim c.in-Done.is [
      | inl is ↦ ap Ok (done-end (steps_of c.args.steps) (state_of c.args.state) (turn_of c.args.end) outcome (ap turn_of is) at)
      | inr is ↦ absurd (goes-end (state_of c.args.state) (turn_of c.args.end) (step_of is.0) (state_of is.1.value) outcome (ap turn_of is.2) at)
    ]
