use Rattle.std.proofs.Common.{Some, length, ◌∙◌, subst}
use Rattle.std.proofs.lemmas.Result.{err_from_is_err_and}
use Rattle.core_terms.specs.Answers.{Runs}
use Rattle.unification.specs.Constructors.{constructor_trial}
use Rattle.unification.specs.Cycles.{cycle_trial}
use Rattle.unification.specs.Deletions.{deletion_trial}
use Rattle.unification.specs.Solutions.{solution_trial}
use Rattle.unification.specs.Sticking.{stuck_trial}
use Rattle.unification.specs.Turns.{or_else}
use Rattle.problems.specs.Meanings.{equation_of, state_of, turn_of}
use Rattle.problems.proofs.GivenTerms.{code-equation}
use Rattle.unifier.proofs.KeptTurns.{equation-more}
use Rattle.unifier.proofs.TrialChains.{or-refused, or-found, or-next, third-next}
use Rattle.unifier.proofs.strategy.first_trials.Goals as goal

pub cycle_trial-requires-clause-e : goal.cycle_trial-requires-clause-e
cycle_trial-requires-clause-e c =
    let e = code-equation c.args.sig.now c.args.s.now 0 c.args.e.now c.requires.state c.requires.first in
    equation-more c.args.sig.now (length c.args.s.now.ctx) (equation_of c.args.e.now) e.left.few e.scoped

pub cycle_trial-requires-clause-low : goal.cycle_trial-requires-clause-low
cycle_trial-requires-clause-low c =
    let e = code-equation c.args.sig.now c.args.s.now 0 c.args.e.now c.requires.state c.requires.first in (e.left.low, e.right.low)

pub stuck-requires-clause-e : goal.stuck-requires-clause-e
stuck-requires-clause-e c =
    let e = code-equation c.args.sig.now c.args.s.now 0 c.args.e.now c.requires.state c.requires.first in
    equation-more c.args.sig.now (length c.args.s.now.ctx) (equation_of c.args.e.now) e.left.few e.scoped

pub stuck-requires-clause-low : goal.stuck-requires-clause-low
stuck-requires-clause-low c =
    let e = code-equation c.args.sig.now c.args.s.now 0 c.args.e.now c.requires.state c.requires.first in (e.left.low, e.right.low)

pub returns-in_err-turn-4-clause-answer : goal.returns-in_err-turn-4-clause-answer
returns-in_err-turn-4-clause-answer c =
    let S = c.args.sig.now in
    let s = state_of c.args.s.now in
    let e = equation_of c.args.e.now in
    let q = err_from_is_err_and c.from_residual-in_err-turn-4.result c.from_residual-in_err-turn-4.ensures.1 in
    rw (q.1, q.2)
    (λ other.
    or-refused (deletion_trial S s e) (stuck_trial S e) c.cycle_trial.new.kernel.left _ _ (c.in_err-turn-4.ensures.answer other)
    ∙ third-next (solution_trial S s e) (constructor_trial S s e) (cycle_trial S e) (or_else (deletion_trial S s e) (stuck_trial S e)) _ _ c.cycle_trial.new.kernel.left c.args.kernel.now.left
    (rw c.requires.kernel at (rw c.in_default.is at c.in_ok-turn.ensures.answer)) (rw c.in_default-2.is at c.in_ok-turn-2.ensures.answer) (rw c.in_default-3.is at c.in_ok-turn-3.ensures.answer))

pub returns-in-Some-4-clause-answer : goal.returns-in-Some-4-clause-answer
returns-in-Some-4-clause-answer c =
    let S = c.args.sig.now in
    let s = state_of c.args.s.now in
    let e = equation_of c.args.e.now in
    or-found (deletion_trial S s e) (stuck_trial S e) c.cycle_trial.new.kernel.left _ (turn_of c.in-Some-4.turn) (rw c.in-Some-4.is at c.in_ok-turn-4.ensures.answer)
    ∙ third-next (solution_trial S s e) (constructor_trial S s e) (cycle_trial S e) (or_else (deletion_trial S s e) (stuck_trial S e)) _ _ c.cycle_trial.new.kernel.left c.args.kernel.now.left
    (rw c.requires.kernel at (rw c.in_default.is at c.in_ok-turn.ensures.answer)) (rw c.in_default-2.is at c.in_ok-turn-2.ensures.answer) (rw c.in_default-3.is at c.in_ok-turn-3.ensures.answer)

pub returns-clause-answer : goal.returns-clause-answer
returns-clause-answer c =
    let S = c.args.sig.now in
    let s = state_of c.args.s.now in
    let e = equation_of c.args.e.now in
    subst (Runs (λ turn. Some (turn_of turn)) c.stuck.result c.stuck.new.kernel.left)
    (or-next (deletion_trial S s e) (stuck_trial S e) c.cycle_trial.new.kernel.left _ (rw c.in_default-4.is at c.in_ok-turn-4.ensures.answer)
    ∙ third-next (solution_trial S s e) (constructor_trial S s e) (cycle_trial S e) (or_else (deletion_trial S s e) (stuck_trial S e)) _ _ c.cycle_trial.new.kernel.left c.args.kernel.now.left
    (rw c.requires.kernel at (rw c.in_default.is at c.in_ok-turn.ensures.answer)) (rw c.in_default-2.is at c.in_ok-turn-2.ensures.answer) (rw c.in_default-3.is at c.in_ok-turn-3.ensures.answer))
    c.stuck.ensures.answer
