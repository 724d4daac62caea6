use Rattle.std.proofs.Common.{length, Some, None, ◌-◌, ◌+◌, refl}
use Rattle.std.proofs.lemmas.Result.{err_from_is_err_and}
use Rattle.core_terms.specs.Meanings.{tree_of, tele_of}
use Rattle.kernel_reduce.specs.Reduction.{answered}
use Rattle.unification.specs.Occurrences.{dependants}
use Rattle.unification.specs.Solutions.{solves, state_solved}
use Rattle.problems.specs.Meanings.{equation_of, state_of}
use Rattle.problems.proofs.Rooms.{room-kept, types-low}
use Rattle.unifier.proofs.SolutionTrials.{answered-first, refused-first, refused-none, runs-behind}
use Rattle.unifier.proofs.solutions.solve_side.Goals as goal

pub dependants_of-requires-clause-low : goal.dependants_of-requires-clause-low
dependants_of-requires-clause-low c =
    types-low 0 (tele_of c.args.s.now.ctx) (room-kept c.args.kernel.now.signature (state_of c.args.s.now) c.requires.state).context

pub returns-in_err-dependants-clause-answer : goal.returns-in_err-dependants-clause-answer
returns-in_err-dependants-clause-answer c =
    let q = err_from_is_err_and c.from_residual.result c.from_residual.ensures.1 in
    rw (q.1, q.2)
    (refused-none _ (dependants (tele_of c.args.s.now.ctx) (length c.args.s.now.ctx - (c.args.x + 1))) _ _ c.in_err-dependants.ensures)

pub returns-in_err-by-clause-answer : goal.returns-in_err-by-clause-answer
returns-in_err-by-clause-answer c =
    let q = err_from_is_err_and c.from_residual-in_err-by.result c.from_residual-in_err-by.ensures.1 in
    let s = state_of c.args.s.now in
    rw (q.1, q.2)
    (refused-first _ c.solves.new.kernel.left (solves c.args.kernel.now.signature s c.args.x (tree_of c.args.ty.now) (tree_of c.args.other.now) c.args.kernel.now.left)
    (λ found rest. answered (state_solved s (equation_of c.args.e.now) c.args.x (tree_of c.args.ty.now) found) rest) c.in_err-by.ensures.answer)

pub with_state-requires-clause-state : goal.with_state-requires-clause-state
with_state-requires-clause-state c = room-kept c.args.kernel.now.signature (state_of c.args.s.now) c.requires.state

pub returns-in-Some-clause-answer : goal.returns-in-Some-clause-answer
returns-in-Some-clause-answer c =
    let s = state_of c.args.s.now in
    let e = equation_of c.args.e.now in
    let A = tree_of c.args.ty.now in
    let answer = rw c.in-Some.is at c.in_ok-by.ensures.answer in
    runs-behind _ c.with_state.result c.solves.new.kernel.left (solves c.args.kernel.now.signature s c.args.x A (tree_of c.args.other.now) c.args.kernel.now.left)
    (Some (tree_of c.in-Some.by)) (λ found rest. answered (state_solved s e c.args.x A found) rest)
    (state_solved s e c.args.x A (Some (tree_of c.in-Some.by))) answer refl c.with_state.ensures.answer

pub returns-clause-answer : goal.returns-clause-answer
returns-clause-answer c =
    let s = state_of c.args.s.now in
    let e = equation_of c.args.e.now in
    let A = tree_of c.args.ty.now in
    let answer = rw c.in-None.is at c.in_ok-by.ensures.answer in
    answered-first None c.solves.new.kernel.left (solves c.args.kernel.now.signature s c.args.x A (tree_of c.args.other.now) c.args.kernel.now.left)
    (λ found rest. answered (state_solved s e c.args.x A found) rest) answer
