use Rattle.problems.specs.Meanings.{problem_of, state_of}
use Rattle.unifier.proofs.StartCodes.{problem-few_items, problem-few_left, problem-few_right, start-kept}
use Rattle.unifier.proofs.unifying.run_of_problem.Goals as goal

pub start-requires-clause-few_items : goal.start-requires-clause-few_items
start-requires-clause-few_items c = problem-few_items c.args.sig.now c.args.p.now c.requires.problem c.requires.few

pub start-requires-clause-few_left : goal.start-requires-clause-few_left
start-requires-clause-few_left c = problem-few_left c.args.sig.now c.args.p.now c.requires.problem c.requires.few

pub start-requires-clause-few_right : goal.start-requires-clause-few_right
start-requires-clause-few_right c = problem-few_right c.args.sig.now c.args.p.now c.requires.problem c.requires.few

pub run-requires-clause-state : goal.run-requires-clause-state
run-requires-clause-state c =
    start-kept c.args.sig.now (problem_of c.args.p.now) (state_of c.in_ok-state.state.value) c.requires.ready c.requires.problem c.in_ok-state.ensures.answer c.in_ok-state.ensures.few
