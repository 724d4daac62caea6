use Rattle.unifier.proofs.StartCodes.{code-scoped}
use Rattle.unifier.proofs.unifying.unify_with.Goals as goal

pub returns-clause-scoped : goal.returns-clause-scoped
returns-clause-scoped c =
    code-scoped c.args.sig.now c.args.p.now c.args.kernel.now.left c.run_of_problem.new.kernel.left c.run_of_problem.result c.requires.ready c.requires.problem c.run_of_problem.ensures.answer
