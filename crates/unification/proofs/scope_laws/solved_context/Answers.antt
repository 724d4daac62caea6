use Rattle.unification.proofs.SolvedContexts.{solved-context}
use Rattle.unification.proofs.scope_laws.solved_context.Goals as goal

pub returns : goal.returns
returns c = solved-context
