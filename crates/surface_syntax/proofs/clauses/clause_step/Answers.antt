use Rattle.std.proofs.Common.{sym, subst}
use Rattle.surface_syntax.specs.Machine as machine
use Rattle.surface_syntax.specs.Steps.{Follows}
use Rattle.surface_syntax.specs.StateMeanings.{clause_state_of}
use Rattle.surface_syntax.specs.declared.state.ClauseState.{ClauseState}
use Rattle.surface_syntax.proofs.clauses.clause_step.Goals as goal

pub returns-in-DotLevel : goal.returns-in-DotLevel
returns-in-DotLevel c =
    subst (λ (s : ClauseState). Follows c.dot_level.result (machine.clause_step machine.limit c.args.left (clause_state_of s) c.args.lexeme)) (sym c.in-DotLevel.is) (c.dot_level.ensures c.args.left)
