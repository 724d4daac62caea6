use Rattle.std.proofs.Common.{sym, subst}
use Rattle.surface_syntax.specs.Machine as machine
use Rattle.surface_syntax.specs.Steps.{Follows}
use Rattle.surface_syntax.specs.StateMeanings.{term_state_of}
use Rattle.surface_syntax.specs.declared.state.TermState.{TermState}
use Rattle.surface_syntax.proofs.terms.term_step.Goals as goal

pub returns-in-Level : goal.returns-in-Level
returns-in-Level c =
    subst (λ (s : TermState). Follows c.level.result (machine.term_step machine.limit c.args.left (term_state_of s) c.args.lexeme)) (sym c.in-Level.is) (c.level.ensures c.args.left)

pub returns-in-BinderOpen : goal.returns-in-BinderOpen
returns-in-BinderOpen c =
    subst (λ (s : TermState). Follows c.binder_open.result (machine.term_step machine.limit c.args.left (term_state_of s) c.args.lexeme)) (sym c.in-BinderOpen.is) (c.binder_open.ensures c.args.left)
