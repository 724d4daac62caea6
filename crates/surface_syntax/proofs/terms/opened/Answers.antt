use Rattle.std.proofs.Common.{arith}
use Rattle.surface_syntax.specs.StateMeanings.{term_in_of}
use Rattle.surface_syntax.proofs.Elsewhere.{opened_else}
use Rattle.surface_syntax.proofs.terms.opened.Goals as goal

pub returns-in_default : goal.returns-in_default
returns-in_default c =
    opened_else c.opened_term.result c.args.depth c.args.left (term_in_of c.args.context.value) c.args.lexeme (λ v e. grind arith) (λ e. grind arith) c.opened_term.ensures
