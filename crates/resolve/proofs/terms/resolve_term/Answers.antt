use Rattle.surface_syntax.specs.TreeMeanings.{surf_of}
use Rattle.resolve.proofs.LawProofs.{term_is}
use Rattle.resolve.proofs.terms.resolve_term.Goals as goal

pub returns-clause-scoped : goal.returns-clause-scoped
returns-clause-scoped c = term_is c.args.sig.now c.args.scope.now c.in_ok-variables.variables (surf_of c.args.t.now) _ (cc (c.in_ok-variables.ensures, c.as_slice.ensures)) c.in_ok-low.ensures
