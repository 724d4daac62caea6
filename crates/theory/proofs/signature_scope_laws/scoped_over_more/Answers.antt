use Rattle.theory.proofs.ScopedTerms.{scoped_over_more}
use Rattle.theory.proofs.signature_scope_laws.scoped_over_more.Goals as goal

pub returns : goal.returns
returns c = scoped_over_more
