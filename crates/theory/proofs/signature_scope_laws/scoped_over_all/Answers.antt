use Rattle.theory.proofs.ScopedTerms.{scoped_over_all}
use Rattle.theory.proofs.signature_scope_laws.scoped_over_all.Goals as goal

pub returns : goal.returns
returns c = scoped_over_all
