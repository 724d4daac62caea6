use Rattle.tele_eq.proofs.ScopeLaws.{scoped_transport}
use Rattle.tele_eq.proofs.scope_laws.scoped_transport.Goals as goal

pub returns : goal.returns
returns c = scoped_transport
