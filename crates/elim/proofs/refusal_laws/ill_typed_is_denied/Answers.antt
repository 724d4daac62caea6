use Rattle.elim.proofs.refusal_laws.Declarations.{ill_typed-is_denied}
use Rattle.elim.proofs.refusal_laws.ill_typed_is_denied.Goals as goal

pub returns : goal.returns
returns c = ill_typed-is_denied
