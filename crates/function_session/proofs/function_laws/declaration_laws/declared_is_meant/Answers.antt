use Rattle.function_session.proofs.function_laws.declaration_laws.Declarations.{declared-meant}
use Rattle.function_session.proofs.function_laws.declaration_laws.declared_is_meant.Goals as goal

pub returns : goal.returns
returns c = declared-meant
