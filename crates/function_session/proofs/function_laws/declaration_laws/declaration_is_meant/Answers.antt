use Rattle.function_session.proofs.function_laws.declaration_laws.Declarations.{declaration-meant}
use Rattle.function_session.proofs.function_laws.declaration_laws.declaration_is_meant.Goals as goal

pub returns : goal.returns
returns c = declaration-meant
