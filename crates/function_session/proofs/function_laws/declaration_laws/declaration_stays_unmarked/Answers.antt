use Rattle.function_session.proofs.function_laws.declaration_laws.UnmarkedDeclarations.{declaration-stays}
use Rattle.function_session.proofs.function_laws.declaration_laws.declaration_stays_unmarked.Goals as goal

pub returns : goal.returns
returns c = declaration-stays
