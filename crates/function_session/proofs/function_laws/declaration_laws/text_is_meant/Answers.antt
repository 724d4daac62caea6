use Rattle.function_session.proofs.function_laws.declaration_laws.Texts.{text-meant}
use Rattle.function_session.proofs.function_laws.declaration_laws.text_is_meant.Goals as goal

pub returns : goal.returns
returns c = text-meant c.declared_is_meant.ensures
