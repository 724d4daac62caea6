use Rattle.std.proofs.Common.{sym, ◌∙◌}
use Rattle.elim.proofs.program_texts.Asking.{is_long}
use Rattle.elim.proofs.program_texts.texts.declarations.Goals as goal

pub returns-in-None : goal.returns-in-None
returns-in-None c = λ bytes e. is_long bytes (sym c.in-None.is ∙ e)
