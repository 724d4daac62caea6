use Rattle.entry_laws.proofs.NameLaws.{earlier_alone}
use Rattle.entry_laws.proofs.laws.earlier_alone.Goals as goal

pub returns : goal.returns
returns c = earlier_alone
