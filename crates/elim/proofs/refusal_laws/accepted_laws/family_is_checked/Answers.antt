use Rattle.elim.proofs.refusal_laws.accepted_laws.Families.{family-is-checked}
use Rattle.elim.proofs.refusal_laws.accepted_laws.family_is_checked.Goals as goal

pub returns : goal.returns
returns c = family-is-checked
