use Rattle.core_sig.specs.Meanings.{family_of}
use Rattle.core_sig.proofs.PositiveFamilies.{offender-positive}
use Rattle.core_sig.proofs.positivity.strictly_positive.Goals as goal

pub returns-clause-positive : goal.returns-clause-positive
returns-clause-positive c = offender-positive c.args.fam (family_of c.args.f.now) c.first_among.result c.first_among.ensures
