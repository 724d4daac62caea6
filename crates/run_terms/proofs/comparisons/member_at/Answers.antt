use Rattle.run_terms.proofs.MemberKinds.{kinds-there}
use Rattle.run_terms.proofs.comparisons.member_at.Goals as goal

pub returns-in_ok-parameters-in-Some-clause-kinds : goal.returns-in_ok-parameters-in-Some-clause-kinds
returns-in_ok-parameters-in-Some-clause-kinds c = kinds-there c.in-Some.built _ c.in-Some.ensures
