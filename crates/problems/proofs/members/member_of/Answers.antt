use Rattle.core_terms.specs.Meanings.{tree_of}
use Rattle.problems.specs.MemberConditions.{IsMember, IsSplitAs}
use Rattle.problems.proofs.FamilyMembers.{each-found, split-member}
use Rattle.problems.proofs.members.member_of.Goals as goal

pub returns-clause-member : goal.returns-clause-member
returns-clause-member c = λ n given.
    each-found (IsSplitAs c.in-Fam.number c.in-Some.f.now (tree_of c.args.t.now)) (IsMember c.args.sig.now n) c.member_with.result
    (λ m h. split-member c.args.sig.now n c.in-Fam.number c.in-Some.f.now (tree_of c.args.t.now) m c.in-Some.ensures.family c.in-Some.ensures.kinds given h)
    c.member_with.ensures.parts
