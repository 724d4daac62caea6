use Rattle.std.proofs.Common.{IfSome, length, subst as transport}
use Rattle.problems.specs.MemberConditions.{IsMember}
use Rattle.proof_walks.proofs.nodes.with_type.Goals as goal

pub returns-in-Some-clause-found : goal.returns-in-Some-clause-found
returns-in-Some-clause-found c = record {
  below = c.requires.variable;
  member = transport (λ o. IfSome o (IsMember c.args.sig.now (length c.args.ctx.now))) c.in-Some.ensures.member.0
      (c.in_ok-found.ensures.member (length c.args.ctx.now) c.requires.given);
  splits = c.in-Some.ensures.member.1;
}
