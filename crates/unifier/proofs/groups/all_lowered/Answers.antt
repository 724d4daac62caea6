use Rattle.std.proofs.Common.{◌≤◌, arith}
use Rattle.core_terms.proofs.Builders.{ok_is}
use Rattle.core_terms.proofs.Lists.{value-has}
use Rattle.theory.specs.Terms.{height}
use Rattle.problems.proofs.Lowering.{lowered-more}
use Rattle.unifier.proofs.groups.all_lowered.Goals as goal

pub lowered-requires : goal.lowered-requires
lowered-requires c =
    let low = value-has (λ t. height t ≤ 2000) c.args.terms.now c.loop-t.t-index c.t-item.result c.loop-t-test.true c.t-item.is c.requires in
    omega arith

pub loop-t-preserved : goal.loop-t-preserved
loop-t-preserved c =
    lowered-more c.args.k c.loop-t.t-index c.args.terms.now c.loop-t.made c.push.new.self c.t-item.result c.in_ok-lowered.field-0 c.loop-t-test.true c.t-item.is c.loop-t.invariant
    (ok_is c.in_ok-lowered.ensures) c.in_ok-push.ensures.ok
