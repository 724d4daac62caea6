use Rattle.std.proofs.Common.{rules}
use Rattle.family_check.proofs.NameTests.{names-start}
use Rattle.family_check.proofs.names.are_new.Goals as goal

pub loop-con-init : goal.loop-con-init
loop-con-init c =
    names-start c.args.sig.now c.args.raw.now.name _ c.new-before.result _ c.in_ok-is_new.field-0 c.new-before.ensures (cc (c.in_ok-is_new.ensures.new)) c.if-not-branch.false (search rules)
