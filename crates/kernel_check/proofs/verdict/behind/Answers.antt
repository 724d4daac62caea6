use Rattle.std.proofs.Common.{Ok, ap, sym, subst}
use Rattle.kernel_check.specs.Checking.{verdict_behind}
use Rattle.kernel_check.specs.Verdicts.{IsLiveVerdict, verdict_in}
use Rattle.kernel_check.proofs.Denials.{behind-no}
use Rattle.kernel_check.proofs.verdict.behind.Goals as goal

pub returns-in-Yes-clause-answer : goal.returns-in-Yes-clause-answer
returns-in-Yes-clause-answer g c = λ tree. ap (λ v. Ok (verdict_behind c.args.child (verdict_in tree v))) (sym c.in-Yes.is)

pub returns-in-Yes-clause-live : goal.returns-in-Yes-clause-live
returns-in-Yes-clause-live g c = λ held live. subst (IsLiveVerdict held) c.in-Yes.is live

pub returns-in_ok-denial_behind-in-No-clause-answer : goal.returns-in_ok-denial_behind-in-No-clause-answer
returns-in_ok-denial_behind-in-No-clause-answer g c =
    λ tree. behind-no tree c.args.child c.args.verdict c.in-No.denial c.in_ok-denial_behind-in-No.field-0 c.in-No.is c.in_ok-denial_behind-in-No.ensures
