use Rattle.std.proofs.Common.{Ok, sym, ap, ◌∙◌, arith}
use Rattle.kernel_reduce.specs.Reduction.{answered}
use Rattle.kernel_check.specs.Scopes.{scope_in}
use Rattle.kernel_check.specs.Verdicts.{verdict_in}
use Rattle.kernel_check.proofs.HighTerms.{check-high_wanted}
use Rattle.kernel_check.proofs.written_checks.check_high.Goals as goal

pub returns-in-Yes-clause-answer : goal.returns-in-Yes-clause-answer
returns-in-Yes-clause-answer g c = λ wanted high memory room.
    let old = g.S.TermStore.held c.args.store.now in
    let new = g.S.TermStore.held c.infer_at.new.store in
    check-high_wanted c.args.sig.now 1999 2000 (scope_in old.tree c.args.scope.now) (old.tree c.args.t) wanted (new.tree c.in-Yes.field-0) c.args.units.now.left c.infer_at.new.units.left (omega arith) high
    (ap (λ v. answered (Ok (verdict_in new.tree v)) c.infer_at.new.units.left) (sym c.in-Yes.is) ∙ c.in_ok-infer_at.ensures.answer)
