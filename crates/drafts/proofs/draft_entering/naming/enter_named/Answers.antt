use Rattle.std.proofs.Common.{sym, ap, ◌∙◌}
use Rattle.std.specs.Option.{is_some}
use Rattle.std.proofs.lemmas.Result.{err_from_is_err_and}
use Rattle.core_terms.proofs.Builders.{ok_is}
use Rattle.drafts.specs.declared.draft_entering.stop.ReportStop.TheVariants.{Stop}
use Rattle.drafts.proofs.draft_entering.Longer.{open-longer}
use Rattle.drafts.proofs.draft_entering.NamedDrafts.{err-ok}
use Rattle.drafts.proofs.draft_entering.NamedEntering.{nothing-met, something-there}
use Rattle.drafts.proofs.draft_entering.naming.enter_named.Goals as goal

pub returns-in_err-generated_by-clause-answer : goal.returns-in_err-generated_by-clause-answer
returns-in_err-generated_by-clause-answer c =
    let q = err_from_is_err_and c.from_residual.result c.from_residual.ensures.1 in
    rw (q.1, q.2) (λ other. absurd (err-ok (c.in_err-generated_by.ensures (λ h. other (ap Stop h)))))

pub enter_generated-requires-clause-name : goal.enter_generated-requires-clause-name
enter_generated-requires-clause-name c =
    something-there c.args.sig.now c.args.name.now c.in-Some.field-0
    (sym (ok_is (rw c.as_slice-2.ensures at c.in_ok-generated_by.ensures)) ∙ c.in-Some.is)

pub returns-in-None-clause-answer : goal.returns-in-None-clause-answer
returns-in-None-clause-answer c =
    let f = rw c.as_slice.ensures at c.find.ensures in
    nothing-met c.args.sig.now c.args.name.now c.args.units.now.left (ap is_some (sym f) ∙ sym c.is_some.ensures ∙ c.if-is_some.false)
    (sym (ok_is (rw c.as_slice-2.ensures at c.in_ok-generated_by.ensures)) ∙ c.in-None.is)

pub returns-in-Some-clause-ready : goal.returns-in-Some-clause-ready
returns-in-Some-clause-ready c =
    open-longer c.args.sig.now c.enter_generated.new.sig c.enter_generated.ensures.longer c.enter_generated.ensures.settled c.requires
