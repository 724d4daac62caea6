use Rattle.std.proofs.Common.{◌∙◌, sym}
use Rattle.core_terms.proofs.Builders.{ok_is}
use Rattle.std.proofs.lemmas.Result.{err_from_is_err_and}
use Rattle.drafts.proofs.draft_entering.NamedDrafts.{meant-there, meant-given, meant-made, meant-own, err-ok}
use Rattle.drafts.proofs.draft_entering.entering.draft_named.Goals as goal

pub generated_draft-requires : goal.generated_draft-requires
generated_draft-requires c =
    meant-there c.args.sig.now c.args.name.now c.requires.name c.in-Some.g (sym (ok_is (rw c.as_slice.ensures at c.in_ok-g.ensures)) ∙ c.in-Some.is)

pub returns-clause-answer : goal.returns-clause-answer
returns-clause-answer c =
    meant-given c.args.sig.now c.args.name.now c.requires.name c.in-Some.g (sym (ok_is (rw c.as_slice.ensures at c.in_ok-g.ensures)) ∙ c.in-Some.is)
    c.generated_draft.result c.generated_draft.ensures.answer

pub returns-clause-draft : goal.returns-clause-draft
returns-clause-draft c =
    meant-made c.args.sig.now c.args.name.now c.requires.name c.in-Some.g (sym (ok_is (rw c.as_slice.ensures at c.in_ok-g.ensures)) ∙ c.in-Some.is)
    c.generated_draft.result c.generated_draft.ensures.answer (c.generated_draft.ensures.scoped c.requires.signature.settled.scoped c.requires.signature.prelude)

pub returns-clause-named : goal.returns-clause-named
returns-clause-named c =
    meant-own c.args.sig.now c.args.name.now c.requires.name c.in-Some.g (sym (ok_is (rw c.as_slice.ensures at c.in_ok-g.ensures)) ∙ c.in-Some.is)
    c.generated_draft.result c.generated_draft.ensures.answer

pub returns-in_err-g-clause-answer : goal.returns-in_err-g-clause-answer
returns-in_err-g-clause-answer c = λ g there.
    let q = err_from_is_err_and c.from_residual.result c.from_residual.ensures.1 in
    rw (q.1, q.2) (λ other. absurd (err-ok (c.in_err-g.ensures other)))
