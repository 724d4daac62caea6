use Rattle.std.proofs.Common.{length, drop, ◌-◌, arith}
use Rattle.std.proofs.lemmas.List.{length-drop, length-take}
use Rattle.std.proofs.lemmas.Result.{err_from_is_err_and}
use Rattle.function_session.proofs.mutual_families.SliceAnswers.{draft-first, drafts-others, drafts-stop}
use Rattle.function_session.proofs.mutual_families.inductions.+enter_drafts.Goals as goal

pub enter_draft-requires-clause-draft : goal.enter_draft-requires-clause-draft
enter_draft-requires-clause-draft t c =
    draft-first c.args.sig.now c.args.drafts.now c.draft-item.result c.in-len1-up.len_at_least c.draft-item.is c.requires.drafts

pub enter_drafts-requires : goal.enter_drafts-requires
enter_drafts-requires t c =
    let drafts = c.args.drafts.now in
    let rest = length-take (length drafts - 1) (drop 1 drafts) in
    let less = length-drop 1 drafts in (
      omega arith,
      (
        c.in_ok-enter_draft-in-len1-up.ensures.ready,
        drafts-others c.args.sig.now c.enter_draft.new.sig drafts c.draft-item.result c.in-len1-up.len_at_least c.draft-item.is c.in_ok-enter_draft-in-len1-up.ensures.longer c.requires.drafts,
      ),
    )

pub returns-in_err-enter_draft-in-len1-up-clause-answer : goal.returns-in_err-enter_draft-in-len1-up-clause-answer
returns-in_err-enter_draft-in-len1-up-clause-answer t c =
    let q = err_from_is_err_and c.from_residual.result c.from_residual.ensures.1 in
    rw (q.1, q.2)
    (λ other.
    drafts-stop c.args.sig.now c.args.fuel c.args.name.now c.args.units.now.left c.enter_draft.new.units.left c.args.drafts.now c.draft-item.result _ c.in-len1-up.len_at_least c.draft-item.is
    (c.in_err-enter_draft-in-len1-up.ensures.answer other))
