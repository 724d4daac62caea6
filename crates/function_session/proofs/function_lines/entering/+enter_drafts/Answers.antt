use Rattle.std.proofs.Common.{◌-◌, length, drop, arith}
use Rattle.std.proofs.lemmas.List.{length-take, length-drop}
use Rattle.drafts.proofs.draft_entering.Longer.{extends-on}
use Rattle.function_session.proofs.function_lines.EnteredPlans.{first-enters, turn-after}
use Rattle.function_session.proofs.function_lines.entering.+enter_drafts.Goals as goal

pub enter_checked-requires-clause-draft : goal.enter_checked-requires-clause-draft
enter_checked-requires-clause-draft t c =
    first-enters c.args.sig.now c.draft-item.result c.args.drafts.now c.in-len1-up.len_at_least c.draft-item.is c.requires.drafts

pub enter_drafts-requires : goal.enter_drafts-requires
enter_drafts-requires t c =
    let drafts = c.args.drafts.now in (
      omega (arith, length-take (length drafts - 1) (drop 1 drafts), length-drop 1 drafts, c.in-len1-up.len_at_least),
      (
        c.in_ok-enter_checked-in-len1-up.ensures.ready,
        turn-after c.args.sig.now c.draft-item.result drafts c.in-len1-up.len_at_least c.draft-item.is c.requires.drafts c.args.function.now
            c.args.units.now.left c.enter_checked.new.sig c.enter_checked.new.units.left c.in_ok-enter_checked-in-len1-up.ensures.answer,
      ),
    )

pub returns-in_ok-enter_checked-in-len1-up-clause-longer : goal.returns-in_ok-enter_checked-in-len1-up-clause-longer
returns-in_ok-enter_checked-in-len1-up-clause-longer t c =
    extends-on c.args.sig.now c.enter_checked.new.sig c.enter_drafts.new.sig c.in_ok-enter_checked-in-len1-up.ensures.longer c.enter_drafts.ensures.longer
