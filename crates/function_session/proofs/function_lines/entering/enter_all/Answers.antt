use Rattle.drafts.proofs.draft_entering.Longer.{extends-on}
use Rattle.function_session.proofs.function_lines.entering.enter_all.Goals as goal

pub returns-clause-longer : goal.returns-clause-longer
returns-clause-longer c =
    extends-on c.args.sig.now c.enter_drafts.new.sig c.enter_values.new.sig c.in_ok-enter_drafts.ensures.longer c.enter_values.ensures.longer
