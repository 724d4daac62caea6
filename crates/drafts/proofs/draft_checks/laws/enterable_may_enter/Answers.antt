use Rattle.drafts.proofs.draft_checks.EnterableDrafts.{may-enter}
use Rattle.drafts.proofs.draft_checks.laws.enterable_may_enter.Goals as goal

pub returns : goal.returns
returns c = may-enter
