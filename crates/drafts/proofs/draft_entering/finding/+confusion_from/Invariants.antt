use Rattle.drafts.proofs.draft_entering.finding.+confusion_from.Given as goal

abbrev pub decreases-confusion_from : goal.decreases-confusion_from
decreases-confusion_from l = l.count
