use Rattle.pair_entries.proofs.pair_plan.+with_domains.Given as goal

abbrev pub decreases-with_domains : goal.decreases-with_domains
decreases-with_domains l = l.count
