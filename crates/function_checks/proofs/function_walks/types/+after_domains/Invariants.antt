use Rattle.function_checks.proofs.function_walks.types.+after_domains.Given as goal

abbrev pub decreases-after_domains : goal.decreases-after_domains
decreases-after_domains l = l.count
