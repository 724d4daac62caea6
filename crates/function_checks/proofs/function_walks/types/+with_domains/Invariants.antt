use Rattle.function_checks.proofs.function_walks.types.+with_domains.Given as goal

abbrev pub decreases-with_domains : goal.decreases-with_domains
decreases-with_domains l = l.count
