use Rattle.function_entries.proofs.telescopes.+with_ordered.Given as goal

abbrev pub decreases-with_ordered : goal.decreases-with_ordered
decreases-with_ordered l = l.count
