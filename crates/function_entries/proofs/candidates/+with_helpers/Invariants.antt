use Rattle.function_entries.proofs.candidates.+with_helpers.Given as goal

abbrev pub decreases-with_helpers : goal.decreases-with_helpers
decreases-with_helpers l = l.count
