use Rattle.leaf_terms.proofs.entry_names.+with_digits.Given as goal

abbrev pub decreases-with_digits : goal.decreases-with_digits
decreases-with_digits l = l.more
