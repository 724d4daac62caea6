use Rattle.mutual_pack.proofs.telescopes.+with_motives.Given as goal

abbrev pub decreases-with_motives : goal.decreases-with_motives
decreases-with_motives l = l.count
