use Rattle.tele_eq.proofs.goals.+applied_to_proofs.Given as goal

abbrev pub decreases-applied_to_proofs : goal.decreases-applied_to_proofs
decreases-applied_to_proofs l = l.count
