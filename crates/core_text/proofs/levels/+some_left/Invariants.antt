use Rattle.core_text.proofs.levels.+some_left.Given as goal

abbrev pub decreases-some_left : goal.decreases-some_left
decreases-some_left l = l.count
