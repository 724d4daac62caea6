use Rattle.core_text.proofs.instances.+some_level_left.Given as goal

abbrev pub decreases-some_level_left : goal.decreases-some_level_left
decreases-some_level_left l = l.count
