use Rattle.std.proofs.Common.{length}
use Rattle.tree_translation.proofs.structural_rec.positions.+have_variable.Given as goal

abbrev pub decreases-have_variable : goal.decreases-have_variable
decreases-have_variable l = length l.terms.now
