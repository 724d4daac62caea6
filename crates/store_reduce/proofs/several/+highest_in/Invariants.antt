use Rattle.theory.specs.Terms.{height}
use Rattle.store_reduce.proofs.several.+highest_in.Given as goal

abbrev pub decreases-highest_in : goal.decreases-highest_in
decreases-highest_in g l = height ((g.S.TermStore.held l.store.now).tree l.t)
