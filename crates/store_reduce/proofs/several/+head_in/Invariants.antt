use Rattle.theory.specs.Terms.{height}
use Rattle.store_reduce.proofs.several.+head_in.Given as goal

abbrev pub decreases-head_in : goal.decreases-head_in
decreases-head_in g l = height ((g.S.TermStore.held l.store.now).tree l.t)
