use Rattle.theory.specs.Terms.{height}
use Rattle.store_reduce.proofs.spines.+arguments_in.Given as goal

abbrev pub decreases-arguments_in : goal.decreases-arguments_in
decreases-arguments_in g l = height ((g.S.TermStore.held l.store.now).tree l.t)
