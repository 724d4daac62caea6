use Rattle.theory.specs.Terms.{height}
use Rattle.store_reduce.proofs.spines.+spine_len_in.Given as goal

abbrev pub decreases-spine_len_in : goal.decreases-spine_len_in
decreases-spine_len_in g l = height ((g.S.TermStore.held l.store.now).tree l.t)
