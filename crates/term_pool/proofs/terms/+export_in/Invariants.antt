use Rattle.theory.specs.Terms.{height}
use Rattle.term_pool.proofs.terms.+export_in.Given as goal

abbrev pub decreases-export_in : goal.decreases-export_in
decreases-export_in g l = height ((g.S.TermStore.held l.store.now).tree l.id)
