use Rattle.store_reduce.proofs.SpineLaws.{applied-last}
use Rattle.store_reduce.proofs.spines.last_in.Goals as goal

pub returns-clause-last : goal.returns-clause-last
returns-clause-last g c =
    λ h. applied-last (g.S.TermStore.held c.args.store.now) c.args.args.now c.args.count _ h c.requires.some c.requires.count c.index-args-count.is
