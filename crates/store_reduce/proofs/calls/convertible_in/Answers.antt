use Rattle.std.proofs.Common.{IsTrue}
use Rattle.theory.specs.Conversion.{Converts}
use Rattle.kernel_reduce.proofs.ComparisonLaws.{convertible-converts}
use Rattle.store_reduce.proofs.StoreRuns.{runs_in-has}
use Rattle.store_reduce.proofs.calls.convertible_in.Goals as goal

pub returns-clause-sound : goal.returns-clause-sound
returns-clause-sound g c =
    let old = g.S.TermStore.held c.args.store.now in
    runs_in-has (λ holds. holds) (λ holds. IsTrue holds → Converts c.args.sig.now (old.tree c.args.a) (old.tree c.args.b)) _ _ _ c.compare_in.ensures.answer
    (convertible-converts c.args.sig.now 2000 (old.tree c.args.a) (old.tree c.args.b) c.args.units.now.left)
