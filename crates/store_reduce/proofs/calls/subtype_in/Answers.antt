use Rattle.std.proofs.Common.{IsTrue}
use Rattle.theory.specs.Conversion.{Below}
use Rattle.kernel_reduce.proofs.ComparisonLaws.{subtype-is_below}
use Rattle.store_reduce.proofs.StoreRuns.{runs_in-has}
use Rattle.store_reduce.proofs.calls.subtype_in.Goals as goal

pub returns-clause-sound : goal.returns-clause-sound
returns-clause-sound g c =
    let old = g.S.TermStore.held c.args.store.now in
    runs_in-has (λ holds. holds) (λ holds. IsTrue holds → Below c.args.sig.now (old.tree c.args.a) (old.tree c.args.b)) _ _ _ c.order_in.ensures.answer
    (subtype-is_below c.args.sig.now 2000 (old.tree c.args.a) (old.tree c.args.b) c.args.units.now.left)
