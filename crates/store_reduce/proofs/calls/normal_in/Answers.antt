use Rattle.std.proofs.Common.{◌≤◌}
use Rattle.std.proofs.lemmas.Result.{IfOk-weaker}
use Rattle.theory.specs.Conversion.{Converts}
use Rattle.theory.specs.SignatureScopes.{IsScoped}
use Rattle.theory.specs.Terms.{height}
use Rattle.kernel_reduce.proofs.ReductionLaws.{normal-converts}
use Rattle.kernel_reduce.proofs.ScopedReduction.{normal-scoped}
use Rattle.store_reduce.proofs.StoreRuns.{runs_in-has}
use Rattle.store_reduce.proofs.calls.normal_in.Goals as goal

pub returns-clause-converts : goal.returns-clause-converts
returns-clause-converts g c =
    let old = g.S.TermStore.held c.args.store.now in
    runs_in-has (g.S.TermStore.held c.normalise_in.new.store).tree (Converts c.args.sig.now (old.tree c.args.t)) _ _ _ c.normalise_in.ensures.answer
    (IfOk-weaker _ (λ u. Converts c.args.sig.now (old.tree c.args.t) u × (height u ≤ 2000)) (λ u. Converts c.args.sig.now (old.tree c.args.t) u) (λ u h. h.0)
    (normal-converts c.args.sig.now c.args.delta 2000 (old.tree c.args.t) c.args.units.now.left))

pub returns-clause-scoped : goal.returns-clause-scoped
returns-clause-scoped g c = λ n h.
    let old = g.S.TermStore.held c.args.store.now in
    runs_in-has (g.S.TermStore.held c.normalise_in.new.store).tree (IsScoped c.args.sig.now n) _ _ _ c.normalise_in.ensures.answer
    (normal-scoped c.args.sig.now c.args.delta 2000 n (old.tree c.args.t) c.args.units.now.left c.requires.asked.signature h)
