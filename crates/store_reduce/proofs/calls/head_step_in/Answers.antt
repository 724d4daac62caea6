use Rattle.theory.specs.Conversion.{Step}
use Rattle.theory.specs.SignatureScopes.{IsScoped}
use Rattle.kernel_reduce.proofs.ReductionLaws.{head_step-is_step}
use Rattle.kernel_reduce.proofs.ScopedReduction.{head_step-scoped}
use Rattle.store_reduce.proofs.StoreRuns.{runs_in-some}
use Rattle.store_reduce.proofs.calls.head_step_in.Goals as goal

pub returns-clause-step : goal.returns-clause-step
returns-clause-step g c =
    let old = g.S.TermStore.held c.args.store.now in
    runs_in-some (g.S.TermStore.held c.next_step_in.new.store).tree (Step c.args.sig.now (old.tree c.args.t)) _ _ _ c.next_step_in.ensures.answer
    (head_step-is_step c.args.sig.now c.args.delta (old.tree c.args.t) c.args.units.now.left)

pub returns-clause-scoped : goal.returns-clause-scoped
returns-clause-scoped g c = λ n h.
    let old = g.S.TermStore.held c.args.store.now in
    runs_in-some (g.S.TermStore.held c.next_step_in.new.store).tree (IsScoped c.args.sig.now n) _ _ _ c.next_step_in.ensures.answer
    (head_step-scoped c.args.sig.now c.args.delta n (old.tree c.args.t) c.args.units.now.left c.requires.asked.signature h)
