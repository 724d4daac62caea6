use Rattle.theory.specs.SignatureScopes.{IsScoped}
use Rattle.kernel_reduce.specs.Laws.{IsHeadForm}
use Rattle.kernel_reduce.proofs.ReductionLaws.{whnf-is_head_form}
use Rattle.kernel_reduce.proofs.ScopedReduction.{whnf-scoped}
use Rattle.store_reduce.proofs.StoreRuns.{runs_in-has}
use Rattle.store_reduce.proofs.calls.whnf_in.Goals as goal

pub returns-clause-form : goal.returns-clause-form
returns-clause-form g c =
    let old = g.S.TermStore.held c.args.store.now in
    runs_in-has (g.S.TermStore.held c.head_form_in.new.store).tree (IsHeadForm c.args.sig.now c.args.delta (old.tree c.args.t)) _ _ _ c.head_form_in.ensures.answer
    (whnf-is_head_form c.args.sig.now c.args.delta c.args.units.now.left (old.tree c.args.t))

pub returns-clause-scoped : goal.returns-clause-scoped
returns-clause-scoped g c = λ n h.
    let old = g.S.TermStore.held c.args.store.now in
    runs_in-has (g.S.TermStore.held c.head_form_in.new.store).tree (IsScoped c.args.sig.now n) _ _ _ c.head_form_in.ensures.answer
    (whnf-scoped c.args.sig.now c.args.delta c.args.units.now.left n (old.tree c.args.t) c.requires.asked.signature h)
