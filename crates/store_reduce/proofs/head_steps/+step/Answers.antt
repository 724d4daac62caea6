use Rattle.std.proofs.Common.{◌≡◌, Some, Ok, Err, sym, ap, ap₂, ◌∙◌, subst as transport, arith}
use Rattle.std.proofs.lemmas.Result.{err_from_is_err_and}
use Rattle.theory.specs.Terms.{App, height}
use Rattle.theory.specs.SignatureScopes.{IsScoped}
use Rattle.kernel_reduce.specs.Steps.{step_of}
use Rattle.kernel_reduce.specs.Reduction.{answered, step_taken}
use Rattle.term_pool.specs.Held.{AddsParts, Lacks}
use Rattle.store_reduce.specs.Additions.{AddsOnly, LacksOne}
use Rattle.store_reduce.specs.Formed.{IsStepPart}
use Rattle.store_reduce.proofs.Adding.{adds-then}
use Rattle.store_reduce.proofs.OneStep.{function-adds, scrutinee-adds}
use Rattle.core_sig.proofs.StandingEntries.{stands-stay}
use Rattle.store_reduce.proofs.StepPlaces.{function-refusal, function-step-adds, function-step-lacks, scrutinee-step, scrutinee-deep, scrutinee-refusal, scrutinee-step-adds, scrutinee-step-lacks, steps-as}
use Rattle.store_reduce.proofs.TakenSteps.{of-none}
use Rattle.store_reduce.proofs.head_steps.+step.Goals as goal

pub application_step_in-returns-in-Stays-clause-answer : goal.application_step_in-returns-in-Stays-clause-answer
application_step_in-returns-in-Stays-clause-answer g t c =
    let old = g.S.TermStore.held c.args.store.now in
    let mid = g.S.TermStore.held c.step_in.new.store in
    let new = g.S.TermStore.held c.step_at_in.new.store in
    let S = c.args.sig.now in
    let e = c.in_ok-inner.ensures.extends in
    let n = of-none (step_of S c.args.delta (old.tree c.args.f)) c.args.units.now.left c.step_in.new.units.left (rw c.in-Stays.is at c.in_ok-inner.ensures.answer) in
    steps-as c.step_at_in.result S c.args.delta new.tree c.step_at_in.new.units.left (old.tree c.args.t) (mid.tree c.args.t) c.args.units.now.left c.step_in.new.units.left
    (e.trees c.args.t c.requires.live) n.same c.step_at_in.ensures.answer

pub application_step_in-returns-in-Stays-clause-adds : goal.application_step_in-returns-in-Stays-clause-adds
application_step_in-returns-in-Stays-clause-adds g t c =
    let old = g.S.TermStore.held c.args.store.now in
    let mid = g.S.TermStore.held c.step_in.new.store in
    let new = g.S.TermStore.held c.step_at_in.new.store in
    let S = c.args.sig.now in
    let e = c.in_ok-inner.ensures.extends in
    adds-then (IsStepPart S c.args.delta (old.tree c.args.t)) old mid new
    (transport (λ x. AddsOnly (IsStepPart S c.args.delta x) old mid) (sym c.requires.whole) (function-adds S c.args.delta (old.tree c.args.f) (old.tree c.args.u) old mid c.in_ok-inner.ensures.adds))
    c.step_at_in.ensures.extends
    (transport (λ x. AddsOnly (IsStepPart S c.args.delta x) mid new) (e.trees c.args.t c.requires.live) c.step_at_in.ensures.adds)

pub scrutinee_step_in-returns-in-Stays-clause-answer : goal.scrutinee_step_in-returns-in-Stays-clause-answer
scrutinee_step_in-returns-in-Stays-clause-answer g t c =
    let old = g.S.TermStore.held c.args.store.now in
    let mid = g.S.TermStore.held c.step_in.new.store in
    let new = g.S.TermStore.held c.meet_step_in.new.store in
    let S = c.args.sig.now in
    let e = c.in_ok-inner.ensures.extends in
    let n = of-none (step_of S c.args.delta (old.tree c.args.u)) c.args.units.now.left c.step_in.new.units.left (rw c.in-Stays.is at c.in_ok-inner.ensures.answer) in
    steps-as c.meet_step_in.result S c.args.delta new.tree c.meet_step_in.new.units.left (old.tree c.args.t) (mid.tree c.args.t) c.args.units.now.left c.step_in.new.units.left
    (e.trees c.args.t c.requires.live) n.same c.meet_step_in.ensures.answer

pub scrutinee_step_in-returns-in-Stays-clause-adds : goal.scrutinee_step_in-returns-in-Stays-clause-adds
scrutinee_step_in-returns-in-Stays-clause-adds g t c =
    let old = g.S.TermStore.held c.args.store.now in
    let mid = g.S.TermStore.held c.step_in.new.store in
    let new = g.S.TermStore.held c.meet_step_in.new.store in
    let S = c.args.sig.now in
    let e = c.in_ok-inner.ensures.extends in
    adds-then (IsStepPart S c.args.delta (old.tree c.args.t)) old mid new
    (transport (λ x. AddsOnly (IsStepPart S c.args.delta x) old mid) (sym c.requires.whole) (scrutinee-adds S c.args.delta (old.tree c.args.f.id) (old.tree c.args.u) c.requires.rests c.requires.plain c.requires.awaits old mid c.in_ok-inner.ensures.adds))
    c.meet_step_in.ensures.extends
    (transport (λ x. AddsOnly (IsStepPart S c.args.delta x) mid new) (e.trees c.args.t c.requires.live) c.meet_step_in.ensures.adds)

pub application_step_in-returns-in_err-inner-clause-answer : goal.application_step_in-returns-in_err-inner-clause-answer
application_step_in-returns-in_err-inner-clause-answer g t c =
    let old = g.S.TermStore.held c.args.store.now in
    let low = rw c.requires.whole at c.requires.low in
    let q = err_from_is_err_and c.from_residual.result c.from_residual.ensures.1 in
    rw (q.1, q.2)
    (λ memory full.
    rw c.requires.whole
    (function-refusal c.args.sig.now c.args.delta (old.tree c.args.f) (old.tree c.args.u) low c.args.units.now.left c.step_in.new.units.left _
    (c.in_err-inner.ensures.answer memory full)))

pub scrutinee_step_in-returns-in_err-inner-clause-answer : goal.scrutinee_step_in-returns-in_err-inner-clause-answer
scrutinee_step_in-returns-in_err-inner-clause-answer g t c =
    let old = g.S.TermStore.held c.args.store.now in
    let low = rw c.requires.whole at c.requires.low in
    let q = err_from_is_err_and c.from_residual.result c.from_residual.ensures.1 in
    rw (q.1, q.2)
    (λ memory full.
    rw c.requires.whole
    (scrutinee-refusal c.args.sig.now c.args.delta (old.tree c.args.f.id) (old.tree c.args.u) low c.requires.rests c.requires.plain c.requires.awaits c.args.units.now.left
    c.step_in.new.units.left _ (c.in_err-inner.ensures.answer memory full)))

pub application_step_in-step_at_in-requires : goal.application_step_in-step_at_in-requires
application_step_in-step_at_in-requires g t c κs within =
    let old = g.S.TermStore.held c.args.store.now in
    let mid = g.S.TermStore.held c.step_in.new.store in
    let S = c.args.sig.now in
    let e = c.in_ok-inner.ensures.extends in
    let n = of-none (step_of S c.args.delta (old.tree c.args.f)) c.args.units.now.left c.step_in.new.units.left (rw c.in-Stays.is at c.in_ok-inner.ensures.answer) in
    let same = ap mid.tree (rw c.in-Stays.is at c.in_ok-inner.ensures.stays) ∙ e.trees c.args.f c.requires.f_live in
    let tall = ap height (e.trees c.args.t c.requires.live) in (
      omega (arith, tall, c.decreases),
      (
        within.0,
        (
          within.1,
          (
            e.lives c.args.t c.requires.live,
            (
              c.requires.signature,
              (
                stands-stay old mid e S.entries c.args.ids.now c.requires.ids,
                (
                  rw c.in-Stays.is at c.in_ok-inner.ensures.form,
                  (
                    e.lives c.args.u c.requires.u_live,
                    (
                      ap (step_of S c.args.delta) same ∙ n.none,
                      (
                        e.trees c.args.t c.requires.live ∙ (c.requires.whole ∙ ap₂ App (sym same) (sym (e.trees c.args.u c.requires.u_live))),
                        (transport (IsScoped S 3221225472) (sym (e.trees c.args.t c.requires.live)) c.requires.scoped, omega (arith, tall, c.requires.low)),
                      ),
                    ),
                  ),
                ),
              ),
            ),
          ),
        ),
      ),
    )

pub scrutinee_step_in-meet_step_in-requires-clause-ids : goal.scrutinee_step_in-meet_step_in-requires-clause-ids
scrutinee_step_in-meet_step_in-requires-clause-ids g t c =
    let old = g.S.TermStore.held c.args.store.now in
    let mid = g.S.TermStore.held c.step_in.new.store in
    let S = c.args.sig.now in
    let e = c.in_ok-inner.ensures.extends in
    stands-stay old mid e S.entries c.args.ids.now c.requires.ids

pub scrutinee_step_in-meet_step_in-requires-clause-u_rests : goal.scrutinee_step_in-meet_step_in-requires-clause-u_rests
scrutinee_step_in-meet_step_in-requires-clause-u_rests g t c =
    let old = g.S.TermStore.held c.args.store.now in
    let mid = g.S.TermStore.held c.step_in.new.store in
    let S = c.args.sig.now in
    let e = c.in_ok-inner.ensures.extends in
    let n = of-none (step_of S c.args.delta (old.tree c.args.u)) c.args.units.now.left c.step_in.new.units.left (rw c.in-Stays.is at c.in_ok-inner.ensures.answer) in
    let same = ap mid.tree (rw c.in-Stays.is at c.in_ok-inner.ensures.stays) ∙ e.trees c.args.u c.requires.u_live in
    ap (step_of S c.args.delta) same ∙ n.none

pub scrutinee_step_in-meet_step_in-requires-clause-whole : goal.scrutinee_step_in-meet_step_in-requires-clause-whole
scrutinee_step_in-meet_step_in-requires-clause-whole g t c =
    let old = g.S.TermStore.held c.args.store.now in
    let mid = g.S.TermStore.held c.step_in.new.store in
    let S = c.args.sig.now in
    let e = c.in_ok-inner.ensures.extends in
    let same = ap mid.tree (rw c.in-Stays.is at c.in_ok-inner.ensures.stays) ∙ e.trees c.args.u c.requires.u_live in
    e.trees c.args.t c.requires.live ∙ (c.requires.whole ∙ ap₂ App (sym (e.trees c.args.f.id c.requires.f.live)) (sym same))

pub scrutinee_step_in-meet_step_in-requires-clause-scoped : goal.scrutinee_step_in-meet_step_in-requires-clause-scoped
scrutinee_step_in-meet_step_in-requires-clause-scoped g t c =
    let old = g.S.TermStore.held c.args.store.now in
    let mid = g.S.TermStore.held c.step_in.new.store in
    let S = c.args.sig.now in
    let e = c.in_ok-inner.ensures.extends in
    transport (IsScoped S 3221225472) (sym (e.trees c.args.t c.requires.live)) c.requires.scoped

pub application_step_in-returns-in_err-make-in-Steps-clause-full : goal.application_step_in-returns-in_err-make-in-Steps-clause-full
application_step_in-returns-in_err-make-in-Steps-clause-full g t c =
    let old = g.S.TermStore.held c.args.store.now in
    let mid = g.S.TermStore.held c.step_in.new.store in
    let new = g.S.TermStore.held c.make.new.self in
    let S = c.args.sig.now in
    let low = rw c.requires.whole at c.requires.low in
    let step = rw c.in-Steps.is at c.in_ok-inner.ensures.answer in
    let same = c.in_ok-inner.ensures.extends.trees c.args.u c.requires.u_live in
    let q = err_from_is_err_and c.from_residual-in_err-make-in-Steps.result c.from_residual-in_err-make-in-Steps.ensures.1 in
    rw (q.1, q.2)
    (λ is.
    transport (λ x. LacksOne (IsStepPart S c.args.delta x) new) (sym c.requires.whole)
    (function-step-lacks S c.args.delta (old.tree c.args.f) (old.tree c.args.u) low new c.args.units.now.left c.step_in.new.units.left (mid.tree c.in-Steps.g) step
    (transport (λ x. Lacks new (App (mid.tree c.in-Steps.g) x)) same (c.in_err-make-in-Steps.ensures.full is))))

pub application_step_in-returns-in_ok-make-in-Steps-clause-adds : goal.application_step_in-returns-in_ok-make-in-Steps-clause-adds
application_step_in-returns-in_ok-make-in-Steps-clause-adds g t c =
    let old = g.S.TermStore.held c.args.store.now in
    let mid = g.S.TermStore.held c.step_in.new.store in
    let new = g.S.TermStore.held c.make.new.self in
    let S = c.args.sig.now in
    let low = rw c.requires.whole at c.requires.low in
    let step = rw c.in-Steps.is at c.in_ok-inner.ensures.answer in
    let same = c.in_ok-inner.ensures.extends.trees c.args.u c.requires.u_live in
    transport (λ x. AddsOnly (IsStepPart S c.args.delta x) old new) (sym c.requires.whole)
    (function-step-adds S c.args.delta (old.tree c.args.f) (old.tree c.args.u) low old mid new c.args.units.now.left c.step_in.new.units.left (mid.tree c.in-Steps.g) step c.in_ok-inner.ensures.adds
    c.in_ok-make-in-Steps.ensures.extends (transport (λ x. AddsParts mid new (App (mid.tree c.in-Steps.g) x)) same c.in_ok-make-in-Steps.ensures.adds))

pub scrutinee_step_in-returns-in_err-make-in-Steps-clause-answer : goal.scrutinee_step_in-returns-in_err-make-in-Steps-clause-answer
scrutinee_step_in-returns-in_err-make-in-Steps-clause-answer g t c =
    let old = g.S.TermStore.held c.args.store.now in
    let mid = g.S.TermStore.held c.step_in.new.store in
    let new = g.S.TermStore.held c.make.new.self in
    let S = c.args.sig.now in
    let low = rw c.requires.whole at c.requires.low in
    let step = rw c.in-Steps.is at c.in_ok-inner.ensures.answer in
    let same = c.in_ok-inner.ensures.extends.trees c.args.f.id c.requires.f.live in
    let q = err_from_is_err_and c.from_residual-in_err-make-in-Steps.result c.from_residual-in_err-make-in-Steps.ensures.1 in
    rw (q.1, q.2)
    (λ memory full.
    let deep = c.in_err-make-in-Steps.ensures.makes memory full in
    let tall = ap height same in
    transport (λ x. answered (Err x) c.step_in.new.units.left ≡ step_taken (step_of S c.args.delta (old.tree c.args.t)) c.args.units.now.left) (sym deep.0)
    (rw c.requires.whole
    (scrutinee-deep S c.args.delta (old.tree c.args.f.id) (old.tree c.args.u) low c.requires.rests c.requires.plain c.requires.awaits c.args.units.now.left c.step_in.new.units.left
    (mid.tree c.in-Steps.v) step (omega (arith, tall, deep.1)))))

pub scrutinee_step_in-returns-in_err-make-in-Steps-clause-full : goal.scrutinee_step_in-returns-in_err-make-in-Steps-clause-full
scrutinee_step_in-returns-in_err-make-in-Steps-clause-full g t c =
    let old = g.S.TermStore.held c.args.store.now in
    let mid = g.S.TermStore.held c.step_in.new.store in
    let new = g.S.TermStore.held c.make.new.self in
    let S = c.args.sig.now in
    let low = rw c.requires.whole at c.requires.low in
    let step = rw c.in-Steps.is at c.in_ok-inner.ensures.answer in
    let same = c.in_ok-inner.ensures.extends.trees c.args.f.id c.requires.f.live in
    let q = err_from_is_err_and c.from_residual-in_err-make-in-Steps.result c.from_residual-in_err-make-in-Steps.ensures.1 in
    rw (q.1, q.2)
    (λ is.
    transport (λ x. LacksOne (IsStepPart S c.args.delta x) new) (sym c.requires.whole)
    (scrutinee-step-lacks S c.args.delta (old.tree c.args.f.id) (old.tree c.args.u) low c.requires.rests c.requires.plain c.requires.awaits new
    c.args.units.now.left c.step_in.new.units.left (mid.tree c.in-Steps.v) step
    (transport (λ x. Lacks new (App x (mid.tree c.in-Steps.v))) same (c.in_err-make-in-Steps.ensures.full is))))

pub scrutinee_step_in-returns-in_ok-make-in-Steps-clause-answer : goal.scrutinee_step_in-returns-in_ok-make-in-Steps-clause-answer
scrutinee_step_in-returns-in_ok-make-in-Steps-clause-answer g t c =
    let old = g.S.TermStore.held c.args.store.now in
    let mid = g.S.TermStore.held c.step_in.new.store in
    let new = g.S.TermStore.held c.make.new.self in
    let S = c.args.sig.now in
    let low = rw c.requires.whole at c.requires.low in
    let step = rw c.in-Steps.is at c.in_ok-inner.ensures.answer in
    let same = c.in_ok-inner.ensures.extends.trees c.args.f.id c.requires.f.live in
    let made = c.in_ok-make-in-Steps.ensures.makes in
    let tall = ap height same in
    transport (λ x. answered (Ok (Some x)) c.step_in.new.units.left ≡ step_taken (step_of S c.args.delta (old.tree c.args.t)) c.args.units.now.left)
    (sym (made.1 ∙ ap (λ x. App x (mid.tree c.in-Steps.v)) same))
    (rw c.requires.whole
    (scrutinee-step S c.args.delta (old.tree c.args.f.id) (old.tree c.args.u) low c.requires.rests c.requires.plain c.requires.awaits c.args.units.now.left c.step_in.new.units.left
    (mid.tree c.in-Steps.v) step (omega (arith, tall, made.2))))

pub scrutinee_step_in-returns-in_ok-make-in-Steps-clause-adds : goal.scrutinee_step_in-returns-in_ok-make-in-Steps-clause-adds
scrutinee_step_in-returns-in_ok-make-in-Steps-clause-adds g t c =
    let old = g.S.TermStore.held c.args.store.now in
    let mid = g.S.TermStore.held c.step_in.new.store in
    let new = g.S.TermStore.held c.make.new.self in
    let S = c.args.sig.now in
    let low = rw c.requires.whole at c.requires.low in
    let step = rw c.in-Steps.is at c.in_ok-inner.ensures.answer in
    let same = c.in_ok-inner.ensures.extends.trees c.args.f.id c.requires.f.live in
    transport (λ x. AddsOnly (IsStepPart S c.args.delta x) old new) (sym c.requires.whole)
    (scrutinee-step-adds S c.args.delta (old.tree c.args.f.id) (old.tree c.args.u) low c.requires.rests c.requires.plain c.requires.awaits old mid new
    c.args.units.now.left c.step_in.new.units.left (mid.tree c.in-Steps.v) step c.in_ok-inner.ensures.adds
    c.in_ok-make-in-Steps.ensures.extends (transport (λ x. AddsParts mid new (App x (mid.tree c.in-Steps.v))) same c.in_ok-make-in-Steps.ensures.adds))
