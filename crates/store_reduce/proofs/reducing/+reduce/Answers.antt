use Rattle.std.proofs.Common.{◌≡◌, false, refl, sym, ap, ap₂, ◌∙◌, rules, arith}
use Rattle.std.proofs.lemmas.Result.{err_from_is_err_and}
use Rattle.theory.specs.Terms.{App, height}
use Rattle.store_reduce.specs.Formed.{IsPartOnTheWay}
use Rattle.store_reduce.specs.Formed.Reaches.{none}
use Rattle.store_reduce.proofs.Adding.{adds-none}
use Rattle.store_reduce.proofs.Applying.{function-turns, function-way, scrutinee-turns, scrutinee-way}
use Rattle.store_reduce.proofs.Inside.{function-stops, function-adds, scrutinee-stops, scrutinee-adds}
use Rattle.store_reduce.proofs.Tails.{goes-reached, goes-less, full-reached, adds-reached}
use Rattle.store_reduce.proofs.PlaceLaws.{after, ok-ends}
use Rattle.core_sig.proofs.StandingEntries.{stands-stay}
use Rattle.store_reduce.proofs.Ways.{reached-scoped, reached-lacks}
use Rattle.store_reduce.proofs.reducing.+reduce.Goals as goal

pub application_turn-returns-clause-answer : goal.application_turn-returns-clause-answer
application_turn-returns-clause-answer g t c =
    let old = g.S.TermStore.held c.args.store.now in
    let mid = g.S.TermStore.held c.reduce_in.new.store in
    let new = g.S.TermStore.held c.apply_in.new.store in
    function-turns c.args.sig.now c.args.delta c.args.depth (old.tree c.args.f) (old.tree c.args.u) (mid.tree c.args.u)
    (c.in_ok-form.ensures.extends.trees c.args.u c.requires.u_live) c.requires.low
    c.apply_in.result new.tree c.args.units.now.left c.reduce_in.new.units.left c.apply_in.new.units.left (mid.tree c.in_ok-form.form.id) c.in_ok-form.ensures.answer c.apply_in.ensures.answer

pub application_turn-returns-clause-reaches : goal.application_turn-returns-clause-reaches
application_turn-returns-clause-reaches g t c =
    let old = g.S.TermStore.held c.args.store.now in
    let mid = g.S.TermStore.held c.reduce_in.new.store in
    let new = g.S.TermStore.held c.apply_in.new.store in
    goes-reached c.apply_in.result c.args.sig.now c.args.delta new.tree _ _
    (function-way c.args.sig.now c.args.delta (old.tree c.args.f) (old.tree c.args.u) (mid.tree c.args.u)
    (c.in_ok-form.ensures.extends.trees c.args.u c.requires.u_live) (mid.tree c.in_ok-form.form.id) c.in_ok-form.ensures.ends.reached)
    c.apply_in.ensures.reaches

pub application_turn-returns-clause-less : goal.application_turn-returns-clause-less
application_turn-returns-clause-less g t c =
    goes-less c.apply_in.result c.args.units.now.left c.reduce_in.new.units.left c.apply_in.new.units.left c.in_ok-form.ensures.spends c.apply_in.ensures.less

pub application_turn-returns-clause-adds : goal.application_turn-returns-clause-adds
application_turn-returns-clause-adds g t c =
    let old = g.S.TermStore.held c.args.store.now in
    let mid = g.S.TermStore.held c.reduce_in.new.store in
    let new = g.S.TermStore.held c.apply_in.new.store in
    adds-reached c.args.sig.now c.args.delta old mid new _ _
    (function-adds c.args.sig.now c.args.delta (old.tree c.args.f) (old.tree c.args.u) old mid c.in_ok-form.ensures.adds)
    c.apply_in.ensures.extends
    (function-way c.args.sig.now c.args.delta (old.tree c.args.f) (old.tree c.args.u) (mid.tree c.args.u)
    (c.in_ok-form.ensures.extends.trees c.args.u c.requires.u_live) (mid.tree c.in_ok-form.form.id) c.in_ok-form.ensures.ends.reached)
    c.apply_in.ensures.adds

pub application_turn-returns-clause-full : goal.application_turn-returns-clause-full
application_turn-returns-clause-full g t c =
    let old = g.S.TermStore.held c.args.store.now in
    let mid = g.S.TermStore.held c.reduce_in.new.store in
    let new = g.S.TermStore.held c.apply_in.new.store in
    full-reached c.apply_in.result c.args.sig.now c.args.delta new _ _
    (function-way c.args.sig.now c.args.delta (old.tree c.args.f) (old.tree c.args.u) (mid.tree c.args.u)
    (c.in_ok-form.ensures.extends.trees c.args.u c.requires.u_live) (mid.tree c.in_ok-form.form.id) c.in_ok-form.ensures.ends.reached)
    c.apply_in.ensures.full

pub scrutinee_turn-returns-clause-answer : goal.scrutinee_turn-returns-clause-answer
scrutinee_turn-returns-clause-answer g t c =
    let old = g.S.TermStore.held c.args.store.now in
    let mid = g.S.TermStore.held c.reduce_in.new.store in
    let new = g.S.TermStore.held c.meet_in.new.store in
    scrutinee-turns c.args.sig.now c.args.delta c.args.depth (old.tree c.args.f.id) (mid.tree c.args.f.id) (old.tree c.args.u)
    (c.in_ok-u.ensures.extends.trees c.args.f.id c.requires.f.live) c.requires.low c.requires.rests c.requires.plain c.requires.awaits
    c.meet_in.result new.tree c.args.units.now.left c.reduce_in.new.units.left c.meet_in.new.units.left (mid.tree c.in_ok-u.u.id) c.in_ok-u.ensures.answer c.meet_in.ensures.answer

pub scrutinee_turn-returns-clause-reaches : goal.scrutinee_turn-returns-clause-reaches
scrutinee_turn-returns-clause-reaches g t c =
    let old = g.S.TermStore.held c.args.store.now in
    let mid = g.S.TermStore.held c.reduce_in.new.store in
    let new = g.S.TermStore.held c.meet_in.new.store in
    goes-reached c.meet_in.result c.args.sig.now c.args.delta new.tree _ _
    (scrutinee-way c.args.sig.now c.args.delta (old.tree c.args.f.id) (mid.tree c.args.f.id) (old.tree c.args.u)
    (c.in_ok-u.ensures.extends.trees c.args.f.id c.requires.f.live) c.requires.rests c.requires.plain c.requires.awaits (mid.tree c.in_ok-u.u.id) c.in_ok-u.ensures.ends.reached)
    c.meet_in.ensures.reaches

pub scrutinee_turn-returns-clause-less : goal.scrutinee_turn-returns-clause-less
scrutinee_turn-returns-clause-less g t c =
    goes-less c.meet_in.result c.args.units.now.left c.reduce_in.new.units.left c.meet_in.new.units.left c.in_ok-u.ensures.spends c.meet_in.ensures.less

pub scrutinee_turn-returns-clause-adds : goal.scrutinee_turn-returns-clause-adds
scrutinee_turn-returns-clause-adds g t c =
    let old = g.S.TermStore.held c.args.store.now in
    let mid = g.S.TermStore.held c.reduce_in.new.store in
    let new = g.S.TermStore.held c.meet_in.new.store in
    adds-reached c.args.sig.now c.args.delta old mid new _ _
    (scrutinee-adds c.args.sig.now c.args.delta (old.tree c.args.f.id) (old.tree c.args.u) c.requires.rests c.requires.plain c.requires.awaits
    old mid c.in_ok-u.ensures.adds)
    c.meet_in.ensures.extends
    (scrutinee-way c.args.sig.now c.args.delta (old.tree c.args.f.id) (mid.tree c.args.f.id) (old.tree c.args.u)
    (c.in_ok-u.ensures.extends.trees c.args.f.id c.requires.f.live) c.requires.rests c.requires.plain c.requires.awaits (mid.tree c.in_ok-u.u.id) c.in_ok-u.ensures.ends.reached)
    c.meet_in.ensures.adds

pub scrutinee_turn-returns-clause-full : goal.scrutinee_turn-returns-clause-full
scrutinee_turn-returns-clause-full g t c =
    let old = g.S.TermStore.held c.args.store.now in
    let mid = g.S.TermStore.held c.reduce_in.new.store in
    let new = g.S.TermStore.held c.meet_in.new.store in
    full-reached c.meet_in.result c.args.sig.now c.args.delta new _ _
    (scrutinee-way c.args.sig.now c.args.delta (old.tree c.args.f.id) (mid.tree c.args.f.id) (old.tree c.args.u)
    (c.in_ok-u.ensures.extends.trees c.args.f.id c.requires.f.live) c.requires.rests c.requires.plain c.requires.awaits (mid.tree c.in_ok-u.u.id) c.in_ok-u.ensures.ends.reached)
    c.meet_in.ensures.full

pub reduce_in-turns-preserved : goal.reduce_in-turns-preserved
reduce_in-turns-preserved g t c =
    let old = g.S.TermStore.held c.args.store.now in
    let mid = g.S.TermStore.held c.turns.store in
    let new = g.S.TermStore.held c.turn_in.new.store in
    let S = c.args.sig.now in
    let h = c.turns.invariant in
    let reaches = rw c.in-Goes.is at c.in_ok-turn.ensures.reaches in
    let less = rw c.in-Goes.is at c.in_ok-turn.ensures.less in
    let low = rw c.in-Goes.is at c.in_ok-turn.ensures.goes_low in
    record {
      live = rw c.in-Goes.is at c.in_ok-turn.ensures.goes;
      ids = stands-stay mid new c.in_ok-turn.ensures.extends S.entries c.args.ids.now h.ids;
      scoped = reached-scoped S c.args.delta 3221225472 (mid.tree c.turns.t) (new.tree c.in-Goes.next) c.requires.signature h.scoped reaches;
      meant = (rw c.in-Goes.is at c.in_ok-turn.ensures.answer) ∙ h.meant;
      reached = after S c.args.delta (old.tree c.args.t) (mid.tree c.turns.t) (new.tree c.in-Goes.next) h.reached reaches;
      stays = λ e. absurd (cc);
      extends = search rules;
      adds = adds-reached S c.args.delta old mid new _ _ h.adds c.in_ok-turn.ensures.extends h.reached c.in_ok-turn.ensures.adds;
      measure = omega (arith, less, low, h.measure);
      sum = omega (arith, c.in_ok-turn.ensures.sum, h.sum);
      spends = omega (arith, c.in_ok-turn.ensures.spends, h.spends);
    }

pub reduce_in-turns-init : goal.reduce_in-turns-init
reduce_in-turns-init g t c =
    record {
      live = c.requires.live;
      ids = c.requires.ids;
      scoped = c.requires.scoped;
      meant = refl;
      reached = none;
      stays = λ e. refl;
      extends = search rules;
      adds = adds-none (IsPartOnTheWay c.args.sig.now c.args.delta _) _;
      measure = omega arith;
      sum = refl;
      spends = omega arith;
    }

pub reduce_in-returns-in_err-turn-clause-adds : goal.reduce_in-returns-in_err-turn-clause-adds
reduce_in-returns-in_err-turn-clause-adds g t c =
    let old = g.S.TermStore.held c.args.store.now in
    let mid = g.S.TermStore.held c.turns.store in
    let new = g.S.TermStore.held c.turn_in.new.store in
    adds-reached c.args.sig.now c.args.delta old mid new _ _ c.turns.invariant.adds c.in_err-turn.ensures.extends c.turns.invariant.reached c.in_err-turn.ensures.adds

pub reduce_in-returns-in_err-turn-clause-full : goal.reduce_in-returns-in_err-turn-clause-full
reduce_in-returns-in_err-turn-clause-full g t c =
    let old = g.S.TermStore.held c.args.store.now in
    let mid = g.S.TermStore.held c.turns.store in
    let new = g.S.TermStore.held c.turn_in.new.store in
    let q = err_from_is_err_and c.from_residual.result c.from_residual.ensures.1 in
    rw (q.1, q.2)
    (λ is. reached-lacks c.args.sig.now c.args.delta (old.tree c.args.t) new (mid.tree c.turns.t) c.turns.invariant.reached (c.in_err-turn.ensures.full is))

pub reduce_in-returns-in-Rests-clause-ends : goal.reduce_in-returns-in-Rests-clause-ends
reduce_in-returns-in-Rests-clause-ends g t c =
    let old = g.S.TermStore.held c.args.store.now in
    let mid = g.S.TermStore.held c.turns.store in
    let new = g.S.TermStore.held c.turn_in.new.store in
    rw c.moved_form.ensures
    (ok-ends c.args.sig.now c.args.delta c.args.depth c.args.units.now.left c.turn_in.new.units.left (old.tree c.args.t) (new.tree c.in-Rests.form.id)
    ((rw c.in-Rests.is at c.in_ok-turn.ensures.answer) ∙ c.turns.invariant.meant))

pub reduce_in-returns-in-Rests-clause-adds : goal.reduce_in-returns-in-Rests-clause-adds
reduce_in-returns-in-Rests-clause-adds g t c =
    let old = g.S.TermStore.held c.args.store.now in
    let mid = g.S.TermStore.held c.turns.store in
    let new = g.S.TermStore.held c.turn_in.new.store in
    adds-reached c.args.sig.now c.args.delta old mid new _ _ c.turns.invariant.adds c.in_ok-turn.ensures.extends c.turns.invariant.reached c.in_ok-turn.ensures.adds

pub application_turn-returns-in_err-form-clause-answer : goal.application_turn-returns-in_err-form-clause-answer
application_turn-returns-in_err-form-clause-answer g t c =
    let old = g.S.TermStore.held c.args.store.now in
    let mid = g.S.TermStore.held c.reduce_in.new.store in
    let q = err_from_is_err_and c.from_residual.result c.from_residual.ensures.1 in
    rw (q.1, q.2)
    (λ memory full.
    function-stops c.args.sig.now c.args.delta (old.tree c.args.f) (old.tree c.args.u) c.args.depth c.args.units.now.left c.reduce_in.new.units.left _ c.requires.low
    (c.in_err-form.ensures.answer memory full))

pub scrutinee_turn-returns-in_err-u-clause-answer : goal.scrutinee_turn-returns-in_err-u-clause-answer
scrutinee_turn-returns-in_err-u-clause-answer g t c =
    let old = g.S.TermStore.held c.args.store.now in
    let mid = g.S.TermStore.held c.reduce_in.new.store in
    let q = err_from_is_err_and c.from_residual.result c.from_residual.ensures.1 in
    rw (q.1, q.2)
    (λ memory full.
    scrutinee-stops c.args.sig.now c.args.delta (old.tree c.args.f.id) (old.tree c.args.u) c.requires.rests c.requires.plain c.requires.awaits c.args.depth c.args.units.now.left
    c.reduce_in.new.units.left _ c.requires.low (c.in_err-u.ensures.answer memory full))

pub scrutinee_turn-meet_in-requires-clause-ids : goal.scrutinee_turn-meet_in-requires-clause-ids
scrutinee_turn-meet_in-requires-clause-ids g t c =
    stands-stay (g.S.TermStore.held c.args.store.now) (g.S.TermStore.held c.reduce_in.new.store) c.in_ok-u.ensures.extends c.args.sig.now.entries c.args.ids.now c.requires.ids

pub scrutinee_turn-meet_in-requires-clause-scoped : goal.scrutinee_turn-meet_in-requires-clause-scoped
scrutinee_turn-meet_in-requires-clause-scoped g t c =
    let old = g.S.TermStore.held c.args.store.now in
    let mid = g.S.TermStore.held c.reduce_in.new.store in
    reached-scoped c.args.sig.now c.args.delta 3221225472 (App (old.tree c.args.f.id) (old.tree c.args.u)) (App (mid.tree c.args.f.id) (mid.tree c.in_ok-u.u.id))
    c.requires.signature c.requires.scoped
    (scrutinee-way c.args.sig.now c.args.delta (old.tree c.args.f.id) (mid.tree c.args.f.id) (old.tree c.args.u)
    (c.in_ok-u.ensures.extends.trees c.args.f.id c.requires.f.live) c.requires.rests c.requires.plain c.requires.awaits (mid.tree c.in_ok-u.u.id) c.in_ok-u.ensures.ends.reached)

pub application_turn-apply_in-requires : goal.application_turn-apply_in-requires
application_turn-apply_in-requires g t c κs within =
    let old = g.S.TermStore.held c.args.store.now in
    let mid = g.S.TermStore.held c.reduce_in.new.store in
    let e = c.in_ok-form.ensures.extends in
    let ids = stands-stay old mid e c.args.sig.now.entries c.args.ids.now c.requires.ids in
    let scoped =
    reached-scoped c.args.sig.now c.args.delta 3221225472 (App (old.tree c.args.f) (old.tree c.args.u)) (App (mid.tree c.in_ok-form.form.id) (mid.tree c.args.u))
    c.requires.signature c.requires.scoped
    (function-way c.args.sig.now c.args.delta (old.tree c.args.f) (old.tree c.args.u) (mid.tree c.args.u) (e.trees c.args.u c.requires.u_live) (mid.tree c.in_ok-form.form.id)
    c.in_ok-form.ensures.ends.reached) in
    let same = ap height (e.trees c.args.u c.requires.u_live) in
    let tall = ap height c.requires.whole in
    let whole =
    λ (moved : c.in_ok-form.form.moved ≡ false).
    e.trees c.args.t c.requires.live
    ∙ (c.requires.whole
    ∙ ap₂ App (sym (e.trees c.args.f c.requires.f_live) ∙ ap mid.tree (sym (c.in_ok-form.ensures.stays moved))) (sym (e.trees c.args.u c.requires.u_live))) in (
      omega (arith, same, tall, c.in_ok-form.ensures.spends, c.decreases),
      (
        within.0,
        (
          within.1,
          (
            c.requires.signature,
            (
              ids,
              (
                e.lives c.args.t c.requires.live,
                (
                  c.in_ok-form.ensures.form,
                  (
                    e.lives c.args.u c.requires.u_live,
                    (whole, (scoped, (c.in_ok-form.ensures.ends.rests, omega (arith, same, c.in_ok-form.ensures.ends.low, c.requires.low)))),
                  ),
                ),
              ),
            ),
          ),
        ),
      ),
    )
