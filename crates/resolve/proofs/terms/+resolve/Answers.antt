use Rattle.std.proofs.Common.{arith, ◌≡◌, ◌+◌, ◌<◌, ◌≤◌, ◌++◌, drop, get_or, length, map, refl, ap, sym, ◌∙◌}
use Rattle.std.proofs.lemmas.Result.{err_from_is_err_and}
use Rattle.surface_syntax.specs.Trees as surf
use Rattle.surface_syntax.specs.TreeMeanings.{surf_of, binder_of}
use Rattle.resolve.specs.Binding.{closed}
use Rattle.core_terms.specs.Low.{low_of}
use Rattle.resolve.specs.Forms.{former}
use Rattle.resolve.specs.Resolving.{group, resolve, telescope}
use Rattle.resolve.specs.Scopes.{names_of, known_of}
use Rattle.resolve.proofs.Bound.{closed_stop, group_done, group_step, group_stop}
use Rattle.resolve.proofs.Sizes.{size, size_binder, size_item, size_binder_at}
use Rattle.resolve.proofs.Spines.{binder_parts, telescope_behind, telescope_done}
use Rattle.resolve.proofs.terms.+resolve.Goals as goal

pub applied-resolve-requires : goal.applied-resolve-requires
applied-resolve-requires t c =
    let h = size_item c.args.args.now c.loop-arg.arg-index c.arg-item.result c.loop-arg-test.true c.arg-item.is in (omega arith, tt)

pub group-loop-x-init : goal.group-loop-x-init
group-loop-x-init t c = λ inner. refl

pub group-returns-in_err-ty : goal.group-returns-in_err-ty
group-returns-in_err-ty t c =
    let names = c.args.binder.now.names in
    let lt : c.loop-x.x-index < length names = rw (← c.as_slice-x-items.ensures) c.loop-x-test.true in
    let is : c.x-item.result ≡ get_or names c.loop-x.x-index c.x-item.result = rw (← c.as_slice-x-items.ensures) c.x-item.is in
    let q = err_from_is_err_and c.from_residual.result c.from_residual.ensures.1 in
    rw (q.1, q.2)
    (λ other inner. c.loop-x.invariant inner
    ∙ group_stop (former c.args.form) names c.loop-x.x-index c.x-item.result (resolve (known_of c.args.known.now) (surf_of c.args.binder.now.ty)) inner (c.loop-x.under ++ names_of c.args.scope.now) (map low_of c.loop-x.types.items) _ lt is (c.in_err-ty.ensures other))

pub group-loop-x-preserved : goal.group-loop-x-preserved
group-loop-x-preserved t c =
    let names = c.args.binder.now.names in
    let lt : c.loop-x.x-index < length names = rw (← c.as_slice-x-items.ensures) c.loop-x-test.true in
    let is : c.x-item.result ≡ get_or names c.loop-x.x-index c.x-item.result = rw (← c.as_slice-x-items.ensures) c.x-item.is in
    λ inner.
    c.loop-x.invariant inner
    ∙ (group_step (former c.args.form) names c.loop-x.x-index c.x-item.result (resolve (known_of c.args.known.now) (surf_of c.args.binder.now.ty)) inner (c.loop-x.under ++ names_of c.args.scope.now) c.loop-x.types.items c.push.new.self.items c.in_ok-ty.ty lt is c.in_ok-ty.ensures c.in_ok-push.ensures.items
    ∙ ap (λ under. closed (former c.args.form) (map low_of c.push.new.self.items) (group (former c.args.form) (drop (c.loop-x.x-index + 1) names) (resolve (known_of c.args.known.now) (surf_of c.args.binder.now.ty)) inner (under ++ names_of c.args.scope.now))) (sym c.in_ok-push-2.ensures.ok))

pub group-returns : goal.group-returns
group-returns t c =
    let names = c.args.binder.now.names in
    let end : length names ≤ c.loop-x.x-index = rw (← c.as_slice-x-items.ensures) c.loop-x-test.false in
    λ inner.
    c.loop-x.invariant inner
    ∙ ap (closed (former c.args.form) (map low_of c.loop-x.types.items)) (group_done (former c.args.form) names c.loop-x.x-index (resolve (known_of c.args.known.now) (surf_of c.args.binder.now.ty)) inner (c.loop-x.under ++ names_of c.args.scope.now) end)

pub telescope-group-requires : goal.telescope-group-requires
telescope-group-requires t c =
    let lt : c.loop-binder.binder-index < length c.args.binders.now = rw (← c.as_slice-binder-items.ensures) c.loop-binder-test.true in
    let is : c.binder-item.result ≡ get_or c.args.binders.now c.loop-binder.binder-index c.binder-item.result = rw (← c.as_slice-binder-items.ensures) c.binder-item.is in
    let h = size_binder_at c.args.binders.now c.loop-binder.binder-index c.binder-item.result lt is in
    let e : size_binder (binder_of c.binder-item.result) ≡ 1 + length c.binder-item.result.names + size (surf_of c.binder-item.result.ty) = ap size_binder (binder_parts c.binder-item.result) in
    (omega arith, tt)

pub telescope-returns-in_err-group : goal.telescope-returns-in_err-group
telescope-returns-in_err-group t c =
    let lt : c.loop-binder.binder-index < length c.args.binders.now = rw (← c.as_slice-binder-items.ensures) c.loop-binder-test.true in
    let is : c.binder-item.result ≡ get_or c.args.binders.now c.loop-binder.binder-index c.binder-item.result = rw (← c.as_slice-binder-items.ensures) c.binder-item.is in
    let inner = resolve (known_of c.args.known.now) (surf_of c.args.body.now) in
    let under = c.loop-binder.under ++ names_of c.args.scope.now in
    let q = err_from_is_err_and c.from_residual.result c.from_residual.ensures.1 in
    rw (q.1, q.2)
    (λ other. sym (c.loop-binder.invariant
    ∙ (ap (closed (former c.args.form) (map low_of c.loop-binder.types.items)) (telescope_behind (known_of c.args.known.now) (former c.args.form) c.args.binders.now c.loop-binder.binder-index c.binder-item.result inner under lt is)
    ∙ c.in_err-group.ensures other (telescope (known_of c.args.known.now) (former c.args.form) (surf.binders (map binder_of (drop (c.loop-binder.binder-index + 1) c.args.binders.now))) inner))))

pub telescope-loop-binder-preserved : goal.telescope-loop-binder-preserved
telescope-loop-binder-preserved t c =
    let lt : c.loop-binder.binder-index < length c.args.binders.now = rw (← c.as_slice-binder-items.ensures) c.loop-binder-test.true in
    let is : c.binder-item.result ≡ get_or c.args.binders.now c.loop-binder.binder-index c.binder-item.result = rw (← c.as_slice-binder-items.ensures) c.binder-item.is in
    let inner = resolve (known_of c.args.known.now) (surf_of c.args.body.now) in
    let under = c.loop-binder.under ++ names_of c.args.scope.now in
    c.loop-binder.invariant
    ∙ (ap (closed (former c.args.form) (map low_of c.loop-binder.types.items)) (telescope_behind (known_of c.args.known.now) (former c.args.form) c.args.binders.now c.loop-binder.binder-index c.binder-item.result inner under lt is)
    ∙ c.in_ok-group.ensures (telescope (known_of c.args.known.now) (former c.args.form) (surf.binders (map binder_of (drop (c.loop-binder.binder-index + 1) c.args.binders.now))) inner))

pub telescope-returns-in_err-inner : goal.telescope-returns-in_err-inner
telescope-returns-in_err-inner t c =
    let end : length c.args.binders.now ≤ c.loop-binder.binder-index = rw (← c.as_slice-binder-items.ensures) c.loop-binder-test.false in
    let inner = resolve (known_of c.args.known.now) (surf_of c.args.body.now) in
    let under = c.loop-binder.under ++ names_of c.args.scope.now in
    let q = err_from_is_err_and c.from_residual-in_err-inner.result c.from_residual-in_err-inner.ensures.1 in
    rw (q.1, q.2)
    (λ other. sym (c.loop-binder.invariant
    ∙ (ap (closed (former c.args.form) (map low_of c.loop-binder.types.items))
    (telescope_done (known_of c.args.known.now) (former c.args.form) c.args.binders.now c.loop-binder.binder-index inner under end ∙ sym (c.in_err-inner.ensures other))
    ∙ closed_stop (former c.args.form) (map low_of c.loop-binder.types.items) _)))
