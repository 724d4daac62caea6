use Rattle.std.proofs.Common.{◌+◌, ◌-◌, length, take, refl, sym, ap, ◌∙◌, subst, arith}
use Rattle.theory.specs.Spines.{spine_of}
use Rattle.theory.specs.Telescopes.{applied}
use Rattle.kernel_reduce.proofs.Contractions.{spine-free}
use Rattle.kernel_reduce.proofs.IotaBounds.{recursor-free}
use Rattle.term_pool.specs.Held.{AddsParts, IsFullFor, Makes}
use Rattle.term_pool.specs.Instantiation.{trees_of}
use Rattle.store_reduce.specs.Arguments.{AreLive, IsOver}
use Rattle.store_reduce.proofs.ContractionLaws.{iota-is}
use Rattle.store_reduce.proofs.ValueLaws.{arguments-values, trees-count}
use Rattle.store_reduce.proofs.contracting.iota_in.Goals as goal

pub iota_at_in-requires-clause-recursor_free : goal.iota_at_in-requires-clause-recursor_free
iota_at_in-requires-clause-recursor_free g c =
    let t = (g.S.TermStore.held c.args.store.now).tree c.args.f in
    let k = length (spine_of t) - length c.as_slice-indices.result.now in
    recursor-free 3221225472 c.args.n c.args.m k (spine_of t) _ (c.without_last_in-recursor.ensures.tree ∙ ap (λ h. applied h (take k (spine_of t))) c.requires.head)
    (spine-free 3221225472 t (spine_of t) refl c.requires.f_free)

pub iota_at_in-requires-clause-args : goal.iota_at_in-requires-clause-args
iota_at_in-requires-clause-args g c =
    let held = g.S.TermStore.held c.args.store.now in
    arguments-values held _ (held.tree c.args.f) (subst (AreLive held) (sym c.as_slice.ensures.value) c.in_ok-args.ensures.live)
    (ap (trees_of held) c.as_slice.ensures.value ∙ c.in_ok-args.ensures.answer) c.requires.f_free

pub iota_at_in-requires-clause-us : goal.iota_at_in-requires-clause-us
iota_at_in-requires-clause-us g c =
    let held = g.S.TermStore.held c.args.store.now in
    arguments-values held _ (held.tree c.args.u) (subst (AreLive held) (sym c.as_slice-2.ensures.value) c.in_ok-us.ensures.live)
    (ap (trees_of held) c.as_slice-2.ensures.value ∙ c.in_ok-us.ensures.answer) c.requires.u_free

pub iota_at_in-requires-clause-params : goal.iota_at_in-requires-clause-params
iota_at_in-requires-clause-params g c =
    let held = g.S.TermStore.held c.args.store.now in
    omega (
      arith,
      ap length c.as_slice-params.ensures,
      ap length (ap (trees_of held) c.as_slice.ensures.value ∙ c.in_ok-args.ensures.answer),
      trees-count held c.as_slice.result.now,
    )

pub iota_at_in-requires-clause-at : goal.iota_at_in-requires-clause-at
iota_at_in-requires-clause-at g c =
    let held = g.S.TermStore.held c.args.store.now in
    omega (
      arith,
      c.requires.all.number_low,
      c.requires.all.args_long,
      ap length c.as_slice-params.ensures,
      ap length (ap (trees_of held) c.as_slice.ensures.value ∙ c.in_ok-args.ensures.answer),
      trees-count held c.as_slice.result.now,
    )

pub iota_at_in-requires-clause-us_all : goal.iota_at_in-requires-clause-us_all
iota_at_in-requires-clause-us_all g c =
    let held = g.S.TermStore.held c.args.store.now in
    omega (
      arith,
      c.requires.all.us_all,
      ap length c.as_slice-params.ensures,
      ap length c.as_slice-3.ensures,
      ap length (ap (trees_of held) c.as_slice-2.ensures.value ∙ c.in_ok-us.ensures.answer),
      trees-count held c.as_slice-2.result.now,
    )

pub iota_at_in-requires-clause-types : goal.iota_at_in-requires-clause-types
iota_at_in-requires-clause-types g c =
    subst (λ codes. IsOver codes ((g.S.TermStore.held c.args.store.now).tree c.args.ty)) (sym c.as_slice-3.ensures) c.requires.types

pub returns : goal.returns
returns g c =
    let held = g.S.TermStore.held c.args.store.now in
    let new = g.S.TermStore.held c.iota_at_in.new.store in
    let is = iota-is c.args.n c.args.m (length c.args.family.now.params) (length c.as_slice-params.result.now) (length c.args.family.now.cons)
    (length c.args.family.now.indices) (length c.as_slice-indices.result.now) c.args.number _ (held.tree c.args.f) (held.tree c.args.u)
    (held.tree c.without_last_in-recursor.result) (trees_of held c.as_slice.result.now) (trees_of held c.as_slice-2.result.now) c.as_slice-3.result.now
    c.args.constructor.now.args (ap length c.as_slice-params.ensures) (ap length c.as_slice-indices.ensures)
    (ap (λ xs. length xs + (1 + c.args.number)) c.as_slice-params.ensures) c.requires.head c.requires.indices c.without_last_in-recursor.ensures.tree
    (ap (trees_of held) c.as_slice.ensures.value ∙ c.in_ok-args.ensures.answer) (ap (trees_of held) c.as_slice-2.ensures.value ∙ c.in_ok-us.ensures.answer)
    c.as_slice-3.ensures in
    record {
      makes = subst (Makes new c.iota_at_in.result) is c.iota_at_in.ensures.makes;
      full = subst (IsFullFor new c.iota_at_in.result) is c.iota_at_in.ensures.full;
      extends = c.iota_at_in.ensures.extends;
      adds = subst (AddsParts held new) is c.iota_at_in.ensures.adds;
    }
