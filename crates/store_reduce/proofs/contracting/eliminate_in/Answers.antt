use Rattle.std.proofs.Common.{◌≤◌, option_map, sym, ap, ◌∙◌, subst}
use Rattle.std.specs.Option.{option_copied}
use Rattle.core_sig.specs.Meanings.{family_of}
use Rattle.term_pool.specs.Held.{AddsParts, IsFullFor, Makes}
use Rattle.kernel_reduce.specs.Tests.{constructor_number}
use Rattle.store_reduce.proofs.ContractionLaws.{absent, arguments-all, arguments-exact, contracted-is, has-constructor, has-family, has-number}
use Rattle.store_reduce.proofs.Standing.{behind-there, behind-stands, behind-over}
use Rattle.store_reduce.proofs.contracting.eliminate_in.Goals as goal

pub iota_in-requires-clause-ty_live : goal.iota_in-requires-clause-ty_live
iota_in-requires-clause-ty_live g c =
    (behind-stands (g.S.TermStore.held c.args.store.now) c.args.sig.now c.args.ids.now c.requires.ids _ _ _ _ c.in-Some-family.ensures.family
    (sym c.in-Some-constructor.ensures) _ c.in-Some-constructor_behind_in.ensures).0

pub iota_in-requires-clause-all : goal.iota_in-requires-clause-all
iota_in-requires-clause-all g c =
    let held = g.S.TermStore.held c.args.store.now in
    arguments-all c.args.sig.now (held.tree c.args.f.id) (held.tree c.args.u.id) _ _ c.requires.awaits c.requires.meets c.requires.head _ _
    (c.in-Some.ensures ∙ ap constructor_number c.requires.u.head) c.in-Some-family.ensures.family _ (sym c.in-Some-constructor.ensures) (subst (λ k. k ≤ 2000) c.height-low.ensures.height c.height-low.ensures.low)

pub iota_in-requires-clause-indices : goal.iota_in-requires-clause-indices
iota_in-requires-clause-indices g c =
    let held = g.S.TermStore.held c.args.store.now in
    arguments-exact c.args.sig.now (held.tree c.args.f.id) (held.tree c.args.u.id) _ _ c.requires.awaits c.requires.meets c.requires.head _ _
    (c.in-Some.ensures ∙ ap constructor_number c.requires.u.head) c.in-Some-family.ensures.family

pub iota_in-requires-clause-types : goal.iota_in-requires-clause-types
iota_in-requires-clause-types g c =
    behind-over (g.S.TermStore.held c.args.store.now) c.args.sig.now c.args.ids.now c.requires.ids _ _ _ _ c.in-Some-family.ensures.family
    (sym c.in-Some-constructor.ensures) _ c.in-Some-family.ensures.kinds c.in-Some-constructor_behind_in.ensures

pub returns : goal.returns
returns g c =
    let held = g.S.TermStore.held c.args.store.now in
    let new = g.S.TermStore.held c.iota_in.new.store in
    let is = contracted-is c.args.sig.now (held.tree c.args.f.id) (held.tree c.args.u.id) _ _ c.requires.awaits c.requires.meets c.requires.head _ _
    (c.in-Some.ensures ∙ ap constructor_number c.requires.u.head) c.in-Some-family.ensures.family _ (sym c.in-Some-constructor.ensures) (subst (λ k. k ≤ 2000) c.height-low.ensures.height c.height-low.ensures.low) in
    record {
      makes = subst (Makes new c.iota_in.result) is c.iota_in.ensures.makes;
      full = subst (IsFullFor new c.iota_in.result) is c.iota_in.ensures.full;
      extends = c.iota_in.ensures.extends;
      adds = subst (AddsParts held new) is c.iota_in.ensures.adds;
    }

pub returns-in_default : goal.returns-in_default
returns-in_default g c =
    let held = g.S.TermStore.held c.args.store.now in
    absurd (has-number c.args.sig.now (held.tree c.args.f.id) (held.tree c.args.u.id) _ _ c.requires.awaits c.requires.meets c.requires.head
    (absent _ (λ x e. c.in_default.not-Some x (c.constructor_number_in.ensures ∙ (ap constructor_number c.requires.u.head ∙ e)))))

pub returns-in_default-family : goal.returns-in_default-family
returns-in_default-family g c =
    let held = g.S.TermStore.held c.args.store.now in
    absurd (has-family c.args.sig.now (held.tree c.args.f.id) (held.tree c.args.u.id) _ _ c.requires.awaits c.requires.meets c.requires.head
    (ap (λ o. option_map family_of (option_copied o)) (absent c.family.result c.in_default-family.not-Some) ∙ c.family.ensures.family))

pub returns-in_default-constructor : goal.returns-in_default-constructor
returns-in_default-constructor g c =
    let held = g.S.TermStore.held c.args.store.now in
    absurd (has-constructor c.args.sig.now (held.tree c.args.f.id) (held.tree c.args.u.id) _ _ c.requires.awaits c.requires.meets c.requires.head _ _
    (c.in-Some.ensures ∙ ap constructor_number c.requires.u.head) c.in-Some-family.ensures.family
    (ap option_copied (absent c.constructor.result c.in_default-constructor.not-Some) ∙ c.constructor.ensures))

pub returns-in_default-constructor_behind_in : goal.returns-in_default-constructor_behind_in
returns-in_default-constructor_behind_in g c =
    absurd (behind-there (g.S.TermStore.held c.args.store.now) c.args.sig.now c.args.ids.now c.requires.ids _ _ _ _ c.in-Some-family.ensures.family
    (sym c.in-Some-constructor.ensures)
    (absent _ (λ x e. c.in_default-constructor_behind_in.not-Some x (c.constructor_behind_in.ensures ∙ e))))
