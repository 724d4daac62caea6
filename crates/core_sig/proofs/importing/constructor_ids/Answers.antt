use Rattle.std.proofs.Common.{◌≡◌, ◌<◌, ◌≤◌, length, get_or, map, ap, sym, subst, arith}
use Rattle.std.proofs.lemmas.List.{take_all}
use Rattle.theory.specs.Terms.{height}
use Rattle.core_sig.specs.EntryIds.{Correspond, IsConstructorId, type_behind}
use Rattle.core_sig.specs.Meanings.{constructor_of, family_of}
use Rattle.core_sig.proofs.ConstructorTypes.{kinds_at}
use Rattle.core_sig.proofs.StandingEntries.{constructors-more, correspond-none, extends-none, extends-then}
use Rattle.core_sig.proofs.Lists.{all-unmapped}
use Rattle.core_sig.proofs.importing.constructor_ids.Goals as goal

pub constructor_id-requires-clause-kinds : goal.constructor_id-requires-clause-kinds
constructor_id-requires-clause-kinds g c =
    let within : c.loop-con.con-index < length c.args.f.now.cons = omega (arith, ap length c.as_slice-con-items.ensures) in
    let con : c.con-item.result ≡ get_or c.args.f.now.cons c.loop-con.con-index c.con-item.result = rw c.as_slice-con-items.ensures at c.con-item.is in
    kinds_at c.args.n c.args.f.now c.loop-con.con-index c.con-item.result c.requires.kinds within con

pub constructor_id-requires-clause-low : goal.constructor_id-requires-clause-low
constructor_id-requires-clause-low g c =
    let f = c.args.f.now in
    let within : c.loop-con.con-index < length f.cons = omega (arith, ap length c.as_slice-con-items.ensures) in
    let con : c.con-item.result ≡ get_or f.cons c.loop-con.con-index c.con-item.result = rw c.as_slice-con-items.ensures at c.con-item.is in
    subst (λ k. height (type_behind c.args.n (family_of f) (constructor_of (length f.params) k)) ≤ 2000) (sym con)
    (all-unmapped (λ k. height (type_behind c.args.n (family_of f) k) ≤ 2000) (constructor_of (length f.params)) f.cons c.requires.low c.loop-con.con-index c.con-item.result within)

pub loop-con-init : goal.loop-con-init
loop-con-init g c =
    let old = g.S.TermStore.held c.args.store.now in
    record {
      ids = rw c.new-ids.ensures.items (correspond-none (λ number. IsConstructorId old c.args.n (family_of c.args.f.now)));
      extends = extends-none old;
    }

pub loop-con-preserved : goal.loop-con-preserved
loop-con-preserved g c =
    let old = g.S.TermStore.held c.args.store.now in
    let mid = g.S.TermStore.held c.loop-con.store in
    let new = g.S.TermStore.held c.constructor_id.new.store in
    let within : c.loop-con.con-index < length c.args.f.now.cons = omega (arith, ap length c.as_slice-con-items.ensures) in
    let con : c.con-item.result ≡ get_or c.args.f.now.cons c.loop-con.con-index c.con-item.result = rw c.as_slice-con-items.ensures at c.con-item.is in
    record {
      ids =
          constructors-more mid new c.args.n c.args.f.now c.loop-con.con-index c.con-item.result c.loop-con.ids.items c.push.new.self.items c.in_ok-id.id
          c.in_ok-id.ensures.extends within con c.loop-con.invariant.ids c.in_ok-id.ensures.id c.in_ok-push.ensures.items;
      extends = extends-then old mid new c.loop-con.invariant.extends c.in_ok-id.ensures.extends;
    }

pub returns-in_err-push-clause-extends : goal.returns-in_err-push-clause-extends
returns-in_err-push-clause-extends g c =
    extends-then (g.S.TermStore.held c.args.store.now) (g.S.TermStore.held c.loop-con.store) (g.S.TermStore.held c.constructor_id.new.store)
    c.loop-con.invariant.extends c.in_ok-id.ensures.extends

pub returns-clause-ids : goal.returns-clause-ids
returns-clause-ids g c =
    let f = c.args.f.now in
    let now = g.S.TermStore.held c.loop-con.store in
    let all : length f.cons ≤ c.loop-con.con-index = omega (arith, ap length c.as_slice-con-items.ensures) in
    subst (λ cons. Correspond (λ number. IsConstructorId now c.args.n (family_of f)) (map (constructor_of (length f.params)) cons) c.loop-con.ids.items)
    (take_all c.loop-con.con-index f.cons all) c.loop-con.invariant.ids
