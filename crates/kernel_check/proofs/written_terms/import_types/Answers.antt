use Rattle.std.proofs.Common.{subst, arith}
use Rattle.std.proofs.lemmas.List.{take_all}
use Rattle.core_sig.specs.EntryIds.{Correspond}
use Rattle.core_sig.proofs.StandingEntries.{correspond-none, extends-none, extends-then}
use Rattle.kernel_check.specs.Scopes.{IsWritten}
use Rattle.kernel_check.proofs.WrittenTypes.{types-more}
use Rattle.kernel_check.proofs.written_terms.import_types.Goals as goal

pub loop-ty-init : goal.loop-ty-init
loop-ty-init g c =
    let old = g.S.TermStore.held c.args.store.now in
    record { ids = rw c.new-ids.ensures.items (correspond-none (IsWritten old)); extends = extends-none old }

pub loop-ty-preserved : goal.loop-ty-preserved
loop-ty-preserved g c =
    let old = g.S.TermStore.held c.args.store.now in
    let mid = g.S.TermStore.held c.loop-ty.store in
    let new = g.S.TermStore.held c.import_where_low.new.store in
    record {
      ids =
          types-more mid new c.args.types.now c.loop-ty.ty-index c.ty-item.result c.loop-ty.ids.items c.push.new.self.items c.in_ok-id.id c.in_ok-id.ensures.extends
          (omega arith) c.ty-item.is c.loop-ty.invariant.ids c.in_ok-id.ensures.id c.in_ok-push.ensures.items;
      extends = extends-then old mid new c.loop-ty.invariant.extends c.in_ok-id.ensures.extends;
    }

pub returns-clause-ids : goal.returns-clause-ids
returns-clause-ids g c =
    let now = g.S.TermStore.held c.loop-ty.store in
    subst (λ types. Correspond (IsWritten now) types c.loop-ty.ids.items) (take_all c.loop-ty.ty-index c.args.types.now (omega arith)) c.loop-ty.invariant.ids

pub returns-in_err-push-clause-extends : goal.returns-in_err-push-clause-extends
returns-in_err-push-clause-extends g c =
    extends-then (g.S.TermStore.held c.args.store.now) (g.S.TermStore.held c.loop-ty.store) (g.S.TermStore.held c.import_where_low.new.store)
    c.loop-ty.invariant.extends c.in_ok-id.ensures.extends
