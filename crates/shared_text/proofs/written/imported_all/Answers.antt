use Rattle.std.proofs.Common.{◌≤◌, length, subst, arith}
use Rattle.std.proofs.lemmas.List.{take_all}
use Rattle.core_terms.specs.Meanings.{tele_of, tree_of}
use Rattle.core_sig.proofs.StandingEntries.{extends-none, extends-then}
use Rattle.term_pool.specs.Pools.{pool_held}
use Rattle.shared_text.specs.CodeMeanings.{AreIdsOf}
use Rattle.shared_text.proofs.WrittenIds.{ids-none, ids-along}
use Rattle.shared_text.proofs.written.imported_all.Goals as goal

pub loop-t-init : goal.loop-t-init
loop-t-init c = record { ids = ids-none c.args.pool.now c.new-ids.result.items c.new-ids.ensures.items; extends = extends-none (pool_held c.args.pool.now) }

pub loop-t-preserved : goal.loop-t-preserved
loop-t-preserved c =
    record {
      ids =
          ids-along c.loop-t.pool c.imported.new.pool c.in_ok-id.ensures.extends tree_of c.args.terms.now c.loop-t.t-index c.t-item.result c.loop-t.ids.items c.push.new.self.items c.in_ok-id.id
          c.loop-t-test.true c.t-item.is c.loop-t.invariant.ids c.in_ok-id.ensures.live c.in_ok-id.ensures.tree c.in_ok-push.ensures.items;
      extends = extends-then (pool_held c.args.pool.now) (pool_held c.loop-t.pool) (pool_held c.imported.new.pool) c.loop-t.invariant.extends c.in_ok-id.ensures.extends;
    }

pub returns-clause-ids : goal.returns-clause-ids
returns-clause-ids c =
    let all : length c.args.terms.now ≤ c.loop-t.t-index = omega arith in
    subst (λ ts. AreIdsOf c.loop-t.pool c.loop-t.ids.items (tele_of ts)) (take_all c.loop-t.t-index c.args.terms.now all) c.loop-t.invariant.ids
