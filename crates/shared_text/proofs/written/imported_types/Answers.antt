use Rattle.std.proofs.Common.{◌≤◌, length, map, subst, arith}
use Rattle.std.proofs.lemmas.List.{take_all}
use Rattle.core_sig.proofs.StandingEntries.{extends-none, extends-then}
use Rattle.core_sig.specs.Raw.{raw_constructor_of}
use Rattle.term_pool.specs.Pools.{pool_held}
use Rattle.shared_text.specs.CodeMeanings.{AreIdsOf}
use Rattle.shared_text.proofs.WrittenIds.{ids-none, types-along}
use Rattle.shared_text.proofs.written.imported_types.Goals as goal

pub loop-con-init : goal.loop-con-init
loop-con-init c = record { ids = ids-none c.args.pool.now c.new-ids.result.items c.new-ids.ensures.items; extends = extends-none (pool_held c.args.pool.now) }

pub loop-con-preserved : goal.loop-con-preserved
loop-con-preserved c =
    record {
      ids =
          types-along c.loop-con.pool c.imported.new.pool c.in_ok-id.ensures.extends c.args.cons.now c.loop-con.con-index c.con-item.result c.loop-con.ids.items c.push.new.self.items c.in_ok-id.id
          c.loop-con-test.true c.con-item.is c.loop-con.invariant.ids c.in_ok-id.ensures.live c.in_ok-id.ensures.tree c.in_ok-push.ensures.items;
      extends = extends-then (pool_held c.args.pool.now) (pool_held c.loop-con.pool) (pool_held c.imported.new.pool) c.loop-con.invariant.extends c.in_ok-id.ensures.extends;
    }

pub returns-clause-ids : goal.returns-clause-ids
returns-clause-ids c =
    let all : length c.args.cons.now ≤ c.loop-con.con-index = omega arith in
    subst (λ cs. AreIdsOf c.loop-con.pool c.loop-con.ids.items (map (λ k. k.type) (map raw_constructor_of cs))) (take_all c.loop-con.con-index c.args.cons.now all) c.loop-con.invariant.ids
