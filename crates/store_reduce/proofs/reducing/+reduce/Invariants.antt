use Rattle.std.proofs.Common.{◌≡◌, ◌≤◌, ◌+◌, ◌*◌, IsTrue, false}
use Rattle.core_terms.specs.Bounds.{most_inner_variables}
use Rattle.theory.specs.Terms.{height}
use Rattle.theory.specs.SignatureScopes.{IsScoped}
use Rattle.term_pool.specs.Held.{Extends}
use Rattle.store_reduce.specs.Additions.{AddsOnly}
use Rattle.core_sig.specs.EntryIds.{Stands}
use Rattle.store_reduce.specs.Formed.{Reaches, IsPartOnTheWay}
use Rattle.store_reduce.specs.Places.{whnf_at}
use Rattle.store_reduce.proofs.reducing.+reduce.Given as goal

abbrev pub invariant-reduce_in-turns : goal.invariant-reduce_in-turns
invariant-reduce_in-turns g l =
    let old = g.S.TermStore.held l.fn.store in
    let now = g.S.TermStore.held l.store in
    record {
      live : IsTrue (now.live l.t);
      ids : Stands now l.sig.entries l.ids;
      scoped : IsScoped l.sig most_inner_variables (now.tree l.t);
      meant : whnf_at l.sig l.delta l.depth l.units.left (now.tree l.t) ≡ whnf_at l.sig l.delta l.depth l.fn.units.left (old.tree l.fn.t);
      reached : Reaches l.sig l.delta (old.tree l.fn.t) (now.tree l.t);
      stays : l.moved ≡ false → l.t ≡ l.fn.t;
      extends : Extends old now;
      adds : AddsOnly (IsPartOnTheWay l.sig l.delta (old.tree l.fn.t)) old now;
      measure : 2001 * l.units.left + height (now.tree l.t) ≤ 2001 * l.fn.units.left + height (old.tree l.fn.t);
      sum : l.units.left + l.units.spent ≡ l.fn.units.left + l.fn.units.spent;
      spends : l.units.left ≤ l.fn.units.left;
    }

abbrev pub decreases-reduce_in-turns : goal.decreases-reduce_in-turns
decreases-reduce_in-turns g l = l.units.left

abbrev pub decreases-reduce_in : goal.decreases-reduce_in
decreases-reduce_in g l = 6 * (2001 * l.units.now.left + height ((g.S.TermStore.held l.store.now).tree l.t)) + 2

abbrev pub decreases-turn_in : goal.decreases-turn_in
decreases-turn_in g l = 6 * (2001 * l.units.now.left + height ((g.S.TermStore.held l.store.now).tree l.t)) + 1

abbrev pub decreases-application_turn : goal.decreases-application_turn
decreases-application_turn g l = 6 * (2001 * l.units.now.left + height ((g.S.TermStore.held l.store.now).tree l.t))

abbrev pub decreases-apply_in : goal.decreases-apply_in
decreases-apply_in g l = 6 * (2001 * l.units.now.left + height ((g.S.TermStore.held l.store.now).tree l.u)) + 5

abbrev pub decreases-eliminate_at : goal.decreases-eliminate_at
decreases-eliminate_at g l = 6 * (2001 * l.units.now.left + height ((g.S.TermStore.held l.store.now).tree l.u)) + 4

abbrev pub decreases-scrutinee_turn : goal.decreases-scrutinee_turn
decreases-scrutinee_turn g l = 6 * (2001 * l.units.now.left + height ((g.S.TermStore.held l.store.now).tree l.u)) + 3
