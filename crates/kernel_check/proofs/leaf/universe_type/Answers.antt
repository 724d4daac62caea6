use Rattle.std.proofs.Common.{sym, subst, arith}
use Rattle.theory.specs.Terms as tree
use Rattle.core_terms.specs.Verdicts.{LevelTooHigh}
use Rattle.store_reduce.proofs.Adding.{adds-none}
use Rattle.kernel_check.specs.Asked.{IsLeafPart}
use Rattle.kernel_check.specs.Checking.{denied}
use Rattle.kernel_check.specs.Scopes.{scope_in}
use Rattle.kernel_check.specs.Verdicts.{AnswersIn, verdict_in}
use Rattle.kernel_check.proofs.LeafTypes.{denied-room, gives-room, sort-adds, sort-full, universe-at-top, universe-below}
use Rattle.kernel_check.proofs.StoredVerdicts.{gives-answers}
use Rattle.kernel_check.proofs.leaf.universe_type.Goals as goal

pub returns-then-i-lt-TOP-clause-answer : goal.returns-then-i-lt-TOP-clause-answer
returns-then-i-lt-TOP-clause-answer g c =
    let held = g.S.TermStore.held c.args.store.now in
    let new = g.S.TermStore.held c.sort_type.new.store in
    subst (AnswersIn (verdict_in new.tree) c.sort_type.result)
    (sym (universe-below (scope_in held.tree c.args.scope.now) c.args.i (omega (arith, c.if-i-lt-TOP.true)))) c.sort_type.ensures.answer

pub returns-then-i-lt-TOP-clause-adds : goal.returns-then-i-lt-TOP-clause-adds
returns-then-i-lt-TOP-clause-adds g c =
    let held = g.S.TermStore.held c.args.store.now in
    sort-adds (scope_in held.tree c.args.scope.now) c.args.i held (g.S.TermStore.held c.sort_type.new.store) c.sort_type.ensures.adds

pub returns-then-i-lt-TOP-clause-full : goal.returns-then-i-lt-TOP-clause-full
returns-then-i-lt-TOP-clause-full g c =
    let held = g.S.TermStore.held c.args.store.now in
    sort-full (scope_in held.tree c.args.scope.now) c.args.i (g.S.TermStore.held c.sort_type.new.store) c.sort_type.result c.sort_type.ensures.full

pub returns-else-i-lt-TOP-clause-answer : goal.returns-else-i-lt-TOP-clause-answer
returns-else-i-lt-TOP-clause-answer g c =
    let held = g.S.TermStore.held c.args.store.now in
    let G = scope_in held.tree c.args.scope.now in
    subst (AnswersIn (verdict_in held.tree) c.deny.result) (sym (universe-at-top G c.args.i (omega (arith, c.if-i-lt-TOP.false))))
    (gives-answers (verdict_in held.tree) c.deny.result (denied G LevelTooHigh) c.deny.ensures.answer)

pub returns-else-i-lt-TOP-clause-adds : goal.returns-else-i-lt-TOP-clause-adds
returns-else-i-lt-TOP-clause-adds g c =
    let held = g.S.TermStore.held c.args.store.now in
    adds-none (IsLeafPart (scope_in held.tree c.args.scope.now) (tree.Sort c.args.i)) held

pub returns-else-i-lt-TOP-clause-full : goal.returns-else-i-lt-TOP-clause-full
returns-else-i-lt-TOP-clause-full g c =
    let held = g.S.TermStore.held c.args.store.now in
    let G = scope_in held.tree c.args.scope.now in
    gives-room (verdict_in held.tree) c.deny.result (denied G LevelTooHigh) (IsLeafPart G (tree.Sort c.args.i)) held c.deny.ensures.answer
    (denied-room G LevelTooHigh)
