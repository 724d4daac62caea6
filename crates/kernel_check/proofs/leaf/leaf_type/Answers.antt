use Rattle.std.proofs.Common.{sym, subst}
use Rattle.term_pool.specs.Nodes.{says}
use Rattle.store_reduce.specs.Additions.{AddsOnly, IsFullOf}
use Rattle.store_reduce.proofs.Adding.{adds-none}
use Rattle.kernel_check.specs.Asked.{IsLeafPart}
use Rattle.kernel_check.specs.Checking.{given_type, leaf_type}
use Rattle.kernel_check.specs.Scopes.{CanCheckIn, scope_in}
use Rattle.kernel_check.specs.Symbols.{symbol_type}
use Rattle.kernel_check.specs.Verdicts.{AnswersIn, verdict_in}
use Rattle.kernel_check.proofs.LeafTypes.{gives-room, given-room, leaf-symbol, variable-few}
use Rattle.kernel_check.proofs.StoredVerdicts.{gives-answers}
use Rattle.kernel_check.proofs.leaf.leaf_type.Goals as goal

pub variable_type-requires-clause-few : goal.variable_type-requires-clause-few
variable_type-requires-clause-few g c =
    let held = g.S.TermStore.held c.args.store.now in
    variable-few held c.args.sig.now c.args.scope.now c.in-Var.n
    (subst (λ leaf. CanCheckIn held c.args.sig.now 0 c.args.scope.now (says held.tree leaf)) c.in-Var.is c.requires.can)

pub returns-in-Var-clause-answer : goal.returns-in-Var-clause-answer
returns-in-Var-clause-answer g c =
    let held = g.S.TermStore.held c.args.store.now in
    let new = g.S.TermStore.held c.variable_type.new.store in
    subst (λ leaf. AnswersIn (verdict_in new.tree) c.variable_type.result (leaf_type c.args.sig.now (scope_in held.tree c.args.scope.now) (says held.tree leaf)))
    (sym c.in-Var.is) c.variable_type.ensures.answer

pub returns-in-Var-clause-adds : goal.returns-in-Var-clause-adds
returns-in-Var-clause-adds g c =
    let held = g.S.TermStore.held c.args.store.now in
    let new = g.S.TermStore.held c.variable_type.new.store in
    subst (λ leaf. AddsOnly (IsLeafPart (scope_in held.tree c.args.scope.now) (says held.tree leaf)) held new) (sym c.in-Var.is) c.variable_type.ensures.adds

pub returns-in-Var-clause-full : goal.returns-in-Var-clause-full
returns-in-Var-clause-full g c =
    let held = g.S.TermStore.held c.args.store.now in
    let new = g.S.TermStore.held c.variable_type.new.store in
    subst (λ leaf. IsFullOf (IsLeafPart (scope_in held.tree c.args.scope.now) (says held.tree leaf)) new c.variable_type.result) (sym c.in-Var.is)
    c.variable_type.ensures.full

pub returns-in-Sort-clause-answer : goal.returns-in-Sort-clause-answer
returns-in-Sort-clause-answer g c =
    let held = g.S.TermStore.held c.args.store.now in
    let new = g.S.TermStore.held c.universe_type.new.store in
    subst (λ leaf. AnswersIn (verdict_in new.tree) c.universe_type.result (leaf_type c.args.sig.now (scope_in held.tree c.args.scope.now) (says held.tree leaf)))
    (sym c.in-Sort.is) c.universe_type.ensures.answer

pub returns-in-Sort-clause-adds : goal.returns-in-Sort-clause-adds
returns-in-Sort-clause-adds g c =
    let held = g.S.TermStore.held c.args.store.now in
    let new = g.S.TermStore.held c.universe_type.new.store in
    subst (λ leaf. AddsOnly (IsLeafPart (scope_in held.tree c.args.scope.now) (says held.tree leaf)) held new) (sym c.in-Sort.is) c.universe_type.ensures.adds

pub returns-in-Sort-clause-full : goal.returns-in-Sort-clause-full
returns-in-Sort-clause-full g c =
    let held = g.S.TermStore.held c.args.store.now in
    let new = g.S.TermStore.held c.universe_type.new.store in
    subst (λ leaf. IsFullOf (IsLeafPart (scope_in held.tree c.args.scope.now) (says held.tree leaf)) new c.universe_type.result) (sym c.in-Sort.is)
    c.universe_type.ensures.full

pub returns-in_default-clause-answer : goal.returns-in_default-clause-answer
returns-in_default-clause-answer g c =
    let held = g.S.TermStore.held c.args.store.now in
    let G = scope_in held.tree c.args.scope.now in
    subst (AnswersIn (verdict_in held.tree) c.given_type.result)
    (sym (leaf-symbol held.tree c.args.sig.now G c.args.leaf c.in_default.not-Var c.in_default.not-Sort))
    (gives-answers (verdict_in held.tree) c.given_type.result (given_type G (symbol_type c.args.sig.now (says held.tree c.args.leaf))) c.given_type.ensures.answer)

pub returns-in_default-clause-adds : goal.returns-in_default-clause-adds
returns-in_default-clause-adds g c =
    let held = g.S.TermStore.held c.args.store.now in
    adds-none (IsLeafPart (scope_in held.tree c.args.scope.now) (says held.tree c.args.leaf)) held

pub returns-in_default-clause-full : goal.returns-in_default-clause-full
returns-in_default-clause-full g c =
    let held = g.S.TermStore.held c.args.store.now in
    let G = scope_in held.tree c.args.scope.now in
    gives-room (verdict_in held.tree) c.given_type.result (given_type G (symbol_type c.args.sig.now (says held.tree c.args.leaf)))
    (IsLeafPart G (says held.tree c.args.leaf)) held c.given_type.ensures.answer (given-room G (symbol_type c.args.sig.now (says held.tree c.args.leaf)))
