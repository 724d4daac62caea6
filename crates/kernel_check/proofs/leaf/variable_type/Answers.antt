use Rattle.std.proofs.Common.{◌+◌, ◌≤◌, slice_get, sym, subst, arith}
use Rattle.theory.specs.Terms as tree
use Rattle.core_terms.specs.Bounds.{most_free}
use Rattle.core_terms.specs.Verdicts.{NoSuchInstance}
use Rattle.store_reduce.proofs.Adding.{adds-none}
use Rattle.kernel_check.specs.Asked.{IsLeafPart}
use Rattle.kernel_check.specs.Checking.{denied, variable_type}
use Rattle.kernel_check.specs.Scopes.{scope_in}
use Rattle.kernel_check.specs.Verdicts.{AnswersIn, verdict_in}
use Rattle.kernel_check.proofs.LeafTypes.{denied-room, gives-room, variable-adds, variable-full, variable-high}
use Rattle.kernel_check.proofs.StoredVerdicts.{gives-answers}
use Rattle.kernel_check.proofs.leaf.variable_type.Goals as goal

pub overflow_add-n : goal.overflow_add-n
overflow_add-n g c =
    let held = g.S.TermStore.held c.args.store.now in
    let few : tree.free_of (held.tree c.in-Of.ty) + (c.args.n + 1) ≤ most_free =
    c.requires.few (held.tree c.in-Of.ty) (c.in-Of.ensures held c.requires.context).1 in
    omega arith

pub lifted_type-requires-clause-live : goal.lifted_type-requires-clause-live
lifted_type-requires-clause-live g c = (c.in-Of.ensures (g.S.TermStore.held c.args.store.now) c.requires.context).0

pub lifted_type-requires-clause-few : goal.lifted_type-requires-clause-few
lifted_type-requires-clause-few g c =
    let held = g.S.TermStore.held c.args.store.now in
    c.requires.few (held.tree c.in-Of.ty) (c.in-Of.ensures held c.requires.context).1

pub returns-in-Of-clause-answer : goal.returns-in-Of-clause-answer
returns-in-Of-clause-answer g c =
    let held = g.S.TermStore.held c.args.store.now in
    let new = g.S.TermStore.held c.lifted_type.new.store in
    subst (λ o. AnswersIn (verdict_in new.tree) c.lifted_type.result (variable_type (scope_in held.tree c.args.scope.now) c.args.n o))
    (sym (c.in-Of.ensures held c.requires.context).1) c.lifted_type.ensures.answer

pub returns-in-Of-clause-adds : goal.returns-in-Of-clause-adds
returns-in-Of-clause-adds g c =
    let held = g.S.TermStore.held c.args.store.now in
    variable-adds (scope_in held.tree c.args.scope.now) c.args.n (held.tree c.in-Of.ty) (c.in-Of.ensures held c.requires.context).1 held
    (g.S.TermStore.held c.lifted_type.new.store) c.lifted_type.ensures.adds

pub returns-in-Of-clause-full : goal.returns-in-Of-clause-full
returns-in-Of-clause-full g c =
    let held = g.S.TermStore.held c.args.store.now in
    variable-full (scope_in held.tree c.args.scope.now) c.args.n (held.tree c.in-Of.ty) (c.in-Of.ensures held c.requires.context).1
    (g.S.TermStore.held c.lifted_type.new.store) c.lifted_type.result c.lifted_type.ensures.full

pub returns-in-TooHigh-clause-answer : goal.returns-in-TooHigh-clause-answer
returns-in-TooHigh-clause-answer g c =
    let held = g.S.TermStore.held c.args.store.now in
    let G = scope_in held.tree c.args.scope.now in
    λ memory full.
    let found = c.in-TooHigh.ensures held c.requires.context in
    variable-high G c.args.n (slice_get G c.args.n) found.0 found.1.0 found.1.1

pub returns-in-TooHigh-clause-adds : goal.returns-in-TooHigh-clause-adds
returns-in-TooHigh-clause-adds g c =
    let held = g.S.TermStore.held c.args.store.now in
    adds-none (IsLeafPart (scope_in held.tree c.args.scope.now) (tree.Var c.args.n)) held

pub returns-in-Unknown-clause-answer : goal.returns-in-Unknown-clause-answer
returns-in-Unknown-clause-answer g c =
    let held = g.S.TermStore.held c.args.store.now in
    let G = scope_in held.tree c.args.scope.now in
    subst (λ o. AnswersIn (verdict_in held.tree) c.deny.result (variable_type G c.args.n o)) (sym (c.in-Unknown.ensures held c.requires.context))
    (gives-answers (verdict_in held.tree) c.deny.result (denied G NoSuchInstance) c.deny.ensures.answer)

pub returns-in-Unknown-clause-adds : goal.returns-in-Unknown-clause-adds
returns-in-Unknown-clause-adds g c =
    let held = g.S.TermStore.held c.args.store.now in
    adds-none (IsLeafPart (scope_in held.tree c.args.scope.now) (tree.Var c.args.n)) held

pub returns-in-Unknown-clause-full : goal.returns-in-Unknown-clause-full
returns-in-Unknown-clause-full g c =
    let held = g.S.TermStore.held c.args.store.now in
    let G = scope_in held.tree c.args.scope.now in
    gives-room (verdict_in held.tree) c.deny.result (denied G NoSuchInstance) (IsLeafPart G (tree.Var c.args.n)) held c.deny.ensures.answer
    (denied-room G NoSuchInstance)
