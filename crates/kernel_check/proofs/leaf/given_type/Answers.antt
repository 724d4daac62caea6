use Rattle.std.proofs.Common.{◌≤◌, sym, subst}
use Rattle.core_terms.specs.Answers.{Gives}
use Rattle.term_pool.specs.Nodes.{says}
use Rattle.kernel_check.specs.Checking.{given_type}
use Rattle.kernel_check.specs.Scopes.{scope_in}
use Rattle.kernel_check.specs.Symbols.{symbol_type}
use Rattle.kernel_check.specs.Verdicts.{verdict_in}
use Rattle.kernel_check.proofs.LeafTypes.{given-high, given-of}
use Rattle.kernel_check.proofs.leaf.given_type.Goals as goal

pub height-low-requires : goal.height-low-requires
height-low-requires g c =
    let held = g.S.TermStore.held c.args.store.now in
    (c.in-Of.ensures held.tree held c.requires.ids).0

pub returns-in-Of-clause-answer : goal.returns-in-Of-clause-answer
returns-in-Of-clause-answer g c =
    let held = g.S.TermStore.held c.args.store.now in
    given-of held (scope_in held.tree c.args.scope.now) (symbol_type c.args.sig.now (says held.tree c.args.symbol)) c.in-Of.ty
    (c.in-Of.ensures held.tree held c.requires.ids) (subst (λ k. k ≤ 2000) c.height-low.ensures.height c.height-low.ensures.low)

pub returns-in-Of-clause-live : goal.returns-in-Of-clause-live
returns-in-Of-clause-live g c =
    let held = g.S.TermStore.held c.args.store.now in
    (c.in-Of.ensures held.tree held c.requires.ids).0

pub returns-in-TooHigh-clause-answer : goal.returns-in-TooHigh-clause-answer
returns-in-TooHigh-clause-answer g c =
    let held = g.S.TermStore.held c.args.store.now in
    λ memory.
    given-high held (scope_in held.tree c.args.scope.now) (symbol_type c.args.sig.now (says held.tree c.args.symbol))
    (c.in-TooHigh.ensures held.tree held c.requires.ids)

pub returns-in-Unknown-clause-answer : goal.returns-in-Unknown-clause-answer
returns-in-Unknown-clause-answer g c =
    let held = g.S.TermStore.held c.args.store.now in
    subst (λ o. Gives (verdict_in held.tree) c.deny.result (given_type (scope_in held.tree c.args.scope.now) o))
    (sym (c.in-Unknown.ensures held.tree held c.requires.ids)) c.deny.ensures.answer
