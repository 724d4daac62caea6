use Rattle.std.proofs.Common.{◌<◌, sym, subst, subst₂}
use Rattle.theory.specs.Terms.{height}
use Rattle.core_sig.specs.EntryIds.{IsIdOf, IsIdWhereLow}
use Rattle.core_sig.proofs.StandingEntries.{stands-stay}
use Rattle.core_terms.specs.Meanings.{tree_of, verdict_of}
use Rattle.kernel_reduce.specs.Reduction.{nesting}
use Rattle.store_reduce.specs.Runs.{RunsIn}
use Rattle.kernel_check.specs.Checking.{check_of}
use Rattle.kernel_check.specs.Scopes.{CanCheckIn, scope_in}
use Rattle.kernel_check.proofs.LiveScopes.{can-kept, scope-kept}
use Rattle.kernel_check.proofs.written_checks.check_id.Goals as goal

pub check_low-requires-clause-ids : goal.check_low-requires-clause-ids
check_low-requires-clause-ids g c = stands-stay (g.S.TermStore.held c.args.store.now) (g.S.TermStore.held c.import_where_low.new.store) c.in_ok-wanted.ensures.extends c.args.sig.now.entries c.args.ids.now c.requires.ids

pub check_low-requires-clause-term : goal.check_low-requires-clause-term
check_low-requires-clause-term g c =
    let old = g.S.TermStore.held c.args.store.now in
    let mid = g.S.TermStore.held c.import_where_low.new.store in
    let e = c.in_ok-wanted.ensures.extends in
    subst (CanCheckIn mid c.args.sig.now nesting c.args.scope.now) (sym (e.trees c.args.t c.requires.t_live)) (can-kept old mid c.args.sig.now nesting c.args.scope.now (old.tree c.args.t) e c.requires.term)

pub check_low-requires-clause-wanted : goal.check_low-requires-clause-wanted
check_low-requires-clause-wanted g c =
    let old = g.S.TermStore.held c.args.store.now in
    let mid = g.S.TermStore.held c.import_where_low.new.store in
    let e = c.in_ok-wanted.ensures.extends in
    let id : IsIdOf mid c.in-Some.wanted (tree_of c.args.wanted.now) = subst (λ o. IsIdWhereLow mid o (tree_of c.args.wanted.now)) c.in-Some.is c.in_ok-wanted.ensures.id in
    subst (CanCheckIn mid c.args.sig.now nesting c.args.scope.now) (sym id.1) (can-kept old mid c.args.sig.now nesting c.args.scope.now (tree_of c.args.wanted.now) e c.requires.wanted)

pub check_high-requires-clause-ids : goal.check_high-requires-clause-ids
check_high-requires-clause-ids g c = stands-stay (g.S.TermStore.held c.args.store.now) (g.S.TermStore.held c.import_where_low.new.store) c.in_ok-wanted.ensures.extends c.args.sig.now.entries c.args.ids.now c.requires.ids

pub check_high-requires-clause-can : goal.check_high-requires-clause-can
check_high-requires-clause-can g c =
    let old = g.S.TermStore.held c.args.store.now in
    let mid = g.S.TermStore.held c.import_where_low.new.store in
    let e = c.in_ok-wanted.ensures.extends in
    subst (CanCheckIn mid c.args.sig.now nesting c.args.scope.now) (sym (e.trees c.args.t c.requires.t_live)) (can-kept old mid c.args.sig.now nesting c.args.scope.now (old.tree c.args.t) e c.requires.term)

pub returns-in-Some-clause-answer : goal.returns-in-Some-clause-answer
returns-in-Some-clause-answer g c =
    let old = g.S.TermStore.held c.args.store.now in
    let mid = g.S.TermStore.held c.import_where_low.new.store in
    let e = c.in_ok-wanted.ensures.extends in
    let id : IsIdOf mid c.in-Some.wanted (tree_of c.args.wanted.now) = subst (λ o. IsIdWhereLow mid o (tree_of c.args.wanted.now)) c.in-Some.is c.in_ok-wanted.ensures.id in
    subst (λ w. RunsIn verdict_of c.check_low.result c.check_low.new.units.left (check_of c.args.sig.now nesting (scope_in old.tree c.args.scope.now) (old.tree c.args.t) w c.args.units.now.left)) id.1
    (subst₂ (λ G t. RunsIn verdict_of c.check_low.result c.check_low.new.units.left (check_of c.args.sig.now nesting G t (mid.tree c.in-Some.wanted) c.args.units.now.left))
    (scope-kept old mid c.args.scope.now e c.requires.term.context_live) (e.trees c.args.t c.requires.t_live) c.check_low.ensures.answer)

pub returns-in-None-clause-answer : goal.returns-in-None-clause-answer
returns-in-None-clause-answer g c =
    let old = g.S.TermStore.held c.args.store.now in
    let mid = g.S.TermStore.held c.import_where_low.new.store in
    let e = c.in_ok-wanted.ensures.extends in
    let high : 2000 < height (tree_of c.args.wanted.now) = subst (λ o. IsIdWhereLow mid o (tree_of c.args.wanted.now)) c.in-None.is c.in_ok-wanted.ensures.id in
    subst₂ (λ G t. RunsIn verdict_of c.check_high.result c.check_high.new.units.left (check_of c.args.sig.now nesting G t (tree_of c.args.wanted.now) c.args.units.now.left))
    (scope-kept old mid c.args.scope.now e c.requires.term.context_live) (e.trees c.args.t c.requires.t_live) (c.check_high.ensures.answer (tree_of c.args.wanted.now) high)
