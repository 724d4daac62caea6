use Rattle.std.proofs.Common.{subst as transport}
use Rattle.store_reduce.specs.Runs.{RunsIn}
use Rattle.kernel_check.specs.Scopes.{scope_in}
use Rattle.kernel_check.specs.Verdicts.{verdict_in}
use Rattle.kernel_check.proofs.CheckedAnswers.{compared-then}
use Rattle.kernel_check.proofs.LiveScopes.{live-kept, scope-kept}
use Rattle.kernel_check.proofs.StoredVerdicts.{gives-runs, compared-full}
use Rattle.kernel_check.proofs.types.compare.Goals as goal

pub compared-requires-clause-context : goal.compared-requires-clause-context
compared-requires-clause-context g c = live-kept _ _ c.args.scope.now c.in_ok-holds.ensures.extends c.requires.context

pub returns-clause-answer : goal.returns-clause-answer
returns-clause-answer g c =
    let old = g.S.TermStore.held c.args.store.now in
    let mid = g.S.TermStore.held c.subtype_within_in.new.store in
    let e = c.in_ok-holds.ensures.extends in
    let K = scope_in mid.tree c.args.scope.now in
    transport (RunsIn (verdict_in mid.tree) c.compared.result c.subtype_within_in.new.units.left)
    (compared-then c.args.sig.now (scope_in old.tree c.args.scope.now) K (scope-kept old mid c.args.scope.now e c.requires.context) c.args.room
    (old.tree c.args.found) (old.tree c.args.wanted) (mid.tree c.args.found) (mid.tree c.args.wanted) c.in_ok-holds.holds c.args.units.now.left _
    (e.trees c.args.found c.requires.found_live) (e.trees c.args.wanted c.requires.wanted_live) c.in_ok-holds.ensures.answer)
    (gives-runs (verdict_in mid.tree) c.compared.result _ _ c.compared.ensures.answer)

pub returns-clause-full : goal.returns-clause-full
returns-clause-full g c =
    let mid = g.S.TermStore.held c.subtype_within_in.new.store in
    compared-full _ mid (verdict_in mid.tree) c.compared.result (scope_in mid.tree c.args.scope.now) (mid.tree c.args.found) (mid.tree c.args.wanted) c.in_ok-holds.holds
    c.compared.ensures.answer
