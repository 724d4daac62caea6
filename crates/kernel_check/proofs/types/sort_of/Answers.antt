use Rattle.std.proofs.Common.{subst as transport}
use Rattle.store_reduce.specs.Runs.{RunsIn}
use Rattle.kernel_check.specs.Scopes.{scope_in}
use Rattle.kernel_check.specs.Verdicts.{verdict_in}
use Rattle.kernel_check.proofs.CheckedAnswers.{reduced-then}
use Rattle.kernel_check.proofs.LiveScopes.{live-kept, scope-kept}
use Rattle.kernel_check.proofs.StoredVerdicts.{gives-runs, sort_of-full}
use Rattle.kernel_check.proofs.types.sort_of.Goals as goal

pub reduced_sort-requires-clause-context : goal.reduced_sort-requires-clause-context
reduced_sort-requires-clause-context g c = live-kept _ _ c.args.scope.now c.in_ok-reduced.ensures.extends c.requires.context

pub returns-clause-answer : goal.returns-clause-answer
returns-clause-answer g c =
    let old = g.S.TermStore.held c.args.store.now in
    let mid = g.S.TermStore.held c.whnf_in.new.store in
    let K = scope_in mid.tree c.args.scope.now in
    transport (RunsIn (verdict_in mid.tree) c.reduced_sort.result c.whnf_in.new.units.left)
    (reduced-then c.args.sig.now (scope_in old.tree c.args.scope.now) K (scope-kept old mid c.args.scope.now c.in_ok-reduced.ensures.extends c.requires.context)
    (old.tree c.args.ty) (mid.tree c.in_ok-reduced.reduced) c.args.units.now.left _ c.in_ok-reduced.ensures.answer)
    (gives-runs (verdict_in mid.tree) c.reduced_sort.result _ _ c.reduced_sort.ensures.answer)

pub returns-clause-full : goal.returns-clause-full
returns-clause-full g c =
    let mid = g.S.TermStore.held c.whnf_in.new.store in
    sort_of-full _ mid (verdict_in mid.tree) c.reduced_sort.result (scope_in mid.tree c.args.scope.now) (mid.tree c.in_ok-reduced.reduced) c.reduced_sort.ensures.answer
