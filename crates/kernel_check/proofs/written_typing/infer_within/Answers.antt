use Rattle.std.proofs.Common.{Ok, sym, ap₂, ◌∙◌, subst, subst₂}
use Rattle.core_sig.proofs.StandingEntries.{stands-stay}
use Rattle.core_terms.specs.Meanings.{tree_of, verdict_of}
use Rattle.kernel_reduce.specs.Reduction.{nesting}
use Rattle.store_reduce.specs.Runs.{RunsIn}
use Rattle.kernel_check.specs.Checking.{infer_of}
use Rattle.kernel_check.specs.Scopes.{CanCheckIn, scope_in}
use Rattle.kernel_check.specs.Verdicts.{verdict_in}
use Rattle.kernel_check.proofs.HighTerms.{infer-high}
use Rattle.kernel_check.proofs.LiveScopes.{can-kept, scope-kept}
use Rattle.kernel_check.proofs.Rooms.{export-runs, import-refused, refused-runs}
use Rattle.kernel_check.proofs.written_typing.infer_within.Goals as goal

pub infer_at-requires-clause-ids : goal.infer_at-requires-clause-ids
infer_at-requires-clause-ids g c =
    stands-stay (g.S.TermStore.held c.args.store.now) (g.S.TermStore.held c.import_in.new.store) c.in_ok-id.ensures.extends c.args.sig.now.entries c.args.ids.now c.requires.ids

pub infer_at-requires-clause-can : goal.infer_at-requires-clause-can
infer_at-requires-clause-can g c =
    let mid = g.S.TermStore.held c.import_in.new.store in
    subst (CanCheckIn mid c.args.sig.now nesting c.args.scope.now) (sym c.in_ok-id.ensures.makes.1)
    (can-kept (g.S.TermStore.held c.args.store.now) mid c.args.sig.now nesting c.args.scope.now (tree_of c.args.t.now) c.in_ok-id.ensures.extends c.requires.can)

pub returns-in_err-id-clause-answer : goal.returns-in_err-id-clause-answer
returns-in_err-id-clause-answer g c =
    refused-runs verdict_of c.from_residual.result c.args.units.now.left (infer_of c.args.sig.now nesting (scope_in (g.S.TermStore.held c.args.store.now).tree c.args.scope.now) (tree_of c.args.t.now) c.args.units.now.left) c.from_residual.ensures.1
    (λ memory room. import-refused (tree_of c.args.t.now) c.args.units.now.left _ (c.in_err-id.ensures.makes memory room) (infer-high c.args.sig.now 2000 (scope_in (g.S.TermStore.held c.args.store.now).tree c.args.scope.now) (tree_of c.args.t.now) c.args.units.now.left))

pub returns-in_err-verdict-clause-answer : goal.returns-in_err-verdict-clause-answer
returns-in_err-verdict-clause-answer g c =
    refused-runs verdict_of c.from_residual-in_err-verdict.result c.infer_at.new.units.left (infer_of c.args.sig.now nesting (scope_in (g.S.TermStore.held c.args.store.now).tree c.args.scope.now) (tree_of c.args.t.now) c.args.units.now.left) c.from_residual-in_err-verdict.ensures.1
    (λ memory room. c.in_err-verdict.ensures.answer memory room
    ∙ ap₂ (λ G t. infer_of c.args.sig.now nesting G t c.args.units.now.left) (scope-kept (g.S.TermStore.held c.args.store.now) (g.S.TermStore.held c.import_in.new.store) c.args.scope.now c.in_ok-id.ensures.extends c.requires.can.context_live) c.in_ok-id.ensures.makes.1)

pub returns-clause-answer : goal.returns-clause-answer
returns-clause-answer g c =
    let new = g.S.TermStore.held c.infer_at.new.store in
    export-runs (verdict_in new.tree) verdict_of c.export_verdict.result c.in_ok-verdict.verdict c.infer_at.new.units.left (infer_of c.args.sig.now nesting (scope_in (g.S.TermStore.held c.args.store.now).tree c.args.scope.now) (tree_of c.args.t.now) c.args.units.now.left)
    (subst₂ (λ G t. RunsIn (verdict_in new.tree) (Ok c.in_ok-verdict.verdict) c.infer_at.new.units.left (infer_of c.args.sig.now nesting G t c.args.units.now.left))
    (scope-kept (g.S.TermStore.held c.args.store.now) (g.S.TermStore.held c.import_in.new.store) c.args.scope.now c.in_ok-id.ensures.extends c.requires.can.context_live) c.in_ok-id.ensures.makes.1 c.in_ok-verdict.ensures.answer)
    c.export_verdict.ensures
