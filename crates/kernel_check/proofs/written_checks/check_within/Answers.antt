use Rattle.std.proofs.Common.{sym, subst, subst₂}
use Rattle.core_sig.proofs.StandingEntries.{stands-stay}
use Rattle.core_terms.specs.Meanings.{tree_of, verdict_of}
use Rattle.kernel_reduce.specs.Reduction.{nesting}
use Rattle.store_reduce.specs.Runs.{RunsIn}
use Rattle.kernel_check.specs.Checking.{check_of}
use Rattle.kernel_check.specs.Scopes.{CanCheckIn, scope_in}
use Rattle.kernel_check.proofs.HighTerms.{check-high}
use Rattle.kernel_check.proofs.LiveScopes.{can-kept, scope-kept}
use Rattle.kernel_check.proofs.Rooms.{import-refused, refused-runs}
use Rattle.kernel_check.proofs.written_checks.check_within.Goals as goal

pub check_id-requires-clause-ids : goal.check_id-requires-clause-ids
check_id-requires-clause-ids g c =
    stands-stay (g.S.TermStore.held c.args.store.now) (g.S.TermStore.held c.import_in.new.store) c.in_ok-id.ensures.extends c.args.sig.now.entries c.args.ids.now c.requires.ids

pub check_id-requires-clause-term : goal.check_id-requires-clause-term
check_id-requires-clause-term g c =
    let mid = g.S.TermStore.held c.import_in.new.store in
    subst (CanCheckIn mid c.args.sig.now nesting c.args.scope.now) (sym c.in_ok-id.ensures.makes.1)
    (can-kept (g.S.TermStore.held c.args.store.now) mid c.args.sig.now nesting c.args.scope.now (tree_of c.args.t.now) c.in_ok-id.ensures.extends c.requires.term)

pub check_id-requires-clause-wanted : goal.check_id-requires-clause-wanted
check_id-requires-clause-wanted g c =
    can-kept (g.S.TermStore.held c.args.store.now) (g.S.TermStore.held c.import_in.new.store) c.args.sig.now nesting c.args.scope.now (tree_of c.args.wanted.now) c.in_ok-id.ensures.extends c.requires.wanted

pub returns-in_err-id-clause-answer : goal.returns-in_err-id-clause-answer
returns-in_err-id-clause-answer g c =
    refused-runs verdict_of c.from_residual.result c.args.units.now.left (check_of c.args.sig.now nesting (scope_in (g.S.TermStore.held c.args.store.now).tree c.args.scope.now) (tree_of c.args.t.now) (tree_of c.args.wanted.now) c.args.units.now.left) c.from_residual.ensures.1
    (λ memory room. import-refused (tree_of c.args.t.now) c.args.units.now.left _ (c.in_err-id.ensures.makes memory room) (check-high c.args.sig.now 2000 (scope_in (g.S.TermStore.held c.args.store.now).tree c.args.scope.now) (tree_of c.args.t.now) (tree_of c.args.wanted.now) c.args.units.now.left))

pub returns-clause-answer : goal.returns-clause-answer
returns-clause-answer g c =
    subst₂ (λ G t. RunsIn verdict_of c.check_id.result c.check_id.new.units.left (check_of c.args.sig.now nesting G t (tree_of c.args.wanted.now) c.args.units.now.left))
    (scope-kept (g.S.TermStore.held c.args.store.now) (g.S.TermStore.held c.import_in.new.store) c.args.scope.now c.in_ok-id.ensures.extends c.requires.term.context_live) c.in_ok-id.ensures.makes.1 c.check_id.ensures.answer
