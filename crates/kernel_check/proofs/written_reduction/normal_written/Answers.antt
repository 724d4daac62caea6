use Rattle.std.proofs.Common.{Ok, [], ◌∷◌, sym, ap, ◌∙◌, subst}
use Rattle.core_sig.proofs.StandingEntries.{stands-stay}
use Rattle.core_terms.specs.Meanings.{tree_of}
use Rattle.kernel_reduce.specs.Reduction.{nesting, normal_of}
use Rattle.kernel_reduce.specs.WellScoped.{CanReduce}
use Rattle.kernel_reduce.proofs.HighTerms.{normal-high}
use Rattle.store_reduce.specs.Runs.{RunsIn}
use Rattle.kernel_check.proofs.Rooms.{export-runs, import-refused, refused-runs}
use Rattle.kernel_check.proofs.written_reduction.normal_written.Goals as goal

pub normal_in-requires-clause-ids : goal.normal_in-requires-clause-ids
normal_in-requires-clause-ids g c =
    stands-stay (g.S.TermStore.held c.args.store.now) (g.S.TermStore.held c.import_in.new.store) c.in_ok-id.ensures.extends c.args.sig.now.entries c.args.ids.now c.requires.ids

pub normal_in-requires-clause-asked : goal.normal_in-requires-clause-asked
normal_in-requires-clause-asked g c =
    subst (λ t. CanReduce c.args.sig.now (t ∷ [])) (sym c.in_ok-id.ensures.makes.1) c.requires.asked

pub returns-in_err-id-clause-answer : goal.returns-in_err-id-clause-answer
returns-in_err-id-clause-answer g c =
    refused-runs tree_of c.from_residual.result c.args.units.now.left (normal_of c.args.sig.now c.args.delta nesting (tree_of c.args.t.now) c.args.units.now.left) c.from_residual.ensures.1
    (λ memory room. import-refused (tree_of c.args.t.now) c.args.units.now.left _ (c.in_err-id.ensures.makes memory room) (normal-high c.args.sig.now c.args.delta 2000 (tree_of c.args.t.now) c.args.units.now.left))

pub returns-in_err-form-clause-answer : goal.returns-in_err-form-clause-answer
returns-in_err-form-clause-answer g c =
    refused-runs tree_of c.from_residual-in_err-form.result c.normal_in.new.units.left (normal_of c.args.sig.now c.args.delta nesting (tree_of c.args.t.now) c.args.units.now.left) c.from_residual-in_err-form.ensures.1
    (λ memory room. c.in_err-form.ensures.answer memory room ∙ ap (λ t. normal_of c.args.sig.now c.args.delta nesting t c.args.units.now.left) c.in_ok-id.ensures.makes.1)

pub returns-clause-answer : goal.returns-clause-answer
returns-clause-answer g c =
    let new = g.S.TermStore.held c.normal_in.new.store in
    export-runs new.tree tree_of c.export_in.result c.in_ok-form.form c.normal_in.new.units.left (normal_of c.args.sig.now c.args.delta nesting (tree_of c.args.t.now) c.args.units.now.left)
    (subst (λ t. RunsIn new.tree (Ok c.in_ok-form.form) c.normal_in.new.units.left (normal_of c.args.sig.now c.args.delta nesting t c.args.units.now.left)) c.in_ok-id.ensures.makes.1 c.in_ok-form.ensures.answer)
    c.export_in.ensures
