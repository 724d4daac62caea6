use Rattle.std.proofs.Common.{◌≡◌, [], ◌∷◌, sym, ◌∙◌, subst₂}
use Rattle.core_sig.proofs.StandingEntries.{stands-stay}
use Rattle.core_terms.specs.Meanings.{tree_of}
use Rattle.kernel_reduce.specs.Comparison.{subtype_of}
use Rattle.kernel_reduce.specs.Reduction.{nesting}
use Rattle.kernel_reduce.specs.WellScoped.{CanReduce}
use Rattle.kernel_reduce.proofs.HighTerms.{subtype-high_first, subtype-high_second}
use Rattle.store_reduce.specs.Runs.{RunsIn}
use Rattle.kernel_check.proofs.Rooms.{import-refused, refused-runs}
use Rattle.kernel_check.proofs.written_reduction.subtype_written.Goals as goal

pub subtype_in-requires-clause-ids : goal.subtype_in-requires-clause-ids
subtype_in-requires-clause-ids g c =
    let mid = g.S.TermStore.held c.import_in.new.store in
    stands-stay mid (g.S.TermStore.held c.import_in-2.new.store) c.in_ok-second.ensures.extends c.args.sig.now.entries c.args.ids.now
    (stands-stay (g.S.TermStore.held c.args.store.now) mid c.in_ok-first.ensures.extends c.args.sig.now.entries c.args.ids.now c.requires.ids)

pub subtype_in-requires-clause-asked : goal.subtype_in-requires-clause-asked
subtype_in-requires-clause-asked g c =
    let first : (g.S.TermStore.held c.import_in-2.new.store).tree c.in_ok-first.first ≡ tree_of c.args.a.now =
    c.in_ok-second.ensures.extends.trees c.in_ok-first.first c.in_ok-first.ensures.makes.0 ∙ c.in_ok-first.ensures.makes.1 in
    subst₂ (λ a b. CanReduce c.args.sig.now (a ∷ b ∷ [])) (sym first) (sym c.in_ok-second.ensures.makes.1) c.requires.asked

pub returns-in_err-first-clause-answer : goal.returns-in_err-first-clause-answer
returns-in_err-first-clause-answer g c =
    refused-runs (λ holds. holds) c.from_residual.result c.args.units.now.left (subtype_of c.args.sig.now nesting (tree_of c.args.a.now) (tree_of c.args.b.now) c.args.units.now.left) c.from_residual.ensures.1
    (λ memory room. import-refused (tree_of c.args.a.now) c.args.units.now.left _ (c.in_err-first.ensures.makes memory room) (subtype-high_first c.args.sig.now 2000 (tree_of c.args.a.now) (tree_of c.args.b.now) c.args.units.now.left))

pub returns-in_err-second-clause-answer : goal.returns-in_err-second-clause-answer
returns-in_err-second-clause-answer g c =
    refused-runs (λ holds. holds) c.from_residual-in_err-second.result c.args.units.now.left (subtype_of c.args.sig.now nesting (tree_of c.args.a.now) (tree_of c.args.b.now) c.args.units.now.left) c.from_residual-in_err-second.ensures.1
    (λ memory room. import-refused (tree_of c.args.b.now) c.args.units.now.left _ (c.in_err-second.ensures.makes memory room) (subtype-high_second c.args.sig.now 2000 (tree_of c.args.a.now) (tree_of c.args.b.now) c.args.units.now.left))

pub returns-clause-answer : goal.returns-clause-answer
returns-clause-answer g c =
    let first : (g.S.TermStore.held c.import_in-2.new.store).tree c.in_ok-first.first ≡ tree_of c.args.a.now =
    c.in_ok-second.ensures.extends.trees c.in_ok-first.first c.in_ok-first.ensures.makes.0 ∙ c.in_ok-first.ensures.makes.1 in
    subst₂ (λ a b. RunsIn (λ holds. holds) c.subtype_in.result c.subtype_in.new.units.left (subtype_of c.args.sig.now nesting a b c.args.units.now.left)) first c.in_ok-second.ensures.makes.1 c.subtype_in.ensures.answer
