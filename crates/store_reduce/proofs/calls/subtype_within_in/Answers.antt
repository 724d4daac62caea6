use Rattle.std.proofs.Common.{IsTrue, ◌-◌, ◌≤◌, arith}
use Rattle.core_terms.specs.Bounds.{most_inner_variables}
use Rattle.theory.specs.Conversion.{Below}
use Rattle.theory.proofs.ScopedTerms.{scoped_over_more}
use Rattle.kernel_reduce.specs.Reduction.{most_variables}
use Rattle.kernel_reduce.proofs.ComparisonLaws.{subtype-is_below}
use Rattle.store_reduce.proofs.StoreRuns.{runs_in-has}
use Rattle.store_reduce.proofs.calls.subtype_within_in.Goals as goal

pub order_in-requires-clause-a : goal.order_in-requires-clause-a
order_in-requires-clause-a g c =
    let room : most_variables ≤ most_inner_variables - c.args.room = omega (arith, c.requires.room) in
    scoped_over_more c.args.sig.now most_variables (most_inner_variables - c.args.room) ((g.S.TermStore.held c.args.store.now).tree c.args.a) room c.requires.asked.terms.0

pub order_in-requires-clause-b : goal.order_in-requires-clause-b
order_in-requires-clause-b g c =
    let room : most_variables ≤ most_inner_variables - c.args.room = omega (arith, c.requires.room) in
    scoped_over_more c.args.sig.now most_variables (most_inner_variables - c.args.room) ((g.S.TermStore.held c.args.store.now).tree c.args.b) room c.requires.asked.terms.1.0

pub returns-clause-sound : goal.returns-clause-sound
returns-clause-sound g c =
    let old = g.S.TermStore.held c.args.store.now in
    runs_in-has (λ holds. holds) (λ holds. IsTrue holds → Below c.args.sig.now (old.tree c.args.a) (old.tree c.args.b)) _ _ _ c.order_in.ensures.answer
    (subtype-is_below c.args.sig.now c.args.room (old.tree c.args.a) (old.tree c.args.b) c.args.units.now.left)
