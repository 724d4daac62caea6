use Rattle.std.proofs.Common.{Ok, map, sym, ap, ap₂, ◌∙◌, subst as transport}
use Rattle.theory.specs.Terms.{Term}
use Rattle.theory.specs.Terms.Term.{App}
use Rattle.core_terms.specs.Answers.{Gives}
use Rattle.core_terms.specs.Meanings.{tree_of}
use Rattle.core_sig.specs.Shapes.{argument_shape}
use Rattle.run_terms.specs.cycle_terms.SearchMeanings.{search_of}
use Rattle.run_terms.proofs.cycle_terms.Along.{component-last}
use Rattle.run_terms.proofs.cycle_terms.components.+component.Goals as goal

pub component_along-returns-else-is_below_along : goal.component_along-returns-else-is_below_along
component_along-returns-else-is_below_along t c =
    let P : Term → Type 0 = λ u. Gives tree_of c.component_at.result (Ok u) in
    transport P
    (component-last (search_of c.args.c.now) (tree_of c.args.whole.now) (map argument_shape c.args.args.now) c.args.at
    (tree_of c.deref.result.now) (tree_of c.deref-else-is_below_along.result.now) _ (tree_of c.args.tuple) _
    (ap tree_of c.in-App.is ∙ ap₂ (λ g r. App (tree_of g) (tree_of r)) (sym c.deref.ensures) (sym c.deref-else-is_below_along.ensures))
    c.if-at-gt0.true c.is_below_along.ensures c.if-is_below_along.false)
    c.component_at.ensures
