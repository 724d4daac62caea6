use Rattle.std.proofs.Common.{sym, ap, ap₂, ◌∙◌}
use Rattle.core_terms.specs.Meanings.{tree_of}
use Rattle.theory.specs.Terms.Term.{App}
use Rattle.run_terms.specs.cycle_terms.SearchMeanings.{search_of}
use Rattle.run_terms.proofs.cycle_terms.Along.{below-first, below-last}
use Rattle.run_terms.proofs.cycle_terms.searching.+is_below.Goals as goal

pub is_below_along-returns-then-is_below_along : goal.is_below_along-returns-then-is_below_along
is_below_along-returns-then-is_below_along t c =
    below-first (search_of c.args.c.now) _ c.args.at (tree_of c.deref.result.now) (tree_of c.in-App.r.value) _ _
    (ap tree_of c.in-App.is ∙ ap (λ g. App (tree_of g) (tree_of c.in-App.r.value)) (sym c.deref.ensures)) c.if-at-gt0.true c.is_below_along.ensures c.if-is_below_along.true

pub is_below_along-returns-else-is_below_along : goal.is_below_along-returns-else-is_below_along
is_below_along-returns-else-is_below_along t c =
    below-last (search_of c.args.c.now) _ c.args.at (tree_of c.deref.result.now) (tree_of c.deref-else-is_below_along.result.now) _ _ _ _
    (ap tree_of c.in-App.is ∙ ap₂ (λ g r. App (tree_of g) (tree_of r)) (sym c.deref.ensures) (sym c.deref-else-is_below_along.ensures)) c.if-at-gt0.true c.is_below_along.ensures c.if-is_below_along.false
    c.argument_at.ensures c.is_there.ensures
