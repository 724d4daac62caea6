use Rattle.std.proofs.Common.{sym, ap, ap₂, ◌∙◌}
use Rattle.core_terms.specs.Meanings.{tree_of}
use Rattle.core_sig.specs.Shapes.{shape_of}
use Rattle.theory.specs.Terms.Term.{App}
use Rattle.case_below_gen.proofs.AlongSpines.{part-first, part-last}
use Rattle.case_below_gen.proofs.strict_parts.+has_part.Goals as goal

pub has_part_along-returns-then-has_part_along : goal.has_part_along-returns-then-has_part_along
has_part_along-returns-then-has_part_along t c =
    part-first _ (shape_of c.args.f.now) _ _ c.args.at (tree_of c.deref.result.now) (tree_of c.in-App.r.value) _ _
    (ap tree_of c.in-App.is ∙ ap (λ g. App (tree_of g) (tree_of c.in-App.r.value)) (sym c.deref.ensures)) c.if-at-gt0.true c.has_part_along.ensures c.if-has_part_along.true

pub has_part_along-returns-else-has_part_along : goal.has_part_along-returns-else-has_part_along
has_part_along-returns-else-has_part_along t c =
    part-last _ (shape_of c.args.f.now) _ _ c.args.at (tree_of c.deref.result.now) (tree_of c.deref-else-has_part_along.result.now) _ _ _ _
    (ap tree_of c.in-App.is ∙ ap₂ (λ g r. App (tree_of g) (tree_of r)) (sym c.deref.ensures) (sym c.deref-else-has_part_along.ensures)) c.if-at-gt0.true c.has_part_along.ensures c.if-has_part_along.false
    c.argument_at.ensures c.is_at.ensures
