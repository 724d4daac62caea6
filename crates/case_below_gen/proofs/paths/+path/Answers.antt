use Rattle.std.proofs.Common.{◌≤◌, length, [], map, sym, ap, ap₂, ◌∙◌, subst, arith}
use Rattle.std.proofs.lemmas.List.{length-map}
use Rattle.std.proofs.lemmas.List.Elements.{All-nil}
use Rattle.std.proofs.lemmas.Option.{slice_get_within}
use Rattle.std.proofs.lemmas.Result.{err_from_is_err_and}
use Rattle.theory.specs.Terms.{free_of}
use Rattle.theory.specs.Terms.Term.{App}
use Rattle.core_terms.specs.Answers.{Makes}
use Rattle.core_terms.specs.Meanings.{tree_of}
use Rattle.core_sig.specs.Shapes.{argument_shape, constructor_shape, shape_of}
use Rattle.case_below_gen.specs.declared.sides.Side.TheVariants.{Second}
use Rattle.case_below_gen.specs.PathMeanings.{descent_of}
use Rattle.case_below_gen.specs.Paths.{path_of, step_to}
use Rattle.case_below_gen.proofs.AlongSpines.{path-last, at-further}
use Rattle.case_below_gen.proofs.PathBounds.{count-low, free-step, higher, path-keeps, spine-low, whole-counted}
use Rattle.case_below_gen.proofs.paths.+path.Goals as goal

pub path_along-returns-else-has_part_along : goal.path_along-returns-else-has_part_along
path_along-returns-else-has_part_along t c =
    subst (Makes c.path_at.result)
    (path-last (descent_of c.args.d.now) (tree_of c.args.whole.now) (map argument_shape c.args.args.now) c.args.at (tree_of c.deref.result.now) (tree_of c.deref-else-has_part_along.result.now) _ (tree_of c.args.below) _ (ap tree_of c.in-App.is ∙ ap₂ (λ g r. App (tree_of g) (tree_of r)) (sym c.deref.ensures) (sym c.deref-else-has_part_along.ensures)) c.if-at-gt0.true c.has_part_along.ensures c.if-has_part_along.false)
    c.path_at.ensures

pub path_at-path_end-requires-clause-count : goal.path_at-path_end-requires-clause-count
path_at-path_end-requires-clause-count t c =
    omega (arith, count-low (tree_of c.args.r.now) c.in-Recursive.count (tree_of c.args.d.now.part.now) (sym c.is_applied.ensures ∙ c.if-is_applied.true), spine-low (tree_of c.args.d.now.part.now), c.requires.part_low)

pub path_at-path_end-requires-clause-at : goal.path_at-path_end-requires-clause-at
path_at-path_end-requires-clause-at t c =
    omega (arith, slice_get_within (map argument_shape c.args.args.now) c.args.at _ (sym c.in-Some.ensures), length-map c.args.args.now argument_shape, c.requires.few)

pub path_at-step_inside-requires-clause-at : goal.path_at-step_inside-requires-clause-at
path_at-step_inside-requires-clause-at t c =
    omega (arith, slice_get_within (map argument_shape c.args.args.now) c.args.at _ (sym c.in-Some.ensures), length-map c.args.args.now argument_shape, c.requires.few)

pub path_at-returns-in_err-inside-in-Recursive : goal.path_at-returns-in_err-inside-in-Recursive
path_at-returns-in_err-inside-in-Recursive t c =
    let q = err_from_is_err_and c.from_residual.result c.from_residual.ensures.1 in
    let goes = at-further (descent_of c.args.d.now) (tree_of c.args.whole.now) (map argument_shape c.args.args.now) c.args.at (tree_of c.args.r.now) (tree_of c.args.below) (path_of (descent_of c.args.d.now) (tree_of c.args.r.now)) (argument_shape c.in-Some.arg.now) c.in-Recursive.count c.is_applied.result c.in-Some.ensures c.in-Recursive.is c.is_applied.ensures c.if-is_applied.false in
    rw (q.1, q.2)
    (λ other.
    let made = c.in_err-inside-in-Recursive.ensures other in
    let inside = step_to (descent_of c.args.d.now) Second (tree_of c.args.whole.now) (map argument_shape c.args.args.now) c.args.at 0 (tree_of c.in-Some.arg.now.ty) [] (tree_of c.args.below) in
    (made.0, higher 2000 inside _ _ made.1 (path-keeps (descent_of c.args.d.now) (tree_of c.args.r.now) inside) goes))

pub path_at-path_of-requires : goal.path_at-path_of-requires
path_at-path_of-requires t c = (
  omega arith,
  (
    c.requires.motive,
    (
      c.requires.part,
      (
        c.requires.part_low,
        (
          c.requires.argument,
          (
            c.requires.low,
            subst (λ u. free_of u ≤ 3221225472) (sym c.in_ok-inside-in-Recursive.ensures)
                (free-step 3221225472 (descent_of c.args.d.now) Second (tree_of c.args.whole.now) (map argument_shape c.args.args.now) c.args.at 0 (tree_of c.in-Some.arg.now.ty) [] (tree_of c.args.below) c.requires.motive c.requires.whole (All-nil _) c.requires.below),
          ),
        ),
      ),
    ),
  ),
)

pub path_at-returns-in_ok-inside-in-Recursive : goal.path_at-returns-in_ok-inside-in-Recursive
path_at-returns-in_ok-inside-in-Recursive t c =
    subst (Makes c.path_of.result)
    (ap (path_of (descent_of c.args.d.now) (tree_of c.args.r.now)) c.in_ok-inside-in-Recursive.ensures
    ∙ at-further (descent_of c.args.d.now) (tree_of c.args.whole.now) (map argument_shape c.args.args.now) c.args.at (tree_of c.args.r.now) (tree_of c.args.below) (path_of (descent_of c.args.d.now) (tree_of c.args.r.now)) (argument_shape c.in-Some.arg.now) c.in-Recursive.count c.is_applied.result c.in-Some.ensures c.in-Recursive.is c.is_applied.ensures c.if-is_applied.false)
    c.path_of.ensures

pub path_of-path_along-requires : goal.path_of-path_along-requires
path_of-path_along-requires t c =
    let counted = whole-counted c.args.d.now.fam (shape_of c.args.d.now.family.now) (tree_of c.args.t.now) (constructor_shape c.in-Some.con.now) (sym c.in-Some.ensures) in
    let params = length-map c.args.d.now.family.now.params tree_of in
    let arguments = length-map c.in-Some.con.now.args argument_shape in
    let slice = ap length c.as_slice-args.ensures in
    let low = spine-low (tree_of c.args.t.now) in
    let bound = c.requires.low in
    (omega arith, (c.requires.motive, (c.requires.part, (c.requires.part_low, (c.requires.term, (omega arith, (omega arith, (omega arith, (c.requires.term, (c.requires.low, c.requires.below))))))))))
