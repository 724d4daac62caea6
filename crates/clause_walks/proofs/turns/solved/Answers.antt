use Rattle.std.proofs.Common.{ap, ap₂, ◌∙◌, arith}
use Rattle.std.proofs.lemmas.List.{length-map}
use Rattle.core_terms.specs.Meanings.{tree_of, tele_of}
use Rattle.core_terms.proofs.Builders.{ok_is}
use Rattle.case_trees.specs.Points.{bounded_point, bounded_pairs, moved_point, moved_pairs}
use Rattle.clause_walks.specs.Forgetting.{forget_all}
use Rattle.clause_walks.specs.Meanings.{pairs_of}
use Rattle.clause_walks.specs.PointMeanings.{point_of}
use Rattle.clause_walks.proofs.LedStates.{solved-state}
use Rattle.clause_walks.proofs.turns.solved.Goals as goal

pub returns-clause-leads : goal.returns-clause-leads
returns-clause-leads c =
    let p = point_of c.args.p.now in
    let pairs = pairs_of c.args.pairs.now in
    solved-state c.args.sig.now p (point_of c.in_ok-next.next) (tele_of c.args.ctx.now) (tele_of c.args.solution.now) pairs (pairs_of c.in_ok-moved.moved) c.requires.state c.requires.solved
    (c.in_ok-next.ensures.answer ∙ ap₂ (λ G us. bounded_point (moved_point p G us)) (ok_is c.in_ok-copy_tele.ensures) c.solution_for-solution.ensures)
    (c.in_ok-moved.ensures ∙ ap (λ us. bounded_pairs (forget_all (moved_pairs us pairs))) c.solution_for-solution.ensures)
    (omega (arith, c.if-ctx-gt-MOST_LEVELS.false, length-map c.args.ctx.now tree_of))
