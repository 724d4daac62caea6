use Rattle.std.proofs.Common.{sym, ap₂, ◌∙◌, arith, subst as transport}
use Rattle.std.proofs.lemmas.List.{length-map}
use Rattle.core_terms.specs.Meanings.{tree_of, tele_of}
use Rattle.core_terms.specs.PatternMeanings.{pats_of}
use Rattle.core_terms.proofs.Builders.{ok_is}
use Rattle.case_trees.specs.Pairs.{waiting}
use Rattle.case_trees.specs.Points.{bounded_point, start_at}
use Rattle.clause_walks.specs.PairConditions.{IsWalkState}
use Rattle.clause_walks.specs.PointMeanings.{point_of}
use Rattle.clause_walks.proofs.LedStates.{start-state}
use Rattle.clause_walks.proofs.WalkScopes.{clause-whole}
use Rattle.clause_walks.proofs.walking.walk_of_clause.Goals as goal

pub walk-requires-clause-state : goal.walk-requires-clause-state
walk-requires-clause-state c =
    let S = c.args.sig.now in
    let a = tree_of c.args.goal.now in
    let pairs = ap₂ (λ pats ts. waiting (pats_of pats) (tele_of ts)) (sym c.as_slice-3.ensures) (sym c.as_slice-4.ensures) ∙ sym (ok_is c.in_ok-pairs.ensures) in
    transport (IsWalkState S (point_of c.in_ok-start.start)) pairs
    (start-state S (tele_of c.args.ctx.now) a (tele_of c.args.terms.now) (point_of c.in_ok-start.start) (pats_of c.args.clause.now.pats) c.requires.given.scoped (clause-whole S (tele_of c.args.terms.now) c.args.clause.now c.requires.clause)
    (c.in_ok-start.ensures.answer ∙ ap₂ (λ G ts. bounded_point (start_at (tele_of G) a (tele_of ts))) c.as_slice.ensures c.as_slice-2.ensures)
    (omega (arith, c.in_ok-start.ensures.few, length-map c.in_ok-start.start.context tree_of)))
