use Rattle.std.proofs.Common.{◌==◌, true, None, length, sym, ap, ap₂, ◌∙◌, subst as transport}
use Rattle.std.proofs.lemmas.List.{length-map}
use Rattle.std.proofs.lemmas.Result.{err_from_is_err_and}
use Rattle.core_terms.specs.Meanings.{tree_of, tele_of}
use Rattle.core_terms.proofs.Builders.{ok_is}
use Rattle.case_trees.specs.Looking.{first_found}
use Rattle.case_trees.specs.Pairs.{all_open}
use Rattle.clause_walks.specs.CodeWalks.{next_reached}
use Rattle.clause_walks.specs.LookMeanings.{reached_of}
use Rattle.clause_walks.specs.Meanings.{pairs_of}
use Rattle.clause_walks.specs.OpenPairs.{AreScopedOpen, open_of, all_open_of}
use Rattle.clause_walks.specs.PointMeanings.{point_of}
use Rattle.clause_walks.specs.Reaching.{reach}
use Rattle.clause_walks.specs.Stops.{Yields}
use Rattle.clause_walks.specs.WalkMeanings.{next_meant}
use Rattle.clause_walks.proofs.NextCodes.{open-refused, open-next, tells-yields}
use Rattle.clause_walks.proofs.TurnParts.{bound-few}
use Rattle.clause_walks.proofs.TurnStates.{open-scoped}
use Rattle.clause_walks.proofs.turns.next_at.Goals as goal

pub ended_at-requires : goal.ended_at-requires
ended_at-requires c = record {
  binds = bound-few c.args.sig.now (length (tele_of c.args.p.context)) (pairs_of c.args.pairs.now) c.requires.state.pairs;
}

pub first_found-requires-clause-pairs : goal.first_found-requires-clause-pairs
first_found-requires-clause-pairs c =
    let S = c.args.sig.now in
    let waiting = sym (ok_is c.in_ok-open.ensures) ∙ ap all_open_of (sym c.as_slice-3.ensures) in
    transport (λ n. AreScopedOpen S n (all_open_of c.as_slice-3.result.now)) (length-map c.args.p.context tree_of ∙ ap length (sym c.as_slice-2.ensures))
    (transport (AreScopedOpen S (length (tele_of c.args.p.context))) waiting
    (open-scoped S (length (tele_of c.args.p.context)) (pairs_of c.args.pairs.now) c.requires.state.pairs))

pub returns-in_err-reached-clause-answer : goal.returns-in_err-reached-clause-answer
returns-in_err-reached-clause-answer c =
    let S = c.args.sig.now in
    let left = c.args.kernel.now.left in
    let waiting = ok_is c.in_ok-open.ensures in
    let some = ap (λ n. n == 0) (ap length (sym waiting) ∙ (length-map c.in_ok-open.open open_of ∙ ap length (sym c.as_slice.ensures)))
    ∙ (sym c.is_empty.ensures ∙ c.if-is_empty.false) in
    let same = ap₂ (λ G w. first_found S c.args.clause G (reach S true c.args.clause G) w None None left) (ap tele_of c.as_slice-2.ensures) (ap all_open_of c.as_slice-3.ensures ∙ waiting) in
    let q = err_from_is_err_and c.from_residual-in_err-reached.result c.from_residual-in_err-reached.ensures.1 in
    rw (q.1, q.2)
    (λ other.
    open-refused S c.args.clause (point_of c.args.p) (pairs_of c.args.pairs.now) left c.first_found.new.kernel.left (all_open (pairs_of c.args.pairs.now)) _ some
    (c.in_err-reached.ensures.answer other ∙ same))

pub returns-clause-answer : goal.returns-clause-answer
returns-clause-answer c =
    let S = c.args.sig.now in
    let left = c.args.kernel.now.left in
    let rest = c.first_found.new.kernel.left in
    let waiting = ok_is c.in_ok-open.ensures in
    let some = ap (λ n. n == 0) (ap length (sym waiting) ∙ (length-map c.in_ok-open.open open_of ∙ ap length (sym c.as_slice.ensures)))
    ∙ (sym c.is_empty.ensures ∙ c.if-is_empty.false) in
    let same = ap₂ (λ G w. first_found S c.args.clause G (reach S true c.args.clause G) w None None left) (ap tele_of c.as_slice-2.ensures) (ap all_open_of c.as_slice-3.ensures ∙ waiting) in
    transport (Yields next_meant c.next_reached.result rest)
    (open-next S c.args.clause (point_of c.args.p) (pairs_of c.args.pairs.now) left rest (all_open (pairs_of c.args.pairs.now)) (reached_of c.in_ok-reached.reached) some
    (c.in_ok-reached.ensures.answer ∙ same))
    (tells-yields next_meant c.next_reached.result (next_reached c.args.clause (point_of c.args.p) (pairs_of c.args.pairs.now) (reached_of c.in_ok-reached.reached)) rest c.next_reached.ensures.answer)
