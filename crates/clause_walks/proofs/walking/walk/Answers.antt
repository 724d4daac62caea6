use Rattle.std.proofs.Common.{◌-◌, ap, ◌∙◌, arith}
use Rattle.std.proofs.lemmas.Result.{err_from_is_err_and}
use Rattle.core_terms.specs.TreeMeanings.{walk_of}
use Rattle.clause_walks.specs.CodeWalks.{turn_of}
use Rattle.clause_walks.specs.Meanings.{pairs_of}
use Rattle.clause_walks.specs.PointMeanings.{point_of}
use Rattle.clause_walks.proofs.WalkCodes.{walk-on, walk-nowhere, walk-ended, walk-refused}
use Rattle.clause_walks.proofs.walking.walk.Goals as goal

pub returns-in_err-next-clause-answer : goal.returns-in_err-next-clause-answer
returns-in_err-next-clause-answer c =
    let S = c.args.sig.now in
    let p = point_of c.turns.point in
    let same = ap (λ qs. turn_of S c.args.clause p (pairs_of qs) c.turns.kernel.left) c.as_slice.ensures in
    let q = err_from_is_err_and c.from_residual.result c.from_residual.ensures.1 in
    rw (q.1, q.2)
    (λ other.
    walk-refused S c.args.clause p (pairs_of c.turns.pairs) c.turns.kernel.left c.turn.new.kernel.left c.turns.patterns _ c.turns.invariant.state.covers
    (c.in_err-next.ensures.answer other ∙ same)
    ∙ c.turns.invariant.meant)

pub returns-then-patterns-eq0-clause-answer : goal.returns-then-patterns-eq0-clause-answer
returns-then-patterns-eq0-clause-answer c =
    let S = c.args.sig.now in
    let p = point_of c.turns.point in
    let same = ap (λ qs. turn_of S c.args.clause p (pairs_of qs) c.turns.kernel.left) c.as_slice.ensures in
    λ other.
    walk-nowhere S c.args.clause p (pairs_of c.turns.pairs) c.turns.kernel.left c.turn.new.kernel.left c.turns.patterns (point_of c.in-GoesOn.next) (pairs_of c.in-GoesOn.moved)
    c.turns.invariant.state.covers c.if-patterns-eq0.true ((rw c.in-GoesOn.is at c.in_ok-next.ensures.answer) ∙ same)
    ∙ c.turns.invariant.meant

pub turns-preserved : goal.turns-preserved
turns-preserved c =
    let S = c.args.sig.now in
    let p = point_of c.turns.point in
    let same = ap (λ qs. turn_of S c.args.clause p (pairs_of qs) c.turns.kernel.left) c.as_slice.ensures in
    record {
      meant = walk-on S c.args.clause p (pairs_of c.turns.pairs) c.turns.kernel.left c.turn.new.kernel.left c.turns.patterns (c.turns.patterns - 1) (point_of c.in-GoesOn.next)
          (pairs_of c.in-GoesOn.moved) c.turns.invariant.state.covers (omega (arith, c.if-patterns-eq0.false)) ((rw c.in-GoesOn.is at c.in_ok-next.ensures.answer) ∙ same)
          ∙ c.turns.invariant.meant;
      state = rw c.in-GoesOn.is at c.in_ok-next.ensures.leads;
      sum = omega (arith, c.in_ok-next.ensures.sum, c.turns.invariant.sum);
      spends = omega (arith, c.in_ok-next.ensures.spends, c.turns.invariant.spends);
      kernel = c.in_ok-next.ensures.kernel;
    }

pub returns-in-Ended-clause-answer : goal.returns-in-Ended-clause-answer
returns-in-Ended-clause-answer c =
    let S = c.args.sig.now in
    let p = point_of c.turns.point in
    let same = ap (λ qs. turn_of S c.args.clause p (pairs_of qs) c.turns.kernel.left) c.as_slice.ensures in
    walk-ended S c.args.clause p (pairs_of c.turns.pairs) c.turns.kernel.left c.turn.new.kernel.left c.turns.patterns (walk_of c.in-Ended.walk) c.turns.invariant.state.covers
    ((rw c.in-Ended.is at c.in_ok-next.ensures.answer) ∙ same)
    ∙ c.turns.invariant.meant
