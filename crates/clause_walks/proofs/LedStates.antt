-- The states that turns of a walk lead to.
use Rattle.std.proofs.Common.{◌≡◌, ◌≤◌, Ok, List, length, sym, ap, subst as transport}
use Rattle.theory.specs.Terms.{Term}
use Rattle.theory.specs.Telescopes.{Telescope}
use Rattle.theory.specs.Signatures.{Signature}
use Rattle.core_terms.specs.Patterns.{Pats}
use Rattle.case_trees.specs.pattern_vectors.Columns.{AreWhole}
use Rattle.case_trees.specs.Keeping.{keep_all}
use Rattle.case_trees.specs.Pairs.{Pairs, waiting}
use Rattle.case_trees.specs.Points.{Point, bounded_point, bounded_pairs, start_at, moved_point, moved_pairs, solution_for, point_keeping}
use Rattle.case_trees.specs.Scoped.{IsScopedPoint}
use Rattle.problems.specs.Conditions.{most_levels}
use Rattle.clause_walks.specs.Forgetting.{CoverAll, forget_all}
use Rattle.clause_walks.specs.PairConditions.{AreKeptPairs, IsSolvedIn, IsWalkState}
use Rattle.clause_walks.specs.PointConditions.{IsKeptPoint}
use Rattle.clause_walks.proofs.Covering.{waiting-covered, solved-covered}
use Rattle.clause_walks.proofs.KeptStates.{bounded-same, bounded-pairs-same, kept-point, keeping-kept, moved-kept, pairs-moved-kept, waiting-kept}

-- where a walk starts
pub start-state : (S : Signature) (context : Telescope) (goal : Term) (terms : List Term) (q : Point) (pats : Pats)
    → IsScopedPoint S (start_at context goal terms) → AreWhole S pats → Ok q ≡ bounded_point (start_at context goal terms)
    → length q.context ≤ most_levels → IsWalkState S q (waiting pats terms)
start-state S context goal terms q pats scoped whole e few =
    let same = (bounded-same (start_at context goal terms) q e).0 in
    let point = kept-point S (start_at context goal terms) q scoped e few in
    transport (λ us. IsWalkState S q (waiting pats us)) (ap (λ r. r.terms) (sym same))
    (record { point = point; pairs = waiting-kept S q pats point; covers = waiting-covered S pats q.terms q.terms whole })

-- with what pairs were compared with
pub keeping-state : (S : Signature) (p q : Point) (pairs : Pairs) → IsKeptPoint S p → AreKeptPairs S (length p.context) pairs
    → CoverAll S pairs (keep_all S pairs p.terms) → Ok q ≡ point_keeping S p pairs → length q.context ≤ most_levels → IsWalkState S q pairs
keeping-state S p q pairs h k covers e few =
    let same = (bounded-same (record p { terms = keep_all S pairs p.terms }) q e).0 in
    record {
      point = keeping-kept S p q pairs h k e few;
      pairs = transport (λ (r : Point). AreKeptPairs S (length r.context) pairs) same k;
      covers = transport (λ (r : Point). CoverAll S pairs r.terms) same covers;
    }

-- after a solution
pub solved-state : (S : Signature) (p q : Point) (context : Telescope) (solution : List Term) (pairs moved : Pairs) → IsWalkState S p pairs
    → IsSolvedIn S context solution → Ok q ≡ bounded_point (moved_point p context (solution_for p solution))
    → Ok moved ≡ bounded_pairs (forget_all (moved_pairs (solution_for p solution) pairs)) → length context ≤ most_levels → IsWalkState S q moved
solved-state S p q context solution pairs moved h k e d few =
    let same = (bounded-same (moved_point p context (solution_for p solution)) q e).0 in
    let same_pairs = (bounded-pairs-same (forget_all (moved_pairs (solution_for p solution) pairs)) moved d).0 in
    let room = transport (λ (r : Point). length r.context ≤ most_levels) same few in
    let kept = pairs-moved-kept S (length p.context) context solution pairs moved h.pairs k d few in
    let covers = solved-covered S (solution_for p solution) pairs p.terms h.covers in
    record {
      point = moved-kept S p q context solution h.point k e room;
      pairs = transport (λ (r : Point). AreKeptPairs S (length r.context) moved) same kept;
      covers = transport (λ (r : Point). CoverAll S moved r.terms) same (transport (λ qs. CoverAll S qs (moved_point p context (solution_for p solution)).terms) same_pairs covers);
    }
