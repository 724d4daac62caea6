-- A node that meets its conditions meets them as its clauses are worked, and after a solution.
use Rattle.std.proofs.Common.{◌≡◌, ℕ, ◌≤◌, Bool, true, false, cond, Result, Ok, Err, IfOk, List, [], ◌∷◌, ◌++◌, length, map, take, refl, sym, ap, subst as transport}
use Rattle.std.proofs.lemmas.Result.{IfOk-at_ok}
use Rattle.theory.specs.Terms.{Term}
use Rattle.theory.specs.Telescopes.{Telescope}
use Rattle.theory.specs.Signatures.{Signature}
use Rattle.core_terms.specs.Answers.{and_then}
use Rattle.core_terms.specs.declared.stop.Stop.{Stop}
use Rattle.problems.specs.Conditions.{most_levels}
use Rattle.case_trees.specs.Keeping.{keep_all}
use Rattle.case_trees.specs.Pairs.{Pairs, some_clashes}
use Rattle.case_trees.specs.Points.{Point, bounded_point, bounded_pairs, moved_point, moved_pairs, point_keeping, solution_for, under_solution}
use Rattle.case_trees.specs.Trees.{Live, moved_live}
use Rattle.case_trees.specs.Working.{of_columns, work_pairs}
use Rattle.clause_walks.specs.Forgetting.{CoverAll, CoverLive, forget_all, forget_live}
use Rattle.clause_walks.specs.PairConditions.{AreKeptPairs, IsSolvedIn}
use Rattle.clause_walks.proofs.Covering.{live-covered-on, solved-covered, worked-covered}
use Rattle.clause_walks.proofs.Forgotten.{moved-forgotten}
use Rattle.clause_walks.proofs.KeptStates.{bounded-pairs-same, bounded-same, keeping-kept, moved-kept, pairs-moved-kept}
use Rattle.clause_splitting.specs.Growing.{kept_live, node_at, worked_to}
use Rattle.clause_splitting.specs.NodeConditions.{AreKeptLive, IsNodeAt}

-- ---- clauses that are worked

-- the first clause of a node, and the others
pub first-at : (S : Signature) (p : Point) (c : Live) (live : List Live) → IsNodeAt S (node_at p (c ∷ live)) → IsNodeAt S (node_at p live)
first-at S p c live h = record { point = h.point; live = h.live.1; covers = h.covers.1 }

-- with what the pairs of a clause were compared with
pub at-keeping : (S : Signature) (p q : Point) (pairs : Pairs) (live : List Live) → IsNodeAt S (node_at p live) → AreKeptPairs S (length p.context) pairs
    → Ok q ≡ point_keeping S p pairs → length q.context ≤ most_levels → IsNodeAt S (node_at q live)
at-keeping S p q pairs live h kept e few =
    let same : record p { terms = keep_all S pairs p.terms } ≡ q = (bounded-same (record p { terms = keep_all S pairs p.terms }) q e).0 in
    record {
      point = keeping-kept S p q pairs h.point kept e few;
      live = transport (λ (r : Point). AreKeptLive S (length r.context) live) same h.live;
      covers = transport (λ (r : Point). CoverLive S live r.terms) same (live-covered-on S live p.terms pairs h.covers);
    }

kept-more : (S : Signature) (n : ℕ) (made : List Live) (c : Live) → AreKeptLive S n made → AreKeptPairs S n c.pairs → AreKeptLive S n (made ++ c ∷ [])
kept-more S n [] c h k = (k, tt)
kept-more S n (d ∷ made) c h k = (h.0, kept-more S n made c h.1 k)

covers-more : (S : Signature) (us : List Term) (made : List Live) (c : Live) → CoverLive S made us → CoverAll S c.pairs us → CoverLive S (made ++ c ∷ []) us
covers-more S us [] c h k = (k, tt)
covers-more S us (d ∷ made) c h k = (h.0, covers-more S us made c h.1 k)

with-worked : (S : Signature) (q : Point) (made : List Live) (c : Live) → IsNodeAt S (node_at q made) → AreKeptPairs S (length q.context) c.pairs
    → CoverAll S c.pairs q.terms → IsNodeAt S (node_at q (kept_live c made))
with-worked S q made c h k l = by (some_clashes c.pairs)
  where
    by : (test : Bool) → IsNodeAt S (node_at q (cond test made (made ++ c ∷ [])))
    by true = h
    by false = record {
      point = h.point;
      live = kept-more S (length q.context) made c h.live k;
      covers = covers-more S q.terms made c h.covers l;
    }

-- one clause more is worked
pub worked-at : (S : Signature) (p q : Point) (made : List Live) (c : Live) (pairs : Pairs) (left rest : ℕ) → IsNodeAt S (node_at p made)
    → CoverAll S c.pairs p.terms → (Ok pairs, rest) ≡ work_pairs S of_columns c.pairs left → AreKeptPairs S (length p.context) pairs
    → Ok q ≡ point_keeping S p pairs → length q.context ≤ most_levels → IsNodeAt S (node_at q (kept_live (worked_to c pairs) made))
worked-at S p q made c pairs left rest h covers worked kept e few =
    let same : record p { terms = keep_all S pairs p.terms } ≡ q = (bounded-same (record p { terms = keep_all S pairs p.terms }) q e).0 in
    let there : CoverAll S pairs (keep_all S pairs p.terms) =
    IfOk-at_ok (λ new. CoverAll S new (keep_all S new p.terms)) (ap (λ r. r.0) (sym worked)) (worked-covered S of_columns c.pairs left p.terms covers) in
    with-worked S q made (worked_to c pairs) (at-keeping S p q pairs made h kept e few)
    (transport (λ (r : Point). AreKeptPairs S (length r.context) pairs) same kept)
    (transport (λ (r : Point). CoverAll S pairs r.terms) same there)

-- ---- clauses after a solution

-- the first of the clauses, with the others
abbrev pub moved_before : (number : ℕ) → Result Pairs Stop → Result (List Live) Stop → Result (List Live) Stop
moved_before number pairs others =
    and_then pairs (λ moved. and_then others (λ live. Ok (record { number = number; pairs = moved } ∷ live)))

-- as the code has it
pub moved-first : (solution : List Term) (c : Live) (live : List Live)
    → moved_live solution (forget_live (c ∷ live))
    ≡ moved_before c.number (bounded_pairs (forget_all (moved_pairs solution c.pairs))) (moved_live solution (forget_live live))
moved-first solution c live =
    ap (λ pairs. moved_before c.number (bounded_pairs pairs) (moved_live solution (forget_live live))) (sym (moved-forgotten solution c.pairs))

-- the conditions on clauses that are moved
record AreMovedTo (S : Signature) (m : ℕ) (us : List Term) (live : List Live) : Type 0 where
  kept : AreKeptLive S m live
  covers : CoverLive S live us

live-moved : (S : Signature) (n : ℕ) (context : Telescope) (solution us : List Term) (live : List Live) → AreKeptLive S n live → CoverLive S live us
    → IsSolvedIn S context solution → length context ≤ most_levels
    → IfOk (moved_live (take n solution) (forget_live live)) (AreMovedTo S (length context) (map (under_solution (take n solution)) us))
live-moved S n context solution us [] h k solved few = record { kept = tt; covers = tt }
live-moved S n context solution us (c ∷ live) h k solved few =
    transport (λ r. IfOk r (AreMovedTo S (length context) (map (under_solution (take n solution)) us))) (sym (moved-first (take n solution) c live))
    (by (bounded_pairs (forget_all (moved_pairs (take n solution) c.pairs))) refl (moved_live (take n solution) (forget_live live))
    (live-moved S n context solution us live h.1 k.1 solved few))
  where
    by : (first : Result Pairs Stop) → bounded_pairs (forget_all (moved_pairs (take n solution) c.pairs)) ≡ first → (others : Result (List Live) Stop)
        → IfOk others (AreMovedTo S (length context) (map (under_solution (take n solution)) us))
        → IfOk (moved_before c.number first others) (AreMovedTo S (length context) (map (under_solution (take n solution)) us))
    by (Ok moved) e (Ok ls) is =
        let same = (bounded-pairs-same (forget_all (moved_pairs (take n solution) c.pairs)) moved (sym e)).0 in
        record {
          kept = (pairs-moved-kept S n context solution c.pairs moved h.0 solved (sym e) few, is.kept);
          covers = (
            transport (λ ps. CoverAll S ps (map (under_solution (take n solution)) us)) same (solved-covered S (take n solution) c.pairs us k.0),
            is.covers,
          );
        }
    by (Ok moved) e (Err x) is = tt
    by (Err x) e others is = tt

-- the node after a solution
pub moved-at : (S : Signature) (p q : Point) (live moved : List Live) (context : Telescope) (solution : List Term) → IsNodeAt S (node_at p live)
    → IsSolvedIn S context solution → Ok q ≡ bounded_point (moved_point p context (solution_for p solution)) → length q.context ≤ most_levels
    → Ok moved ≡ moved_live (solution_for p solution) (forget_live live) → IsNodeAt S (node_at q moved)
moved-at S p q live moved context solution h solved e few f =
    let same : moved_point p context (solution_for p solution) ≡ q = (bounded-same (moved_point p context (solution_for p solution)) q e).0 in
    let shorter : length context ≤ most_levels = transport (λ (r : Point). length r.context ≤ most_levels) (sym same) few in
    let is : AreMovedTo S (length context) (map (under_solution (solution_for p solution)) p.terms) moved =
    IfOk-at_ok (AreMovedTo S (length context) (map (under_solution (solution_for p solution)) p.terms)) (sym f)
    (live-moved S (length p.context) context solution p.terms live h.live h.covers solved shorter) in
    record {
      point = moved-kept S p q context solution h.point solved e few;
      live = transport (λ (r : Point). AreKeptLive S (length r.context) moved) same is.kept;
      covers = transport (λ (r : Point). CoverLive S moved r.terms) same is.covers;
    }
