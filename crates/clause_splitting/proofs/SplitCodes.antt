-- The tree of all clauses is the one that is meant, and is scoped.
use Rattle.std.proofs.Common.{◌≡◌, ℕ, ◌+◌, ◌≤◌, Result, Ok, Err, IfErr, List, [], ◌++◌, length, sym, ap, ◌∙◌, subst as transport, arith}
use Rattle.std.proofs.lemmas.List.{length-map}
use Rattle.theory.specs.Telescopes.{Telescope}
use Rattle.theory.specs.Terms.{Term}
use Rattle.theory.specs.Signatures.{Signature}
use Rattle.core_terms.specs.Clauses as clause
use Rattle.core_terms.specs.Clauses.{Clauses, Is}
use Rattle.core_terms.specs.Meanings.{tree_of}
use Rattle.core_terms.specs.declared.stop.Stop as code
use Rattle.core_terms.proofs.Builders.{ok_is}
use Rattle.problems.specs.Conditions.{most_levels}
use Rattle.case_trees.specs.Laws.{IsGiven}
use Rattle.case_trees.specs.Points as points
use Rattle.case_trees.specs.Points.{bounded_point, start_at}
use Rattle.case_trees.specs.Scoped.{AreClausesFor, IsScopedStop}
use Rattle.case_trees.specs.Stops as stops
use Rattle.case_trees.specs.Stops.{Stopping}
use Rattle.case_trees.specs.Trees.{Live, all_live}
use Rattle.clause_walks.specs.PointConditions.{IsKeptPoint}
use Rattle.clause_walks.specs.PointMeanings.{point_of}
use Rattle.clause_walks.specs.Stops.{Yields, stop_of}
use Rattle.clause_walks.specs.declared.points.Point.{Point}
use Rattle.clause_walks.specs.declared.stops.TreeStop.{TreeStop}
use Rattle.clause_walks.specs.declared.stops.TreeStop.TheVariants.{Stop, Stuck, Uncovered, NotAbsurd, Impossible, WrongConstructor, Forced}
use Rattle.clause_walks.proofs.Covering.{live-start-covered}
use Rattle.clause_walks.proofs.KeptStates.{bounded-same, kept-point, waiting-kept}
use Rattle.clause_splitting.specs.Growing.{node_at}
use Rattle.clause_splitting.specs.NodeConditions.{AreKeptLive, IsNodeAt}

-- ---- the start

live-starts : (S : Signature) (p : points.Point) (number : ℕ) (clauses : Clauses) → IsKeptPoint S p
    → AreKeptLive S (length p.context) (all_live number p.terms clauses)
live-starts S p number clause.nil h = tt
live-starts S p number (clause.cons (Is pats binds right) clauses) h = (waiting-kept S p pats h, live-starts S p (number + 1) clauses h)

start-there : (S : Signature) (context : Telescope) (goal : Term) (terms : List Term) (clauses : Clauses) (p : points.Point) → IsGiven S context goal terms
    → AreClausesFor S terms clauses → Ok p ≡ bounded_point (start_at context goal terms) → length p.context ≤ most_levels
    → IsNodeAt S (node_at p (all_live 0 terms clauses))
start-there S context goal terms clauses p given for e few =
    let kept : IsKeptPoint S p = kept-point S (start_at context goal terms) p given.scoped e few in
    let same : start_at context goal terms ≡ p = (bounded-same (start_at context goal terms) p e).0 in
    record {
      point = kept;
      live = transport (λ us. AreKeptLive S (length p.context) (all_live 0 us clauses)) (sym (ap (λ (q : points.Point). q.terms) same)) (live-starts S p 0 clauses kept);
      covers = live-start-covered S 0 terms p.terms clauses for;
    }

module _ (S : Signature) (context : Telescope) (goal : Term) (terms : List Term) (clauses : Clauses) (p : Point) (made live : List Live)
    (start : Ok (point_of p) ≡ bounded_point (start_at context goal terms)) (empty : made ≡ [])
    (all : ◌≡◌ {A = Result (List Live) code.Stop} (Ok live) (Ok (made ++ all_live 0 terms clauses))) where
  there : live ≡ all_live 0 terms clauses
  there = ok_is all ∙ ap (λ ls. ls ++ all_live 0 terms clauses) empty

  pub start-node : IsGiven S context goal terms → AreClausesFor S terms clauses → length p.context ≤ most_levels → IsNodeAt S (node_at (point_of p) live)
  start-node given for few =
      transport (λ ls. IsNodeAt S (node_at (point_of p) ls)) (sym there)
      (start-there S context goal terms clauses (point_of p) given for start (omega (arith, few, length-map p.context tree_of)))

-- ---- refusals

-- a refusal is scoped
pub denied-scoped : {A B : Type 0} (S : Signature) (f : A → B) (r : Result A TreeStop) (left : ℕ) (meant : Stopping B) → Yields f r left meant
    → ((e : stops.TreeStop) → meant.0 ≡ Err e → IsScopedStop S e) → IfErr r (λ e. IsScopedStop S (stop_of e))
denied-scoped S f (Ok a) left meant h k = tt
denied-scoped {B = B} S f (Err e) left meant h k = by e h
  where
    by : (e : TreeStop) → Yields f (Err e) left meant → IsScopedStop S (stop_of e)
    by (Stop e) h = tt
    by (Stuck clause ctx u v why) h = k (stop_of (Stuck clause ctx u v why)) (sym (ap (λ (r : Stopping B). r.0) (h (λ same. cc))))
    by (Uncovered ctx terms) h = k (stop_of (Uncovered ctx terms)) (sym (ap (λ (r : Stopping B). r.0) (h (λ same. cc))))
    by (NotAbsurd clause family con) h = k (stop_of (NotAbsurd clause family con)) (sym (ap (λ (r : Stopping B). r.0) (h (λ same. cc))))
    by (Impossible clause ctx u v) h = k (stop_of (Impossible clause ctx u v)) (sym (ap (λ (r : Stopping B). r.0) (h (λ same. cc))))
    by (WrongConstructor clause ctx ty) h = k (stop_of (WrongConstructor clause ctx ty)) (sym (ap (λ (r : Stopping B). r.0) (h (λ same. cc))))
    by (Forced clause ctx pat t) h = k (stop_of (Forced clause ctx pat t)) (sym (ap (λ (r : Stopping B). r.0) (h (λ same. cc))))
