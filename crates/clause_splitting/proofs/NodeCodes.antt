-- The clauses of the code are worked and moved as it is meant.
use Rattle.std.proofs.Common.{◌≡◌, ℕ, ◌≤◌, Result, Ok, Err, List, [], ◌∷◌, ◌++◌, length, drop, get_or, refl, sym, ap, ap₂, ◌∙◌, subst as transport, arith}
use Rattle.std.proofs.lemmas.List.{length-map, map-append}
use Rattle.tele_eq.proofs.Growing.{snoc-append}
use Rattle.theory.specs.Terms.{Term}
use Rattle.theory.specs.Signatures.{Signature}
use Rattle.core_terms.specs.Answers.{IsUnforeseen, Spent, Unless, and_next}
use Rattle.core_terms.specs.Meanings.{tree_of, tele_of}
use Rattle.core_terms.specs.declared.stop.Stop.{Stop}
use Rattle.core_terms.specs.declared.term.Term as code_term
use Rattle.core_terms.proofs.Builders.{ok_is}
use Rattle.problems.specs.Conditions.{most_levels}
use Rattle.case_trees.specs.Pairs.{Pairs}
use Rattle.case_trees.specs.Points.{bounded_point, bounded_pairs, moved_point, moved_pairs, point_keeping, solution_for}
use Rattle.case_trees.specs.Stops.{or_halts, halting, answers}
use Rattle.case_trees.specs.Working.{of_columns, work_pairs}
use Rattle.case_trees.specs.Trees as pure
use Rattle.case_trees.specs.Trees.{moved_live}
use Rattle.clause_walks.specs.Forgetting.{forget_all, forget_live}
use Rattle.clause_walks.specs.Meanings.{pairs_of}
use Rattle.clause_walks.specs.PairConditions.{AreKeptPairs, IsSolvedIn}
use Rattle.clause_walks.specs.PointMeanings.{point_of}
use Rattle.clause_walks.specs.declared.pairs.Pair.{Pair}
use Rattle.clause_walks.specs.declared.points.Point.{Point}
use Rattle.clause_splitting.specs.Growing.{kept_live, live_behind, node_at, worked_behind}
use Rattle.clause_splitting.specs.NodeConditions.{IsNodeAt}
use Rattle.clause_splitting.specs.NodeMeanings.{live_of, all_live_of, node_of}
use Rattle.clause_splitting.specs.declared.nodes.Live.{Live}
use Rattle.clause_splitting.specs.declared.nodes.Node.{Node}
use Rattle.clause_splitting.proofs.NodeForms.{after_keeping, after_work, worked-step}
use Rattle.clause_splitting.proofs.NodeStates.{at-keeping, first-at, moved_before, moved-first, moved-at, worked-at}

-- a list with its first item
pub with-first : {A : Type 0} (xs : List A) (x : A) → 1 ≤ length xs → x ≡ get_or xs 0 x → x ∷ drop 1 xs ≡ xs
with-first [] x some is = absurd (grind arith)
with-first (y ∷ xs) x some is = ap (λ z. z ∷ xs) is

-- ---- clauses that are worked

module _ (S : Signature) (p q : Point) (made live new : List Live) (c : Live) (us pairs ps : List Pair) (left mid : ℕ)
    (some : 1 ≤ length live) (is : c ≡ get_or live 0 c) (there : us ≡ c.pairs) (slice : ps ≡ pairs)
    (worked : ◌≡◌ {A = Spent Pairs} (Ok (pairs_of pairs), mid) (work_pairs S of_columns (pairs_of us) left))
    (keeps : Ok (point_of q) ≡ point_keeping S (point_of p) (pairs_of ps))
    (kept : ◌≡◌ {A = Result (List pure.Live) Stop} (Ok (all_live_of new)) (Ok (kept_live (record { number = c.number; pairs = pairs_of pairs }) (all_live_of made)))) where
  work : ◌≡◌ {A = Spent Pairs} (Ok (pairs_of pairs), mid) (work_pairs S of_columns (pairs_of c.pairs) left)
  work = worked ∙ ap (λ ps. work_pairs S of_columns (pairs_of ps) left) there

  keep : Ok (point_of q) ≡ point_keeping S (point_of p) (pairs_of pairs)
  keep = keeps ∙ ap (λ ps. point_keeping S (point_of p) (pairs_of ps)) slice

  -- the clauses that are left are worked on
  pub worked-on : worked_behind S (all_live_of new) (point_of q) (all_live_of (drop 1 live)) mid ≡ worked_behind S (all_live_of made) (point_of p) (all_live_of live) left
  worked-on =
      let others = all_live_of (drop 1 live) in
      ap (λ ls. worked_behind S ls (point_of q) others mid) (ok_is kept)
      ∙ (ap (λ r. and_next (answers (or_halts r) mid) (after_keeping S (all_live_of made) (live_of c) others (pairs_of pairs))) keep
      ∙ (ap (λ r. and_next (halting r) (after_work S (all_live_of made) (point_of p) (live_of c) others)) work
      ∙ (sym (worked-step S (all_live_of made) (point_of p) (live_of c) others left)
      ∙ ap (λ ls. worked_behind S (all_live_of made) (point_of p) (all_live_of ls) left) (with-first live c some is))))

  pub worked-kept : IsNodeAt S (node_at (point_of p) (all_live_of live)) → IsNodeAt S (node_at (point_of p) (all_live_of made))
      → ((n : ℕ) → AreKeptPairs S n (pairs_of us) → AreKeptPairs S n (pairs_of pairs)) → length q.context ≤ most_levels
      → IsNodeAt S (node_at (point_of q) (all_live_of (drop 1 live))) × IsNodeAt S (node_at (point_of q) (all_live_of new))
  worked-kept h k more few =
      let n = length (tele_of p.context) in
      let all : IsNodeAt S (node_at (point_of p) (live_of c ∷ all_live_of (drop 1 live))) =
      transport (λ ls. IsNodeAt S (node_at (point_of p) (all_live_of ls))) (sym (with-first live c some is)) h in
      let own : AreKeptPairs S n (pairs_of pairs) = more n (transport (λ ps. AreKeptPairs S n (pairs_of ps)) (sym there) all.live.0) in
      let short : length (tele_of q.context) ≤ most_levels = omega (arith, few, length-map q.context tree_of) in (
        at-keeping S (point_of p) (point_of q) (pairs_of pairs) (all_live_of (drop 1 live)) (first-at S (point_of p) (live_of c) (all_live_of (drop 1 live)) all) own
            keep short,
        transport (λ ls. IsNodeAt S (node_at (point_of q) ls)) (sym (ok_is kept))
            (worked-at S (point_of p) (point_of q) (all_live_of made) (live_of c) (pairs_of pairs) left mid k all.covers.0 work own keep short),
      )

-- ---- clauses after a solution

module _ (solution : List Term) (made live : List Live) (c : Live) (us : List Pair) (some : 1 ≤ length live) (is : c ≡ get_or live 0 c) (there : us ≡ c.pairs) where
  others : Result (List pure.Live) Stop
  others = moved_live solution (forget_live (all_live_of (drop 1 live)))

  moved-step : live_behind (all_live_of made) (moved_before c.number (bounded_pairs (forget_all (moved_pairs solution (pairs_of c.pairs)))) others)
      ≡ live_behind (all_live_of made) (moved_live solution (forget_live (all_live_of live)))
  unfolding others
  moved-step =
      ap (live_behind (all_live_of made)) (sym (moved-first solution (live_of c) (all_live_of (drop 1 live))))
      ∙ ap (λ ls. live_behind (all_live_of made) (moved_live solution (forget_live (all_live_of ls)))) (with-first live c some is)

  -- the pairs of the first one are too high
  pub moved-refused : (e : Stop) → Unless (IsUnforeseen e) (Err e ≡ bounded_pairs (forget_all (moved_pairs solution (pairs_of us))))
      → Unless (IsUnforeseen e) (Err e ≡ live_behind (all_live_of made) (moved_live solution (forget_live (all_live_of live))))
  moved-refused e h = λ other.
      ap (λ r. live_behind (all_live_of made) (moved_before c.number r others)) (h other ∙ ap (λ ps. bounded_pairs (forget_all (moved_pairs solution (pairs_of ps)))) there)
      ∙ moved-step

  -- it is moved
  pub moved-more : (new : Live) → new.number ≡ c.number → Ok (pairs_of new.pairs) ≡ bounded_pairs (forget_all (moved_pairs solution (pairs_of us)))
      → live_behind (all_live_of (made ++ new ∷ [])) (moved_live solution (forget_live (all_live_of (drop 1 live))))
      ≡ live_behind (all_live_of made) (moved_live solution (forget_live (all_live_of live)))
  unfolding others
  moved-more new number h =
      ap (λ ls. live_behind ls others) (map-append live_of made (new ∷ []))
      ∙ (by others
      ∙ (ap (λ n. live_behind (all_live_of made) (moved_before n (Ok (pairs_of new.pairs)) others)) number
      ∙ (ap (λ r. live_behind (all_live_of made) (moved_before c.number r others)) (h ∙ ap (λ ps. bounded_pairs (forget_all (moved_pairs solution (pairs_of ps)))) there) ∙ moved-step)))
    where
      by : (r : Result (List pure.Live) Stop)
          → live_behind (all_live_of made ++ live_of new ∷ []) r ≡ live_behind (all_live_of made) (moved_before new.number (Ok (pairs_of new.pairs)) r)
      by (Ok ls) = ap Ok (snoc-append (all_live_of made) (live_of new) ls)
      by (Err e) = refl

-- after no clauses
behind-none : (r : Result (List pure.Live) Stop) → live_behind [] r ≡ r
behind-none (Ok ls) = refl
behind-none (Err e) = refl

-- the node after a solution
pub node-moved : (S : Signature) (node : Node) (ctx copied subst solution : List code_term.Term) (q : Point) (none live moved : List Live) → IsNodeAt S (node_of node)
    → IsSolvedIn S (tele_of ctx) (tele_of subst) → ◌≡◌ {A = Result (List Term) Stop} (Ok (tele_of copied)) (Ok (tele_of ctx)) → tele_of solution ≡ solution_for (point_of node.point) (tele_of subst)
    → Ok (point_of q) ≡ bounded_point (moved_point (point_of node.point) (tele_of copied) (tele_of solution)) → length q.context ≤ most_levels
    → none ≡ [] → live ≡ node.live → Ok (all_live_of moved) ≡ live_behind (all_live_of none) (moved_live (tele_of solution) (forget_live (all_live_of live)))
    → IsNodeAt S (node_at (point_of q) (all_live_of moved))
node-moved S node ctx copied subst solution q none live moved h solved same_ctx same e few empty there f =
    moved-at S (point_of node.point) (point_of q) (all_live_of node.live) (all_live_of moved) (tele_of ctx) (tele_of subst) h solved
    (e ∙ ap₂ (λ G us. bounded_point (moved_point (point_of node.point) G us)) (ok_is same_ctx) same) (omega (arith, few, length-map q.context tree_of))
    (f ∙ (ap₂ (λ ls ms. live_behind (all_live_of ls) (moved_live (tele_of solution) (forget_live (all_live_of ms)))) empty there
    ∙ (behind-none (moved_live (tele_of solution) (forget_live (all_live_of node.live)))
    ∙ ap (λ us. moved_live us (forget_live (all_live_of node.live))) same)))
