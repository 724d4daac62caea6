-- Trees of the code grow as it is meant.
use Rattle.std.proofs.Common.{◌≡◌, ℕ, ◌≤◌, ◌==◌, false, Option, Some, None, Result, Ok, Err, List, [], ◌∷◌, length, drop, get_or, refl, sym, ap, ◌∙◌, subst as transport}
use Rattle.std.proofs.lemmas.List.{length-map}
use Rattle.theory.specs.Terms.{Term}
use Rattle.theory.specs.Signatures.{Signature}
use Rattle.core_terms.specs.Answers.{Unless, and_next}
use Rattle.core_terms.specs.Meanings.{tree_of, tele_of}
use Rattle.core_terms.specs.Patterns.{Pat}
use Rattle.core_terms.specs.declared.stop.Stop.{Stop}
use Rattle.core_terms.specs.declared.term.Term as code_term
use Rattle.core_terms.proofs.Builders.{ok_is}
use Rattle.case_trees.specs.Looking.{first_found}
use Rattle.case_trees.specs.Pairs.{all_open}
use Rattle.case_trees.specs.Stops.{Stopping, answers}
use Rattle.case_trees.specs.Trees as pure
use Rattle.clause_walks.specs.LookMeanings.{reached_of}
use Rattle.clause_walks.specs.Meanings.{pairs_of}
use Rattle.clause_walks.specs.OpenPairs.{AreScopedOpen, all_open_of, open_of}
use Rattle.clause_walks.specs.PointMeanings.{point_of}
use Rattle.clause_walks.specs.Reaching as reaching
use Rattle.clause_walks.specs.Reaching.{reach}
use Rattle.clause_walks.specs.Stops.{IsUnforeseen, stop_of}
use Rattle.clause_walks.specs.declared.open_pair.OpenPair.{OpenPair}
use Rattle.clause_walks.specs.declared.pairs.Pair.{Pair}
use Rattle.clause_walks.specs.declared.reaching.Reached.{Reached}
use Rattle.clause_walks.specs.declared.stops.TreeStop.{TreeStop}
use Rattle.clause_walks.proofs.TurnStates.{open-scoped}
use Rattle.clause_splitting.specs.Growing.{reached_from, reached_at}
use Rattle.clause_splitting.specs.NodeConditions.{IsNodeAt}
use Rattle.clause_splitting.specs.NodeMeanings.{live_of, all_live_of, node_of}
use Rattle.clause_splitting.specs.declared.nodes.Live.{Live}
use Rattle.clause_splitting.specs.declared.nodes.Node.{Node}
use Rattle.clause_splitting.proofs.Chains.{goes-first, stops-first}
use Rattle.clause_splitting.proofs.NodeCodes.{with-first}

-- ---- the end that the first clause reaches

-- with an open pair
reached-open : (S : Signature) (p : _) (c : pure.Live) (pairs : List (Pat × Term)) (left : ℕ) → false ≡ (length pairs == 0)
    → reached_from S p c pairs left
    ≡ and_next (first_found S c.number p.context (reach S false c.number p.context) pairs None None left) (λ r rest. answers (Ok (Some r)) rest)
reached-open S p c [] left some = absurd (cc)
reached-open S p c (pair ∷ others) left some = refl

module _ (S : Signature) (node : Node) (live : List Live) (c : Live) (us : List Pair) (found ops : List OpenPair) (ctx : List code_term.Term) (left mid : ℕ)
    (there : live ≡ node.live) (some : 1 ≤ length live) (is : c ≡ get_or live 0 c) (pairs : us ≡ c.pairs)
    (opens : ◌≡◌ {A = Result (List (Pat × Term)) Stop} (Ok (all_open_of found)) (Ok (all_open (pairs_of us)))) (slice : ops ≡ found)
    (context : ctx ≡ node.point.context) (full : false ≡ (length ops == 0)) where
  looks : Stopping reaching.Reached
  looks = first_found S c.number (tele_of ctx) (reach S false c.number (tele_of ctx)) (all_open_of ops) None None left

  open-pairs : all_open_of ops ≡ all_open (pairs_of c.pairs)
  open-pairs = ap all_open_of slice ∙ (ok_is opens ∙ ap (λ ps. all_open (pairs_of ps)) pairs)

  at-form : and_next looks (λ r rest. answers (Ok (Some r)) rest) ≡ reached_at S (point_of node.point) (all_live_of node.live) left
  unfolding looks
  at-form =
      ap (λ G. and_next (first_found S c.number (tele_of G) (reach S false c.number (tele_of G)) (all_open_of ops) None None left) (λ r rest. answers (Ok (Some r)) rest)) context
      ∙ (sym (reached-open S (point_of node.point) (live_of c) (all_open_of ops) left (full ∙ sym (ap (λ n. n == 0) (length-map ops open_of))))
      ∙ (ap (λ ps. reached_from S (point_of node.point) (live_of c) ps left) open-pairs
      ∙ ap (λ ls. reached_at S (point_of node.point) (all_live_of ls) left) (with-first live c some is ∙ there)))

  -- one is reached
  pub reached-one : (r : Reached) → ◌≡◌ {A = Stopping reaching.Reached} (Ok (reached_of r), mid) (first_found S c.number (tele_of ctx) (reach S false c.number (tele_of ctx)) (all_open_of ops) None None left)
      → ◌≡◌ {A = Stopping (Option reaching.Reached)} (Ok (Some (reached_of r)), mid) (reached_at S (point_of node.point) (all_live_of node.live) left)
  unfolding looks
  reached-one r h = goes-first (reached_of r) mid looks (λ r rest. answers (Ok (Some r)) rest) h ∙ at-form

  -- none is
  pub reached-none : (e : TreeStop)
      → Unless (IsUnforeseen e) (◌≡◌ {A = Stopping reaching.Reached} (Err (stop_of e), mid) (first_found S c.number (tele_of ctx) (reach S false c.number (tele_of ctx)) (all_open_of ops) None None left))
      → Unless (IsUnforeseen e) (◌≡◌ {A = Stopping (Option reaching.Reached)} (Err (stop_of e), mid) (reached_at S (point_of node.point) (all_live_of node.live) left))
  unfolding looks
  reached-none e h = λ other. stops-first e mid looks (λ r rest. answers (Ok (Some r)) rest) h other ∙ at-form

  -- the open pairs are scoped
  pub open-given : IsNodeAt S (node_of node) → AreScopedOpen S (length ctx) (all_open_of ops)
  open-given h =
      let first : IsNodeAt S (record { point = point_of node.point; live = live_of c ∷ all_live_of (drop 1 live) }) =
      transport (λ ls. IsNodeAt S (record { point = point_of node.point; live = all_live_of ls })) (sym (with-first live c some is ∙ there)) h in
      let count : length (tele_of node.point.context) ≡ length ctx = length-map node.point.context tree_of ∙ sym (ap length context) in
      transport (AreScopedOpen S (length ctx)) (sym open-pairs)
      (transport (λ n. AreScopedOpen S n (all_open (pairs_of c.pairs))) count (open-scoped S (length (tele_of node.point.context)) (pairs_of c.pairs) first.live.0))
