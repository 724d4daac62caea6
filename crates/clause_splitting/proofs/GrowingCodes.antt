-- The nodes, splits and branches that the code answers are those that are meant.
use Rattle.std.proofs.Common.{◌≡◌, ℕ, ◌+◌, ◌<◌, ◌≤◌, Option, Result, Ok, Err, List, [], ◌∷◌, ◌++◌, length, map, drop, get_or, sym, ap, ◌∙◌, arith}
use Rattle.std.proofs.lemmas.List.{map-append}
use Rattle.theory.specs.Signatures.{Signature}
use Rattle.core_terms.specs.Answers.{Unless, and_next}
use Rattle.core_terms.specs.CaseTrees as tree
use Rattle.core_terms.specs.CaseTrees.{Branches}
use Rattle.core_terms.specs.TreeMeanings.{branch_of, branches_of}
use Rattle.core_terms.specs.declared.case_tree.Branch.{Branch}
use Rattle.core_terms.specs.declared.case_tree.Tree.{Tree}
use Rattle.case_trees.specs.Points.{Point}
use Rattle.case_trees.specs.Stops as stops
use Rattle.case_trees.specs.Stops.{Stopping, answers}
use Rattle.case_trees.specs.Trees as pure
use Rattle.case_trees.specs.Trees.{Growing, worked, by_live, by_patterns}
use Rattle.clause_walks.specs.Forgetting.{CoverLive, forgetting_live, grows_on}
use Rattle.clause_walks.specs.LookMeanings.{ends_of, ran_of}
use Rattle.clause_walks.specs.Reaching.{Reached, RunEnd}
use Rattle.clause_walks.specs.Stops.{IsUnforeseen, Tells, Yields, stop_of}
use Rattle.clause_walks.specs.declared.running.Ran.{Ran}
use Rattle.clause_walks.specs.declared.stops.TreeStop.{TreeStop}
use Rattle.clause_walks.proofs.TurnCodes.{alike, calls-behind}
use Rattle.clause_splitting.specs.Growing.{reached_at, branch_from, branches_from, with_branches, branches_behind, grown_from}
use Rattle.clause_splitting.proofs.AlikeTrees.{by_patterns-goes}
use Rattle.clause_splitting.proofs.Chains.{goes-first, stops-first}
use Rattle.clause_splitting.proofs.GrowingForms.{live-grown, next-made, with-end, with-more}
use Rattle.clause_splitting.proofs.NodeCodes.{with-first}

-- an answer for which no units are spent
pub tells-yields : {A B : Type 0} (f : A → B) (r : Result A TreeStop) (left : ℕ) (meant : Result B stops.TreeStop) → Tells f r meant
    → Yields f r left (answers meant left)
tells-yields f (Ok a) left meant h = ap (λ m. answers m left) h
tells-yields f (Err e) left meant h = λ other. ap (λ m. answers m left) (h other)

-- ---- a node

module _ (S : Signature) (k : ℕ) (p : Point) (live : List pure.Live) (left mid : ℕ) (covers : CoverLive S live p.terms) where
  -- how the tree goes on from a node that is worked
  from-node : pure.Node → ℕ → Stopping tree.Tree
  from-node node rest =
      and_next (reached_at S node.point node.live rest) (λ found last. grown_from (forgetting_live (grows_on S k)) node.point node.live found last)

  grow-form : by_patterns S k p live left ≡ and_next (worked S p live left) from-node
  unfolding from-node
  grow-form =
      by_patterns-goes S k p live left covers
      ∙ alike (worked S p live left) (λ node rest. by_live S (forgetting_live (grows_on S k)) node.point node.live rest) from-node
      (λ node rest. live-grown S (forgetting_live (grows_on S k)) node.point node.live rest)

  -- it is not worked
  pub grow-refused : (e : TreeStop) → Unless (IsUnforeseen e) (◌≡◌ {A = Stopping pure.Node} (Err (stop_of e), mid) (worked S p live left))
      → Unless (IsUnforeseen e) (◌≡◌ {A = Stopping tree.Tree} (Err (stop_of e), mid) (by_patterns S k p live left))
  grow-refused e h = λ other. stops-first e mid (worked S p live left) from-node h other ∙ sym grow-form

  module _ (q : Point) (others : List pure.Live) (end : ℕ) (done : ◌≡◌ {A = Stopping pure.Node} (Ok (record { point = q; live = others }), mid) (worked S p live left)) where
    from-worked : and_next (reached_at S q others mid) (λ found last. grown_from (forgetting_live (grows_on S k)) q others found last) ≡ by_patterns S k p live left
    unfolding from-node
    from-worked = goes-first (record { point = q; live = others }) mid (worked S p live left) from-node done ∙ sym grow-form

    -- nothing is reached
    pub grow-stops : (e : TreeStop) → Unless (IsUnforeseen e) (◌≡◌ {A = Stopping (Option Reached)} (Err (stop_of e), end) (reached_at S q others mid))
        → Unless (IsUnforeseen e) (◌≡◌ {A = Stopping tree.Tree} (Err (stop_of e), end) (by_patterns S k p live left))
    grow-stops e h = λ other.
        stops-first e end (reached_at S q others mid) (λ found last. grown_from (forgetting_live (grows_on S k)) q others found last) h other ∙ from-worked

    -- a variable is reached, or the first clause is a leaf
    pub grow-goes : (found : Option Reached) → ◌≡◌ {A = Stopping (Option Reached)} (Ok found, end) (reached_at S q others mid)
        → grown_from (forgetting_live (grows_on S k)) q others found end ≡ by_patterns S k p live left
    grow-goes found h =
        goes-first found end (reached_at S q others mid) (λ found last. grown_from (forgetting_live (grows_on S k)) q others found last) h ∙ from-worked

-- ---- branches

module _ (go : Growing) (p : Point) (live : List pure.Live) where
  -- one more
  branches-step : (made : List tree.Branch) (r : RunEnd) (runs : List RunEnd) (left : ℕ)
      → branches_behind made (branches_from go p live (r ∷ runs) left)
      ≡ and_next (branch_from go p live r r.outcome left) (λ branch rest. branches_behind (made ++ branch ∷ []) (branches_from go p live runs rest))
  branches-step made r runs left =
      calls-behind (branch_from go p live r r.outcome left)
      (λ branch rest. and_next (branches_from go p live runs rest) (λ branches end. answers (Ok (tree.cons branch branches)) end))
      (λ found rest. answers (Ok (with_branches made found)) rest)
      ∙ alike (branch_from go p live r r.outcome left) _ (λ branch rest. branches_behind (made ++ branch ∷ []) (branches_from go p live runs rest)) (λ branch rest.
      next-made (branches_from go p live runs rest) (tree.cons branch) (λ found end. answers (Ok (with_branches made found)) end)
      ∙ alike (branches_from go p live runs rest) (λ found end. answers (Ok (with_branches made (tree.cons branch found))) end)
      (λ found end. answers (Ok (with_branches (made ++ branch ∷ []) found)) end)
      (λ found end. ap (λ b. answers (Ok b) end) (sym (with-more made branch found))))

  module _ (made : List Branch) (runs : List Ran) (run : Ran) (left mid : ℕ) (some : 1 ≤ length runs) (is : run ≡ get_or runs 0 run) where
    code-step : and_next (branch_from go p live (ran_of run) (ran_of run).outcome left)
        (λ branch rest. branches_behind (map branch_of made ++ branch ∷ []) (branches_from go p live (ends_of (drop 1 runs)) rest))
        ≡ branches_behind (map branch_of made) (branches_from go p live (ends_of runs) left)
    code-step =
        sym (branches-step (map branch_of made) (ran_of run) (ends_of (drop 1 runs)) left)
        ∙ ap (λ rs. branches_behind (map branch_of made) (branches_from go p live (ends_of rs) left)) (with-first runs run some is)

    -- it is made
    pub branch-goes : (branch : Branch)
        → ◌≡◌ {A = Stopping tree.Branch} (Ok (branch_of branch), mid) (branch_from go p live (ran_of run) (ran_of run).outcome left)
        → branches_behind (map branch_of (made ++ branch ∷ [])) (branches_from go p live (ends_of (drop 1 runs)) mid)
        ≡ branches_behind (map branch_of made) (branches_from go p live (ends_of runs) left)
    branch-goes branch h =
        ap (λ bs. branches_behind bs (branches_from go p live (ends_of (drop 1 runs)) mid)) (map-append branch_of made (branch ∷ []))
        ∙ (goes-first (branch_of branch) mid (branch_from go p live (ran_of run) (ran_of run).outcome left)
        (λ branch rest. branches_behind (map branch_of made ++ branch ∷ []) (branches_from go p live (ends_of (drop 1 runs)) rest)) h ∙ code-step)

  -- no more
  pub branches-none : (made : List Branch) (runs : List Ran) (left : ℕ) → length runs < 1
      → ◌≡◌ {A = Stopping Branches} (Ok (branches_of made), left) (branches_behind (map branch_of made) (branches_from go p live (ends_of runs) left))
  branches-none made [] left few = ap (λ b. answers (Ok b) left) (sym (with-end (map branch_of made)))
  branches-none made (run ∷ runs) left few = absurd (grind arith)
