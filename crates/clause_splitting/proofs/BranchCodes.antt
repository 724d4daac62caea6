-- The branch of a run that the code answers is the one that is meant.
use Rattle.std.proofs.Common.{◌≡◌, ℕ, suc, ◌-◌, ◌<◌, ◌≤◌, Result, Ok, Err, List, length, sym, ap, ap₂, ◌∙◌, subst as transport, arith}
use Rattle.std.proofs.lemmas.List.{length-map}
use Rattle.std.proofs.lemmas.Result.{IfOk-at_ok}
use Rattle.theory.specs.Telescopes.{Telescope}
use Rattle.theory.specs.Terms.{Term}
use Rattle.theory.specs.Signatures.{Signature}
use Rattle.core_terms.specs.Answers as answer
use Rattle.core_terms.specs.Answers.{Unless, and_next}
use Rattle.core_terms.specs.CaseTrees as tree
use Rattle.core_terms.specs.CaseTrees.{Step}
use Rattle.core_terms.specs.Meanings.{tree_of, tele_of}
use Rattle.core_terms.specs.TreeMeanings.{steps_of}
use Rattle.core_terms.specs.declared.case_tree.Step.{Step as CodeStep}
use Rattle.core_terms.specs.declared.stop.Stop as code
use Rattle.core_terms.specs.declared.stop.Stop.TheVariants.{Deep}
use Rattle.core_terms.proofs.Builders.{ok_is}
use Rattle.unification.specs.Outcomes.{Outcome, Solved}
use Rattle.unification.specs.ScopedStates.{IsReady}
use Rattle.problems.specs.Conditions.{most_levels}
use Rattle.case_trees.specs.Origins.{first_origins, origins_behind}
use Rattle.case_trees.specs.Points.{Point, solution_for}
use Rattle.case_trees.specs.Stops.{Stopping, Halts, or_halts, answers}
use Rattle.case_trees.specs.Trees.{Live, Node, solved_node, by_patterns}
use Rattle.clause_walks.specs.Forgetting.{forget_live, forgetting_live, grows_on}
use Rattle.clause_walks.specs.LookMeanings.{ran_of}
use Rattle.clause_walks.specs.PointMeanings.{point_of}
use Rattle.clause_walks.specs.ReachedRuns.{IsRunEnd}
use Rattle.clause_walks.specs.Reaching.{RunEnd}
use Rattle.clause_walks.specs.Stops.{IsUnforeseen, stop_of}
use Rattle.clause_walks.specs.declared.points.Point.{Point as CodePoint}
use Rattle.clause_walks.specs.declared.running.Ran.{Ran}
use Rattle.clause_walks.specs.declared.stops.TreeStop.{TreeStop}
use Rattle.clause_walks.specs.declared.stops.TreeStop.TheVariants.{Stop}
use Rattle.clause_splitting.specs.Following.{AreFollowed}
use Rattle.clause_splitting.specs.Growing.{branch_from}
use Rattle.clause_splitting.proofs.BranchForms.{over_solved, solved-branch}
use Rattle.clause_splitting.proofs.Chains.{goes-first, halts-made, stops-first}
use Rattle.clause_splitting.proofs.FollowedRuns.{Follows, unify-followed}

-- ---- a solved run

module _ (S : Signature) (k : ℕ) (p : Point) (live : List Live) (r : RunEnd) (o : Outcome) (steps : List Step) (context : Telescope) (solution : List Term)
    (G us : List Term) (left mid : ℕ) (is : o ≡ Solved steps context solution) (same_context : G ≡ context) (same_solution : us ≡ solution) where
  -- the next node, as the code has it
  abbrev next_meant : Result Node code.Stop
  next_meant = solved_node p (forget_live live) G (solution_for p us)

  solved-form : and_next (answers (or_halts next_meant) left) (over_solved (grows_on S k) p r steps)
      ≡ branch_from (forgetting_live (grows_on S k)) p live r o left
  solved-form =
      ap₂ (λ H ts. and_next (answers (or_halts (solved_node p (forget_live live) H (solution_for p ts))) left) (over_solved (grows_on S k) p r steps)) same_context same_solution
      ∙ (sym (solved-branch (grows_on S k) p live r steps context solution left)
      ∙ ap (λ o. branch_from (forgetting_live (grows_on S k)) p live r o left) (sym is))

  -- the next node is too high
  pub solved-refused : (e : code.Stop) → Unless (answer.IsUnforeseen e) (Err e ≡ next_meant)
      → Unless (IsUnforeseen (Stop e)) (◌≡◌ {A = Stopping tree.Branch} (Err (Halts e), left) (branch_from (forgetting_live (grows_on S k)) p live r o left))
  solved-refused e h = λ other.
      halts-made e left next_meant (over_solved (grows_on S k) p r steps) h other ∙ solved-form

  module _ (node : Node) (next : Ok node ≡ next_meant) where
    from-next : over_solved (grows_on S k) p r steps node left ≡ branch_from (forgetting_live (grows_on S k)) p live r o left
    from-next = ap (λ n. and_next (answers (or_halts n) left) (over_solved (grows_on S k) p r steps)) next ∙ solved-form

    goes-on : 0 < k → (n : ℕ) → n ≡ k - 1 → grows_on S k ≡ by_patterns S n
    goes-on some n less = ap (grows_on S) (let e : k ≡ suc n = omega arith in e)

    -- no pattern is left
    pub solved-deep : k ≡ 0 → ◌≡◌ {A = Stopping tree.Branch} (Err (Halts Deep), left) (branch_from (forgetting_live (grows_on S k)) p live r o left)
    solved-deep none = ap (λ j. over_solved (grows_on S j) p r steps node left) (sym none) ∙ from-next

    -- the tree is refused
    pub solved-stops : 0 < k → (n : ℕ) → n ≡ k - 1 → (e : TreeStop)
        → Unless (IsUnforeseen e) (◌≡◌ {A = Stopping tree.Tree} (Err (stop_of e), mid) (by_patterns S n node.point node.live left))
        → Unless (IsUnforeseen e) (◌≡◌ {A = Stopping tree.Branch} (Err (stop_of e), mid) (branch_from (forgetting_live (grows_on S k)) p live r o left))
    solved-stops some n less e h = λ other.
        stops-first e mid (by_patterns S n node.point node.live left) (λ subtree end.
        answers (Ok (tree.Solved steps (origins_behind steps r.context (first_origins (length p.context) r.arguments)) subtree)) end) h other
        ∙ (ap (λ go. over_solved go p r steps node left) (sym (goes-on some n less)) ∙ from-next)

    -- the tree is made
    pub solved-goes : 0 < k → (n : ℕ) → n ≡ k - 1 → (t : tree.Tree) (branch : tree.Branch)
        → branch ≡ tree.Solved steps (origins_behind steps r.context (first_origins (length p.context) r.arguments)) t
        → ◌≡◌ {A = Stopping tree.Tree} (Ok t, mid) (by_patterns S n node.point node.live left)
        → ◌≡◌ {A = Stopping tree.Branch} (Ok branch, mid) (branch_from (forgetting_live (grows_on S k)) p live r o left)
    solved-goes some n less t branch made h =
        ap (λ b. answers (Ok b) mid) made
        ∙ (goes-first t mid (by_patterns S n node.point node.live left) (λ subtree end.
        answers (Ok (tree.Solved steps (origins_behind steps r.context (first_origins (length p.context) r.arguments)) subtree)) end) h
        ∙ (ap (λ go. over_solved go p r steps node left) (sym (goes-on some n less)) ∙ from-next))

-- ---- the facts of a run

-- its steps can be followed
pub run-followed : (S : Signature) (n : ℕ) (r : RunEnd) (steps : List Step) (context : Telescope) (solution : List Term) → IsReady S → IsRunEnd S n r
    → r.outcome ≡ Solved steps context solution → length r.context ≤ most_levels → AreFollowed steps r.context
run-followed S n r steps context solution ready h is few =
    let there : Follows h.problem.context r.outcome =
    IfOk-at_ok (Follows h.problem.context) h.runs.run
    (unify-followed S h.problem h.runs.units ready h.whole (transport (λ (G : Telescope). length G ≤ most_levels) h.at few)) in
    transport (λ (G : Telescope). AreFollowed steps G) (sym h.at) (transport (Follows h.problem.context) is there)

-- the branch that the code makes over a tree
pub branch-made : (b : tree.Branch) (steps given : List CodeStep) (p : CodePoint) (r : Ran) (t : tree.Tree)
    → ◌≡◌ {A = Result tree.Branch code.Stop} (Ok b)
    (Ok (tree.Solved (steps_of given) (origins_behind (steps_of given) (tele_of r.ctx) (first_origins (length p.context) r.arguments)) t))
    → given ≡ steps
    → b ≡ tree.Solved (steps_of steps) (origins_behind (steps_of steps) (ran_of r).context (first_origins (length (point_of p).context) (ran_of r).arguments)) t
branch-made b steps given p r t e same =
    ok_is e
    ∙ ap₂ (λ st n. tree.Solved (steps_of st) (origins_behind (steps_of st) (tele_of r.ctx) (first_origins n r.arguments)) t) same (sym (length-map p.context tree_of))
