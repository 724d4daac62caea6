-- The nodes of a case tree over whole contexts, and the runs of its splits.
use Rattle.std.proofs.Common.{◌≡◌, ℕ, ◌+◌, ◌<◌, ◌≤◌, ◌==◌, true, false, Option, Some, None, Result, Ok, Err, List, [], ◌∷◌, ◌++◌, length, map, get_or, refl, sym, ◌∙◌, subst as transport, arith}
use Rattle.std.proofs.lemmas.Bool.{eqb-false, or_parts}
use Rattle.std.proofs.lemmas.List.{length-append}
use Rattle.std.proofs.lemmas.Result.{IfOk-at_ok}
use Rattle.theory.specs.Terms.{Term, Var}
use Rattle.theory.specs.Telescopes.{Telescope}
use Rattle.theory.specs.Families.{Constructor}
use Rattle.theory.specs.Signatures.{Signature}
use Rattle.core_terms.specs.Answers.{on_answer}
use Rattle.core_terms.specs.CaseTrees as tree
use Rattle.core_terms.specs.CaseTrees.{Step, Branches}
use Rattle.core_terms.specs.declared.case_tree.Rule.TheVariants.{SolveRight, SolveLeft}
use Rattle.core_terms.specs.declared.stop.Stop.{Stop}
use Rattle.tele_eq.specs.Items.{Item}
use Rattle.tele_eq.specs.Levels.{is_among, place_in}
use Rattle.unification.specs.Heights.{start_made}
use Rattle.unification.specs.Laws.{Chain, IsReached}
use Rattle.unification.specs.Occurrences.{order_without}
use Rattle.unification.specs.Outcomes.{Absurd, Outcome, Solved}
use Rattle.unification.specs.Records.{argument_items}
use Rattle.unification.specs.Rules.{IsAbsurd, Steps, conflict, conflict_group, cycle_left, cycle_right, delete, inject, inject_group, level_of, more, none, solve_left, solve_right}
use Rattle.unification.specs.Runs.{run_of, unify_of}
use Rattle.unification.specs.ScopedStates.{IsReady, IsScopedProblem}
use Rattle.unification.specs.Solving.{solved}
use Rattle.unification.specs.States.{Problem, State}
use Rattle.unification.proofs.FollowingRuns.{run-follows}
use Rattle.unification.proofs.Levels.{place-there}
use Rattle.unification.proofs.ScopedEquations.{start-is}
use Rattle.unification.proofs.SolvedContexts.{length-new_context, other-among}
use Rattle.problems.specs.Conditions.{AreBelow}
use Rattle.case_trees.specs.Points.{Point}
use Rattle.case_trees.specs.Problems.{Member}
use Rattle.case_trees.specs.Standing.{BranchesAt, Runs}
use Rattle.tree_translation.specs.Comparisons.{Comparison}
use Rattle.tree_translation.specs.Conditions.{AreRuns, IsEnd, IsSeen}
use Rattle.tree_translation.specs.Hidden.{visible, widened_number}
use Rattle.tree_translation.specs.Laws.{Widens}
use Rattle.tree_translation.specs.Replays.{behind_run, behind_step, solved_standing, step_in, unless_compared}
use Rattle.tree_translation.specs.Splits.{Node, branch_standing, is_absurd, is_last}
use Rattle.tree_translation.specs.Standings.{Standing, levels_from, problem_state}
use Rattle.tree_translation.specs.TreeTerms.{node_of, runs_of}
use Rattle.tree_translation.proofs.LevelLists.{at-among, there-get, without-among}
use Rattle.tree_translation.proofs.SeenSteps.{run-seen, variable-seen}
use Rattle.entry_laws.proofs.replay_laws.RunsAlong.{problem-along}

-- ---- the levels of hidden variables

below-more : (n m : ℕ) (levels : List ℕ) → n ≤ m → AreBelow n levels → AreBelow m levels
below-more n m [] le below = tt
below-more n m (j ∷ levels) le below = let lt : j < n = below.0 in (omega arith, below-more n m levels le below.1)

places-below : (context : Telescope) (p : ℕ) (hidden : List ℕ) → AreBelow (length context) hidden → is_among p hidden ≡ false
    → AreBelow (length (order_without context p)) (map (place_in (order_without context p)) hidden)
places-below context p [] below not = tt
places-below context p (j ∷ hidden) below not =
    let parts = or_parts (j == p) (is_among p hidden) not in (
      (place-there (order_without context p) j (other-among context p j below.0 (eqb-false j p parts.0))).0,
      places-below context p hidden below.1 parts.1,
    )

unless-below : (w : Standing) (g : ℕ) (o : Option Comparison) → AreBelow (length w.state.context) w.hidden
    → AreBelow (length (unless_compared w g o).state.context) (unless_compared w g o).hidden
unless-below w g None below = below
unless-below w g (Some c) below = below

solved-below : (w : Standing) (s : State) (x : ℕ) (A u : Term) → Widens w s → x < length s.context → AreBelow (length w.state.context) w.hidden
    → (let next = solved_standing w (widened_number (length w.state.context) w.hidden x) A u in AreBelow (length next.state.context) next.hidden)
solved-below w s x A u widens lt below =
    transport (λ n. AreBelow n (map (place_in (order_without w.state.context p)) w.hidden))
    (sym (length-new_context w.state.context (solved n (order_without w.state.context p) p u) 0 (order_without w.state.context p)))
    (places-below w.state.context p w.hidden below there)
  where
    n : ℕ
    n = length w.state.context

    p : ℕ
    p = level_of (length w.state.context) (widened_number (length w.state.context) w.hidden x)

    there : is_among (level_of (length w.state.context) (widened_number (length w.state.context) w.hidden x)) w.hidden ≡ false
    there =
        let v = variable-seen w s x widens lt in
        let V = visible n w.hidden in
        let at = level_of (length s.context) x in
        let inside : at < length s.context = v.inside in
        let count : length s.context ≡ length V = v.is_seen.count in
        transport (λ q. is_among q w.hidden ≡ false) v.level
        (without-among w.hidden (levels_from 0 n) (get_or V at 0) (at-among V at (get_or V at 0) (there-get V at 0 (omega arith)))).1

step-below : (S : Signature) (s t : State) (step : Step) (w : Standing) → Steps S s step t → Widens w s → AreBelow (length w.state.context) w.hidden
    → AreBelow (length (behind_step S w step).state.context) (behind_step S w step).hidden
step-below S s t _ w (solve_right _ e x A u first solvable) widens below =
    let step : Step = record { group = 1; rule = SolveRight x; ty = A; left = u; right = Var x } in
    solved-below w s x (step_in w step).ty (step_in w step).left widens solvable.variable below
step-below S s t _ w (solve_left _ e x A u first solvable) widens below =
    let step : Step = record { group = 1; rule = SolveLeft x; ty = A; left = Var x; right = u } in
    solved-below w s x (step_in w step).ty (step_in w step).right widens solvable.variable below
step-below S s t step w (inject_group _ k f ps type b d left right same number group) widens below = unless-below w (k + 1) _ below
step-below S s t step w (inject _ e A b d left right same number level indices first) widens below = unless-below w 1 _ below
step-below S s t _ w (delete _ e A u v k first converts) widens below = below

last-below : (S : Signature) (s : State) (step : Step) (w : Standing) → IsAbsurd S s step → AreBelow (length w.state.context) w.hidden
    → AreBelow (length (behind_step S w step).state.context) (behind_step S w step).hidden
last-below S s _ w (conflict_group _ k f ps type b d left right family number group) below = below
last-below S s _ w (conflict _ e A b d left right family number level first) below = below
last-below S s _ w (cycle_left _ e n x A v first found) below = below
last-below S s _ w (cycle_right _ e n x A u first found) below = below

abbrev StayBelow : Signature → Standing → List Step → Type 0
StayBelow S w steps =
    AreBelow (length w.state.context) w.hidden → AreBelow (length (behind_run S steps w).state.context) (behind_run S steps w).hidden

-- ---- the end of a run

pub problem-reached : (S : Signature) (p : Problem) (units : ℕ) (outcome : Outcome) → IsReady S → IsScopedProblem S p
    → (unify_of S p units).0 ≡ Ok outcome → IsReached S (problem_state p) outcome
problem-reached S p units outcome ready scoped run = by (start_made p) refl run
  where
    by : (r : Result State Stop) → start_made p ≡ r → (on_answer r units (λ s rest. run_of S s rest)).0 ≡ Ok outcome → IsReached S (problem_state p) outcome
    by (Ok s) e h = transport (λ s. IsReached S s outcome) (start-is p s e) (IfOk-at_ok (IsReached S s) run (run-follows S p s units ready scoped e))
    by (Err x) e h = absurd (cc)

seen-end : (S : Signature) (s : State) (w : Standing) (steps : List Step) (context : Telescope) (solution : List Term) → Widens w s
    → IsReached S s (Solved steps context solution) → IsSeen (behind_run S steps w).state.context (behind_run S steps w).hidden context
seen-end S s w steps _ _ widens (IsReached.solved t _ chain empty) = (run-seen S s t steps w chain widens).context

-- the last step of a run
last-of : (xs : List Step) (step : Step) → is_absurd (xs ++ step ∷ []) ≡ is_last step.rule
last-of [] step = refl
last-of (x ∷ []) step = refl
last-of (x ∷ y ∷ xs) step = last-of (y ∷ xs) step

pub last-rule : (S : Signature) (s : State) (step : Step) → IsAbsurd S s step → is_last step.rule ≡ true
last-rule S s _ (conflict_group _ k f ps type b d left right family number group) = refl
last-rule S s _ (conflict _ e A b d left right family number level first) = refl
last-rule S s _ (cycle_left _ e n x A v first found) = refl
last-rule S s _ (cycle_right _ e n x A u first found) = refl

other-rule : (S : Signature) (s t : State) (step : Step) → Steps S s step t → is_last step.rule ≡ false
other-rule S s t _ (solve_right _ e x A u first solvable) = refl
other-rule S s t _ (solve_left _ e x A u first solvable) = refl
other-rule S s t _ (inject_group _ k f ps type b d left right same number group) = refl
other-rule S s t _ (inject _ e A b d left right same number level indices first) = refl
other-rule S s t _ (delete _ e A u v k first converts) = refl

chain-goes : (S : Signature) (s t : State) (steps : List Step) → Chain S s steps t → is_absurd steps ≡ false
chain-goes S s t _ (none _) = refl
chain-goes S s t _ (more _ r _ step [] scoped goes rest) = other-rule S s r step goes
chain-goes S s t _ (more _ r _ step (next ∷ steps) scoped goes rest) = chain-goes S r t (next ∷ steps) rest

pub solved-goes : (S : Signature) (s : State) (steps : List Step) (context : Telescope) (solution : List Term)
    → IsReached S s (Solved steps context solution) → is_absurd steps ≡ false
solved-goes S s steps _ _ (IsReached.solved t _ chain empty) = chain-goes S s t steps chain

pub absurd-ends : (S : Signature) (s : State) (steps : List Step) (context : Telescope) (u v : Term) → IsReached S s (Absurd steps context u v)
    → is_absurd steps ≡ true
absurd-ends S s _ _ u v (IsReached.absurd t steps last _ _ chain evidence shows) = last-of steps last ∙ last-rule S t last evidence

-- ---- nodes

-- the context is the part that is seen of a node's context, and the hidden variables are some of that one
pub record IsNodeOver (node : Node) (context : Telescope) : Type 0 where
  pub is_seen : IsSeen node.context node.hidden context
  pub hidden : AreBelow (length node.context) node.hidden

-- the node after a run that solves a problem
pub node-after : (S : Signature) (p : Problem) (steps : List Step) (context : Telescope) (solution : List Term) (w : Standing) → IsReady S
    → IsScopedProblem S p → Runs S p (Solved steps context solution) → Widens w (problem_state p) → AreBelow (length w.state.context) w.hidden
    → IsNodeOver (node_of (behind_run S steps w)) context
node-after S p steps context solution w ready scoped runs widens below = record {
  is_seen =
      seen-end S (problem_state p) w steps context solution widens (problem-reached S p runs.units (Solved steps context solution) ready scoped runs.run);
  hidden =
      problem-along S (StayBelow S)
      (record {
        at_end = λ w below. below;
        at_step = λ s t step steps w goes low widens rest below. rest (step-below S s t step w goes widens below);
        at_last = λ s step w shows low widens below. last-below S s step w shows below;
      })
      p (Solved steps context solution) w ready scoped runs widens below;
}

-- the hidden variables of a branch
pub branch-below : (node : Node) (m : Member) (x number : ℕ) (c : Constructor) → AreBelow (length node.context) node.hidden
    → AreBelow (length (branch_standing node m x number c).state.context) (branch_standing node m x number c).hidden
branch-below node m x number c below =
    let types = map (λ (item : Item). item.type) (argument_items m.n m.parameters c) in
    let long = length-append node.context types in
    below-more (length node.context) (length (node.context ++ types)) node.hidden (omega arith) below

-- ---- splits

pub split-runs : (S : Signature) (p : Point) (x : ℕ) (m : Member) (number : ℕ) (cs : List Constructor) (branches : Branches)
    → BranchesAt S p x m number cs branches → AreRuns S p.context x m number cs (runs_of branches)
split-runs S p x m number _ _ (BranchesAt.none _ _ _ _) = AreRuns.none
split-runs S p x m number _ _ (BranchesAt.absurd _ _ _ _ c cs steps context u v branches runs rest) =
    AreRuns.more (Absurd steps context u v) runs (IsEnd.absurd context u v) (split-runs S p x m (number + 1) cs branches rest)
split-runs S p x m number _ _ (BranchesAt.solved _ _ _ _ c cs steps context solution subtree branches runs stands rest) =
    AreRuns.more (Solved steps context solution) runs (IsEnd.solved context solution) (split-runs S p x m (number + 1) cs branches rest)
