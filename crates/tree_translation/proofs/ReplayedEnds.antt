-- Replaying a run that solves a problem ends where the run ends, at the goal under its solution.
use Rattle.std.proofs.Common.{◌≡◌, ℕ, ◌<◌, IsTrue, Option, Some, None, ◌+◌, List, [], ◌∷◌, length, map, Result, Ok, Err, IfOk, refl, sym, ap, ap₂, ◌∙◌, subst, arith}
use mathlib.Core.Path.{fun_ext}
use Rattle.theory.specs.Terms.{Term, Var}
use Rattle.theory.specs.Substitutions.{inst, fill}
use Rattle.theory.specs.Telescopes.{Telescope, variables}
use Rattle.theory.specs.Eliminators.{no_variable}
use Rattle.theory.specs.Signatures.{Signature}
use Rattle.theory.specs.SignatureScopes.{IsScoped}
use Rattle.theory.proofs.Instances.{inst-inst, inst-var}
use Rattle.theory.proofs.Instantiation.{inst-scoped, inst-fill}
use Rattle.core_terms.specs.CaseTrees.{Step}
use Rattle.core_terms.specs.declared.case_tree.Rule.TheVariants.{SolveRight, SolveLeft, Inject, Delete}
use Rattle.core_terms.specs.declared.stop.Stop.{Stop}
use Rattle.tele_eq.specs.Environments.{put}
use Rattle.unification.specs.Built.{term_of}
use Rattle.unification.specs.Heights.{start_made}
use Rattle.unification.specs.Laws.{Chain, IsReached}
use Rattle.unification.specs.Occurrences.{lacks, order_without}
use Rattle.unification.specs.Outcomes.{Outcome, Solved}
use Rattle.unification.specs.Rules.{Steps, solve_right, solve_left, inject_group, inject, delete, none, more, level_of}
use Rattle.core_terms.specs.Answers.{on_answer}
use Rattle.unification.specs.Runs.{unify_of, run_of}
use Rattle.unification.specs.Solving.{solved, solved_state}
use Rattle.unification.specs.States.{State, Problem}
use Rattle.unification.proofs.FollowingRuns.{run-follows}
use Rattle.unification.proofs.ScopedEquations.{start-is}
use Rattle.unification.proofs.SolvedVariables.{solution_at, solved-is_inst}
use Rattle.unification.proofs.UnderInstances.{fill-variables}
use Rattle.case_trees.specs.Points.{under_solution}
use Rattle.tree_translation.specs.Standings.{Standing, problem_state}
use Rattle.tree_translation.specs.Comparisons.{Comparison, compared}
use Rattle.tree_translation.specs.Replays.{solved_standing, unless_compared, behind_step, behind_run}
use Rattle.tree_translation.specs.Laws.{IsSolved, ReplayEnds, ReplayGoal}
use Rattle.tree_translation.proofs.NothingHidden.{number-own}
use Rattle.tree_translation.proofs.ReplayedRuns.{IsAt, read, step-replayed, replay_is_run}

-- ---- where a run ends

-- the steps of a run from a problem's state, and the state at their end
record Ends (S : Signature) (p : Problem) (steps : List Step) (context : Telescope) (solution : List Term) : Type 0 where
  t : State
  chain : Chain S (problem_state p) steps t
  end : t ≡ record { context = context; equations = []; solution = solution }

ends-at : (S : Signature) (p : Problem) (s : State) (steps : List Step) (context : Telescope) (solution : List Term) → s ≡ problem_state p
    → IsReached S s (Solved steps context solution) → Ends S p steps context solution
ends-at S p s steps _ _ e (IsReached.solved t _ chain empty) = record {
  t = t;
  chain = subst (λ from. Chain S from steps t) e chain;
  end = ap (λ equations. (let made : State = record { context = t.context; equations = equations; solution = t.solution } in made)) empty;
}

solved-ends : (S : Signature) (p : Problem) (standing : Standing) (steps : List Step) (context : Telescope) (solution : List Term)
    → IsSolved S p standing steps context solution → Ends S p steps context solution
solved-ends S p standing steps context solution is =
    by (start_made p) refl is.runs.run (λ s e. run-follows S p s is.runs.units is.ready is.scoped e)
  where
    by : (r : Result State Stop) → start_made p ≡ r → (unify_of S p is.runs.units).0 ≡ Ok (Solved steps context solution)
        → ((s : State) → start_made p ≡ Ok s → IfOk (unify_of S p is.runs.units).0 (IsReached S s)) → Ends S p steps context solution
    by (Ok s) e runs follows =
        ends-at S p s steps context solution (start-is p s e) (subst (λ (r : Result Outcome Stop). IfOk r (IsReached S s)) runs (follows s e))
    by (Err e) is' runs follows =
        absurd (not-started (sym (ap (λ r. (on_answer r is.runs.units (λ s rest. run_of S s rest)).0) is') ∙ runs))
      where
        not-started : (let refused : Result Outcome Stop = Err e in refused ≡ Ok (Solved steps context solution)) → ⊥
        not-started h = cc

pub replay_ends : ReplayEnds
replay_ends S p standing steps context solution is =
    let r = solved-ends S p standing steps context solution is in
    replay_is_run S (problem_state p) r.t steps standing r.chain is.state is.seen ∙ r.end

-- ---- the goal

-- under a solution with terms put for the variables after it
under-instance : (q : ℕ → Term) (solution : List Term) (G : Term) → inst q (under_solution solution G) ≡ under_solution (map (inst q) solution) G
under-instance q solution G =
    inst-inst q (fill no_variable solution) G ∙ ap (λ s. inst s G) (fun_ext (inst-fill q no_variable solution))

-- a goal of a standing is that of the beginning under the solution so far
solved-goal : (s : State) (w : Standing) (i x : ℕ) (A u G : Term) → IsAt s w → x < length s.context → IsTrue (lacks s.context (level_of (length s.context) x) u)
    → w.goal ≡ under_solution s.solution G → (solved_standing w x A u).goal ≡ under_solution (solved_state s i (level_of (length s.context) x) A u).solution G
solved-goal s w i x A u G at lt free e =
    ap₂ (λ (state : State) goal.
    put (solved (length state.context) (order_without state.context (level_of (length state.context) x)) (level_of (length state.context) x) u) (length state.context)
    (length (order_without state.context (level_of (length state.context) x))) goal) at.state e
    ∙ (solved-is_inst s.context p u (omega arith) free (under_solution s.solution G)
    ∙ (under-instance (solution_at s.context p u) s.solution G ∙ ap (λ solution. under_solution solution G) (sym (each s.solution))))
  where
    p : ℕ
    p = level_of (length s.context) x

    each : (ts : List Term) → map (put (solved (length s.context) (order_without s.context p) p u) (length s.context) (length (order_without s.context p))) ts
        ≡ map (inst (solution_at s.context p u)) ts
    each [] = refl
    each (t ∷ ts) = ap₂ ◌∷◌ (solved-is_inst s.context p u (omega arith) free t) (each ts)

compared-goal : (w : Standing) (g : ℕ) (o : Option Comparison) → (unless_compared w g o).goal ≡ w.goal
compared-goal w g None = refl
compared-goal w g (Some c) = refl

step-goal : (S : Signature) (s t : State) (step : Step) (w : Standing) (G : Term) → Steps S s step t → IsAt s w → w.goal ≡ under_solution s.solution G
    → (behind_step S w step).goal ≡ under_solution t.solution G
step-goal S s t _ w G (solve_right _ e x A u first solvable) at h =
    let step : Step = record { group = 1; rule = SolveRight x; ty = A; left = u; right = Var x } in
    ap (λ standing. standing.goal) (read S s w step at (ap SolveRight (number-own (length s.context) x solvable.variable)))
    ∙ solved-goal s w e.place.level x A u G at solvable.variable solvable.term h
step-goal S s t _ w G (solve_left _ e x A u first solvable) at h =
    let step : Step = record { group = 1; rule = SolveLeft x; ty = A; left = Var x; right = u } in
    ap (λ standing. standing.goal) (read S s w step at (ap SolveLeft (number-own (length s.context) x solvable.variable)))
    ∙ solved-goal s w e.place.level x A u G at solvable.variable solvable.term h
step-goal S s t _ w G (inject_group _ k f ps type b d left right same number group) at h =
    let step : Step = record { group = k + 1; rule = Inject b.n b.number; ty = type; left = term_of b; right = term_of d } in
    ap (λ standing. standing.goal) (read S s w step at refl) ∙ (compared-goal w (k + 1) (compared S w.state step) ∙ h)
step-goal S s t _ w G (inject _ e A b d left right same number level indices first) at h =
    let step : Step = record { group = 1; rule = Inject b.n b.number; ty = A; left = term_of b; right = term_of d } in
    ap (λ standing. standing.goal) (read S s w step at refl) ∙ (compared-goal w 1 (compared S w.state step) ∙ h)
step-goal S s t _ w G (delete _ e A u v k first converts) at h =
    let step : Step = record { group = 1; rule = Delete; ty = A; left = u; right = v } in
    ap (λ standing. standing.goal) (read S s w step at refl) ∙ h

run-goal : (S : Signature) (s t : State) (steps : List Step) (w : Standing) (G : Term) → Chain S s steps t → IsAt s w → w.goal ≡ under_solution s.solution G
    → (behind_run S steps w).goal ≡ under_solution t.solution G
run-goal S s t _ w G (none _) at h = h
run-goal S s t _ w G (more _ r _ step steps scoped goes rest) at h =
    run-goal S r t steps (behind_step S w step) G rest (step-replayed S s r step w goes at) (step-goal S s r step w G goes at h)

-- each variable for itself
own-solution : (S : Signature) (n : ℕ) (G : Term) → IsScoped S n G → G ≡ under_solution (variables n) G
own-solution S n G scoped =
    sym (inst-scoped (fill no_variable (variables n)) G n
    (λ i lt. ap (λ us. fill no_variable us i) (sym (own (variables n))) ∙ fill-variables no_variable Var n i lt) scoped.variables)
  where
    own : (us : List Term) → map (inst Var) us ≡ us
    own [] = refl
    own (u ∷ us) = ap₂ ◌∷◌ (inst-var u) (own us)

pub replay_goal : ReplayGoal
replay_goal S p standing steps context solution is scoped =
    let r = solved-ends S p standing steps context solution is in
    run-goal S (problem_state p) r.t steps standing standing.goal r.chain (record { state = is.state; hidden = is.seen })
    (own-solution S (length p.context) standing.goal scoped)
    ∙ ap (λ (state : State). under_solution state.solution standing.goal) r.end
