-- The steps of a run are followed from the context of its problem on.
use Rattle.std.proofs.Common.{◌≡◌, ℕ, ◌≤◌, ◌<◌, true, Option, IfSome, Result, Ok, Err, IfOk, List, ◌∷◌, length, sym, ap, subst as transport, arith}
use Rattle.std.proofs.lemmas.Result.{IfOk-at_ok}
use Rattle.theory.specs.Terms.{Term, height}
use Rattle.theory.specs.Telescopes.{Telescope}
use Rattle.theory.specs.Signatures.{Signature}
use Rattle.theory.specs.SignatureScopes.{IsScoped}
use Rattle.core_terms.specs.Answers.{Spent, are_low}
use Rattle.core_terms.specs.CaseTrees.{Step}
use Rattle.core_terms.specs.declared.stop.Stop.{Stop}
use Rattle.core_terms.proofs.Answers.{and_then-has}
use Rattle.unification.specs.Heights.{start_made, equations_made, bounded_state}
use Rattle.unification.specs.Outcomes.{Outcome, Solved, Absurd, Stuck, before}
use Rattle.unification.specs.Rules as rule
use Rattle.unification.specs.Rules.{Steps, level_of}
use Rattle.unification.specs.Runs.{Run, end_of, behind_step, run_of, unify_of}
use Rattle.unification.specs.Runs.Run.{ends, refused, goes}
use Rattle.unification.specs.ScopedStates.{IsReady, IsScopedState, IsScopedStep, IsScopedProblem}
use Rattle.unification.specs.Solving.{solved_state}
use Rattle.unification.specs.States.{State, Problem, starting}
use Rattle.unification.specs.Turns.{Turn, Done, Goes, Fails, Sticks}
use Rattle.unification.proofs.MovedStates.{solved_state-context}
use Rattle.unification.proofs.RunLaws.{runs-end}
use Rattle.unification.proofs.RunProperties.{unify-has}
use Rattle.unification.proofs.ScopedEquations.{start-is, start-scoped}
use Rattle.unification.proofs.SpentUnits.{any-answer}
use Rattle.unification.proofs.TurnLaws.{turn-at}
use Rattle.unification.proofs.TurnProperties.{IsRight}
use Rattle.problems.specs.Conditions.{most_levels}
use Rattle.problems.proofs.Rooms.{context-room}
use Rattle.clause_splitting.specs.Following.{AreFollowed, IsSolvedBy}
use Rattle.clause_splitting.proofs.LowTurns.{IsLowTurn, bounded-context, turn-low}

-- a state with a low context, of few variables
record IsLowState (S : Signature) (s : State) : Type 0 where
  pub scoped : IsScopedState S s
  pub low : are_low s.context ≡ true
  pub few : length s.context ≤ most_levels

-- the context after a solution has fewer variables
fewer : (S : Signature) (s : State) (i x : ℕ) (A u : Term) → IsLowState S s → x < length s.context
    → length (solved_state s i (level_of (length s.context) x) A u).context ≤ most_levels
fewer S s i x A u good less =
    let few : length s.context ≤ most_levels = good.few in
    let e = solved_state-context s i (level_of (length s.context) x) A u (omega arith) in
    omega arith

-- the first state is low
start-low : (p : Problem) (s : State) → start_made p ≡ Ok s → are_low s.context ≡ true
start-low p s start =
    IfOk-at_ok (λ (t : State). are_low t.context ≡ true) start
    (and_then-has (λ types. Unit {0}) (λ (t : State). are_low t.context ≡ true) (equations_made p.telescope p.left p.right)
    (λ types. bounded_state (starting p types)) (any-answer _) (λ types is. bounded-context (starting p types)))

-- the steps of a solution are followed from a context on
abbrev pub Follows : Telescope → Outcome → Type 0
Follows context (Solved steps new solution) = AreFollowed steps context
Follows context (Absurd steps new u v) = Unit {0}
Follows context (Stuck steps new u v why) = Unit {0}

solved-by : (S : Signature) (s : State) (x : ℕ) (u : Term) → IsLowState S s → x < length s.context → IsScoped S (length s.context) u
    → height u ≤ 2000 → IsSolvedBy s.context x u
solved-by S s x u good less scoped low = record {
  types = context-room S 0 s.context good.scoped.context good.low (let few = good.few in omega arith);
  variable = less;
  by = (low, scoped.variables, let few = good.few in omega arith);
}

-- the step of a turn, before the steps that are followed from the next context on
step-followed : (S : Signature) (s t : State) (step : Step) (steps : List Step) → IsLowState S s → IsScopedStep S (length s.context) step
    → IsLowTurn (Goes step t) → Steps S s step t → AreFollowed steps t.context → AreFollowed (step ∷ steps) s.context
step-followed S _ _ _ steps good scoped low (rule.solve_right s e x A u first can) h =
    (solved-by S s x u good can.variable scoped.left low.0, h)
step-followed S _ _ _ steps good scoped low (rule.solve_left s e x A u first can) h =
    (solved-by S s x u good can.variable scoped.right low.0, h)
step-followed S _ _ _ steps good scoped low (rule.inject_group s k f ps type b d _ _ _ _ _) h = h
step-followed S _ _ _ steps good scoped low (rule.inject s e A b d _ _ _ _ _ _ _) h = h
step-followed S _ _ _ steps good scoped low (rule.delete s e A v w _ _ _) h = h

before-followed : (S : Signature) (s t : State) (step : Step) (outcome : Outcome) → IsLowState S s → IsScopedStep S (length s.context) step
    → IsLowTurn (Goes step t) → Steps S s step t → Follows t.context outcome → Follows s.context (before step outcome)
before-followed S s t step (Solved steps new solution) good scoped low one h = step-followed S s t step steps good scoped low one h
before-followed S s t step (Absurd steps new u v) good scoped low one h = tt
before-followed S s t step (Stuck steps new u v why) good scoped low one h = tt

-- the next state
next-low : (S : Signature) (s t : State) (step : Step) → IsLowState S s → IsScopedState S t → IsLowTurn (Goes step t) → Steps S s step t → IsLowState S t
next-low S _ _ _ good scoped low (rule.solve_right s e x A u first can) =
    record { scoped = scoped; low = low.1; few = fewer S s e.place.level x A u good can.variable }
next-low S _ _ _ good scoped low (rule.solve_left s e x A u first can) =
    record { scoped = scoped; low = low.1; few = fewer S s e.place.level x A u good can.variable }
next-low S _ _ _ good scoped low (rule.inject_group s k f ps type b d _ _ _ _ _) = record { scoped = scoped; low = good.low; few = good.few }
next-low S _ _ _ good scoped low (rule.inject s e A b d _ _ _ _ _ _ _) = record { scoped = scoped; low = good.low; few = good.few }
next-low S _ _ _ good scoped low (rule.delete s e A v w _ _ _) = record { scoped = scoped; low = good.low; few = good.few }

end-followed : (s : State) (turn : Turn) → IfSome (end_of s turn) (Follows s.context)
end-followed s Done = tt
end-followed s (Goes step t) = tt
end-followed s (Fails step u v) = tt
end-followed s (Sticks why u v) = tt

run-followed : (S : Signature) (s : State) (left end : ℕ) (result : Result Outcome Stop) → IsReady S → IsLowState S s → Run S s left result end
    → IfOk result (Follows s.context)
run-followed S s left end result ready good (ends _ _ rest turn outcome is e) = transport (λ o. IfSome o (Follows s.context)) e (end-followed s turn)
run-followed S s left end result ready good (refused _ _ rest x is) = tt
run-followed S s left end result ready good (goes _ t _ rest _ step result' is run) =
    behind result' (run-followed S t rest end result' ready (next-low S s t step good right.good.0.1 low right.follows) run)
  where
    right : IsRight S s (Goes step t)
    right = (turn-at S s left rest (Goes step t) is).right ready good.scoped

    low : IsLowTurn (Goes step t)
    low = transport (λ (r : Spent (Option Turn)). IfOk r.0 (λ found. IfSome found IsLowTurn)) is (turn-low S s left)

    behind : (result : Result Outcome Stop) → IfOk result (Follows t.context) → IfOk (behind_step step result) (Follows s.context)
    behind (Ok outcome) h = before-followed S s t step outcome good right.good.0.0 low right.follows h
    behind (Err e) h = tt

-- the steps of a problem's outcome can be followed
pub unify-followed : (S : Signature) (p : Problem) (left : ℕ) → IsReady S → IsScopedProblem S p → length p.context ≤ most_levels
    → IfOk (unify_of S p left).0 (λ outcome. Follows p.context outcome)
unify-followed S p left ready scoped few =
    unify-has S p left (Follows p.context) (λ s start.
    let is = start-is p s start in
    let same : s.context ≡ p.context = ap (λ (t : State). t.context) is in
    transport (λ context. IfOk (run_of S s left).0 (Follows context)) same
    (run-followed S s left (run_of S s left).1 (run_of S s left).0 ready
    (record {
      scoped = IfOk-at_ok (IsScopedState S) start (start-scoped S p ready scoped);
      low = start-low p s start;
      few = transport (λ (context : Telescope). length context ≤ most_levels) (sym same) few;
    }) (runs-end S s left)))
