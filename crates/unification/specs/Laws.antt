-- Laws of runs: they follow the rules, they end, they unify, and their ends have evidence.
use Rattle.std.specs.Prelude.{◌≡◌, ◌≢◌, ℕ, ◌+◌, ◌<◌, ◌≤◌, false, None, Some, Ok, IfOk, IfSome, IsTrue, List, [], ◌∷◌, ◌++◌, length, map, slice_get, All, Result}
use Rattle.theory.specs.Terms.{Term}
use Rattle.theory.specs.Substitutions.{inst, fill}
use Rattle.theory.specs.Telescopes.{Telescope}
use Rattle.theory.specs.Eliminators.{no_variable}
use Rattle.theory.specs.Signatures.{Signature}
use Rattle.theory.specs.Conversion.{Converts}
use Rattle.theory.specs.SignatureScopes.{IsScoped, IsScopedTelescope}
use Rattle.core_terms.specs.CaseTrees.{Step}
use Rattle.core_terms.specs.declared.case_tree.Rule.TheVariants.{Delete}
use Rattle.core_terms.specs.declared.stop.Stop.{Stop}
use Rattle.kernel_reduce.specs.Reduction.{answered}
use Rattle.tele_eq.specs.ReflexivityLaws.{EachConverts}
use Rattle.unification.specs.States.{State, Problem}
use Rattle.tele_eq.specs.Levels.{place_in}
use Rattle.unification.specs.Occurrences.{lacks, order_without}
use Rattle.unification.specs.Solving.{solved_state}
use Rattle.unification.specs.Heights.{start_made}
use Rattle.unification.specs.Turns.{Turn, Goes, Fails}
use Rattle.unification.specs.Cycles.{in_form, search_in}
use Rattle.unification.specs.Strategy.{turn_of}
use Rattle.unification.specs.Outcomes.{Outcome, Solved, Absurd, Stuck, steps_in}
use Rattle.unification.specs.Runs.{Run, run_of, unify_of, size_of_sides}
use Rattle.unification.specs.Rules.{Steps, IsAbsurd, ChainWith}
use Rattle.unification.specs.Coherence.{IsCoherent}
use Rattle.unification.specs.declared.why.Why.{Why}
use Rattle.unification.specs.ScopedStates.{IsReady, IsScopedState, IsScopedProblem, IsScopedAt, IsScopedTurn, IsScopedOutcome}

-- ---- runs end

-- no turn gives units back
abbrev pub TurnSpends : Type 0
TurnSpends = (S : Signature) (s : State) (left : ℕ) → (turn_of S s left).1 ≤ left

-- some rule goes on or says why none does
abbrev pub TurnIsThere : Type 0
TurnIsThere = (S : Signature) (s : State) (left : ℕ) → IfOk (turn_of S s left).0 (λ turn. turn ≢ None)

-- A turn that goes on spends units, or else solves a variable, or else makes the equations smaller.
pub data Falls (s : State) (left : ℕ) (t : State) (rest : ℕ) : Type 0 where
  units : rest < left → Falls s left t rest
  variables : rest ≡ left → length t.context < length s.context → Falls s left t rest
  size : rest ≡ left → length t.context ≡ length s.context → size_of_sides t.equations < size_of_sides s.equations
      → Falls s left t rest

abbrev pub TurnFalls : Type 0
TurnFalls =
    (S : Signature) (s t : State) (left rest : ℕ) (step : Step) → turn_of S s left ≡ answered (Ok (Some (Goes step t))) rest →
    Falls s left t rest

-- from each state there is a run, with the answer that is worked out,
abbrev pub RunsEnd : Type 0
RunsEnd = (S : Signature) (s : State) (left : ℕ) → Run S s left (run_of S s left).0 (run_of S s left).1

-- and no other
abbrev pub RunIsUnique : Type 0
RunIsUnique =
    (S : Signature) (s : State) (left rest : ℕ) (result : Result Outcome Stop) → Run S s left result rest →
    run_of S s left ≡ answered result rest

abbrev pub UnifySpends : Type 0
UnifySpends = (S : Signature) (p : Problem) (left : ℕ) → (unify_of S p left).1 ≤ left

-- ---- searches below constructors end

-- A search goes on in each argument as it began, whatever has been spent and however deep it is: its measure is never used up.
abbrev pub SearchGoesOn : Type 0
SearchGoesOn =
    (S : Signature) (n x : ℕ) (t : Term) (left : ℕ) →
    search_in S n x t left ≡ in_form S n x (λ before. search_in S n x) t left

-- ---- runs follow the rules

-- the sides that are shown with a last step convert to its own
pub record Shows (S : Signature) (last : Step) (u v : Term) : Type 0 where
  pub left : Converts S last.left u
  pub right : Converts S last.right v

-- a turn that goes on is a step of the rules, and one that fails has the evidence of a rule for the sides that it shows
abbrev pub Follows : Signature → State → Turn → Type 0
Follows S s (Goes step t) = Steps S s step t
Follows S s (Fails step u v) = IsAbsurd S s step × Shows S step u v
Follows S s _ = Unit {0}

abbrev pub TurnFollows : Type 0
TurnFollows =
    (S : Signature) (s : State) (left : ℕ) → IsReady S → IsScopedState S s →
    IfOk (turn_of S s left).0 (λ turn. IfSome turn (Follows S s))

-- the steps from a state to another one, each of them one of the rules and scoped in the state before it
abbrev pub Chain : Signature → State → List Step → State → Type 0
Chain S = ChainWith S (IsScopedAt S)

-- an outcome is reached by its steps from a state on
pub data IsReached (S : Signature) (s : State) : Outcome → Type 0 where
  solved : (t : State) (steps : List Step) → Chain S s steps t → t.equations ≡ [] → IsReached S s (Solved steps t.context t.solution)
  absurd : (t : State) (steps : List Step) (last : Step) (u v : Term) → Chain S s steps t → IsAbsurd S t last
      → Shows S last u v → IsReached S s (Absurd (steps ++ last ∷ []) t.context u v)
  stuck : (t : State) (steps : List Step) (u v : Term) (why : Why) → Chain S s steps t → IsReached S s (Stuck steps t.context u v why)

-- the run of a problem follows the rules
abbrev pub RunFollows : Type 0
RunFollows =
    (S : Signature) (p : Problem) (s : State) (left : ℕ) → IsReady S → IsScopedProblem S p → start_made p ≡ Ok s →
    IfOk (unify_of S p left).0 (IsReached S s)

-- without K no equation is deleted
abbrev pub NoDeletionWithoutK : Type 0
NoDeletionWithoutK =
    (S : Signature) (p : Problem) (left : ℕ) → S.has_k ≡ false →
    IfOk (unify_of S p left).0 (λ outcome. All (λ step. step.rule ≢ Delete) (steps_in outcome))

-- ---- solutions

-- the terms of a context, once its variables have the terms of a solution
abbrev pub under : (solution terms : List Term) → List Term
under solution terms = map (inst (fill no_variable solution)) terms

-- Where each injectivity is coherent, as in problems that have types, a solved problem is unified, with K or without: the two sides
-- of each equation convert under the solution.
abbrev pub SolvedIsUnified : Type 0
SolvedIsUnified =
    (S : Signature) (p : Problem) (s t : State) (steps : List Step) → IsReady S → IsScopedProblem S p → start_made p ≡ Ok s →
    ChainWith S (λ s step. IsScopedState S s × IsCoherent S s step) s steps t → t.equations ≡ [] →
    EachConverts S (under t.solution p.left) (under t.solution p.right)

-- If each step of a solved run is coherent in the state that the steps before it lead to, the problem is unified.
abbrev pub RunUnifies : Type 0
RunUnifies =
    (S : Signature) (p : Problem) (s : State) (left : ℕ) (steps : List Step) (context : Telescope) (solution : List Term) →
    IsReady S → IsScopedProblem S p → start_made p ≡ Ok s → (unify_of S p left).0 ≡ Ok (Solved steps context solution) →
    ((t : State) (done rest : List Step) (step : Step) → steps ≡ done ++ step ∷ rest → Chain S s done t → IsCoherent S t step) →
    EachConverts S (under solution p.left) (under solution p.right)

-- a solution has a term for each variable of the context that was given
abbrev pub SolutionIsWhole : Type 0
SolutionIsWhole =
    (S : Signature) (p : Problem) (left : ℕ) (steps : List Step) (context : Telescope) (solution : List Term) →
    (unify_of S p left).0 ≡ Ok (Solved steps context solution) → length solution ≡ length p.context

-- Where variable p is solved by a term without it, the other variables occur in the new context, each of them once, in an order in
-- which each type is over the variables before it.
pub record IsSolvedContext (S : Signature) (context new : Telescope) (p : ℕ) : Type 0 where
  pub shorter : length new + 1 ≡ length context
  pub each : (j : ℕ) → j < length context → j ≢ p →
      (place_in (order_without context p) j < length new)
      × (slice_get (order_without context p) (place_in (order_without context p) j) ≡ Some j)
  pub scoped : IsScopedTelescope S 0 new

abbrev pub SolvedContext : Type 0
SolvedContext =
    (S : Signature) (s : State) (i p : ℕ) (A u : Term) → IsScopedState S s → p < length s.context →
    IsScoped S (length s.context) u →
    IsTrue (lacks s.context p u) → IsSolvedContext S s.context (solved_state s i p A u).context p

-- ---- scopes

abbrev pub StartScoped : Type 0
StartScoped = (S : Signature) (p : Problem) → IsReady S → IsScopedProblem S p → IfOk (start_made p) (IsScopedState S)

abbrev pub TurnScoped : Type 0
TurnScoped =
    (S : Signature) (s : State) (left : ℕ) → IsReady S → IsScopedState S s →
    IfOk (turn_of S s left).0 (λ turn. IfSome turn (IsScopedTurn S s))

abbrev pub OutcomeScoped : Type 0
OutcomeScoped =
    (S : Signature) (p : Problem) (left : ℕ) → IsReady S → IsScopedProblem S p →
    IfOk (unify_of S p left).0 (IsScopedOutcome S (length p.context))
