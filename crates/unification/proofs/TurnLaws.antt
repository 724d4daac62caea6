-- The laws of turns: they give no units back, one is always there, one that goes on makes the state less, and they follow the rules.
use Rattle.std.proofs.Common.{◌≡◌, ◌≢◌, ℕ, ◌≤◌, Option, Some, None, IfSome, Result, Ok, Err, IfOk, List, [], ◌∷◌, length, refl, subst, arith}
use Rattle.theory.specs.Signatures.{Signature}
use Rattle.core_terms.specs.declared.stop.Stop.{Stop}
use Rattle.core_terms.proofs.Answers.{and_next-has, Answers}
use Rattle.kernel_reduce.specs.Reduction.{answered}
use Rattle.unification.specs.States.{Equation, State}
use Rattle.unification.specs.Turns.{Turn, Done, Goes, Trial, tidied, unless_found, or_else, Fails, Sticks}
use Rattle.unification.specs.Groups.{group_trials}
use Rattle.unification.specs.Solutions.{solution_trial}
use Rattle.unification.specs.Constructors.{constructor_trial}
use Rattle.unification.specs.Cycles.{cycle_trial}
use Rattle.unification.specs.Deletions.{deletion_trial}
use Rattle.unification.specs.Sticking.{stuck_trial}
use Rattle.unification.specs.Strategy.{first_trials, trials, turn_of}
use Rattle.unification.specs.Laws.{TurnSpends, TurnIsThere, TurnFalls, Follows, TurnFollows}
use Rattle.unification.proofs.GroupTrials.{group_trials-are}
use Rattle.unification.proofs.SolutionTrials.{solution_trial-is}
use Rattle.unification.proofs.ConstructorTrials.{constructor_trial-is}
use Rattle.unification.proofs.CycleTrials.{cycle_trial-is}
use Rattle.unification.proofs.DeletionTrials.{deletion_trial-is, stuck_trial-is}
use Rattle.unification.proofs.SpentUnits.{Leaves, any-answer}
use Rattle.unification.proofs.Trials.{Found, Comes, applies-comes, or_else-comes}
use Rattle.unification.proofs.TurnProperties.{FollowsWhole, IsTurn}

first_trials-are : (S : Signature) (s : State) (left : ℕ) (e : Equation) (others : List Equation) → s.equations ≡ e ∷ others → (rest : ℕ) → rest ≤ left
    → Comes (IsTurn S s left) (first_trials S s e) rest
first_trials-are S s left e others first rest le =
    or_else-comes (IsTurn S s left) (solution_trial S s e) _ rest (solution_trial-is S s left e others first rest le) (λ a la.
    or_else-comes (IsTurn S s left) (constructor_trial S s e) _ a (constructor_trial-is S s left e others first a (omega arith)) (λ b lb.
    or_else-comes (IsTurn S s left) (cycle_trial S e) _ b (cycle_trial-is S s left e others first b) (λ c lc.
    or_else-comes (IsTurn S s left) (deletion_trial S s e) (stuck_trial S e) c (deletion_trial-is S s left e others first c (omega arith)) (λ d ld.
    stuck_trial-is S s left e others first d))))

trials-are : (S : Signature) (s : State) (left : ℕ) (equations : List Equation) → s.equations ≡ equations
    → Comes (IsTurn S s left) (trials S s equations) left
trials-are S s left [] none = applies-comes (IsTurn S s left) Done left (record { allowed = tt; right = λ ready scoped. record { good = (tt, tt); follows = none } })
trials-are S s left (e ∷ others) first =
    or_else-comes (IsTurn S s left) (group_trials S s (length others)) (first_trials S s e) left
    (group_trials-are S s left (length others) left (omega arith)) (first_trials-are S s left e others first)

-- each turn that a state comes to has all that is shown of turns
pub turn-is : (S : Signature) (s : State) (left : ℕ) → Comes (IsTurn S s left) (turn_of S s) left
turn-is S s left = trials-are S s left s.equations refl

-- the turn that is answered
pub turn-at : (S : Signature) (s : State) (left rest : ℕ) (turn : Turn) → turn_of S s left ≡ answered (Ok (Some turn)) rest → IsTurn S s left turn rest
turn-at S s left rest turn e = subst (λ r. Leaves (Found (IsTurn S s left)) r.0 r.1) e (turn-is S s left).leaves

-- a property of each turn of a state is one of the state's answer
pub turn-has : (S : Signature) (s : State) (left : ℕ) (P : Turn → Type 0) → ((turn : Turn) (rest : ℕ) → IsTurn S s left turn rest → P turn)
    → Answers (λ turn. IfSome turn P) (turn_of S s left)
turn-has S s left P h = by (turn_of S s left).0 (turn_of S s left).1 (turn-is S s left).leaves
  where
    by : (r : Result (Option Turn) Stop) (rest : ℕ) → Leaves (Found (IsTurn S s left)) r rest → IfOk r (λ turn. IfSome turn P)
    by (Ok (Some turn)) rest is = h turn rest is
    by (Ok None) rest is = tt
    by (Err e) rest is = tt

pub turn-spends : TurnSpends
turn-spends S s left = (turn-is S s left).spends

pub turn-falls : TurnFalls
turn-falls S s t left rest step e = (turn-at S s left rest (Goes step t) e).allowed.falls

pub turn-follows : TurnFollows
turn-follows S s left ready scoped = turn-has S s left (Follows S s) (λ turn rest is. by turn (is.right ready scoped).follows)
  where
    by : (turn : Turn) → FollowsWhole S s turn → Follows S s turn
    by Done h = tt
    by (Goes step t) h = h
    by (Fails step u v) h = h
    by (Sticks why u v) h = h

-- ---- a turn is there

-- the second trial finds a turn, and so one of them does
or_else-there : (first second : Trial) (left : ℕ) → ((rest : ℕ) → IfOk (second rest).0 (λ turn. turn ≢ None)) → IfOk (or_else first second left).0 (λ turn. turn ≢ None)
or_else-there first second left h = and_next-has (λ a. Unit {0}) (λ turn. turn ≢ None) (first left) _ (any-answer (first left).0) (λ found rest a. there found rest)
  where
    there : (found : Option Turn) (rest : ℕ) → IfOk (unless_found found second rest).0 (λ turn. turn ≢ None)
    there (Some turn) rest = λ e. cc
    there None rest = h rest

stuck-there : (S : Signature) (e : Equation) (left : ℕ) → IfOk (stuck_trial S e left).0 (λ turn. turn ≢ None)
stuck-there S e left = and_next-has (λ a. Unit {0}) (λ turn. turn ≢ None) (tidied S e.left e.right left) _ (any-answer (tidied S e.left e.right left).0) (λ sides rest a e. cc)

trials-there : (S : Signature) (s : State) (es : List Equation) (left : ℕ) → IfOk (trials S s es left).0 (λ turn. turn ≢ None)
trials-there S s [] left = λ e. cc
trials-there S s (e ∷ others) left =
    or_else-there (group_trials S s (length others)) _ left (λ l1.
    or_else-there (solution_trial S s e) _ l1 (λ l2.
    or_else-there (constructor_trial S s e) _ l2 (λ l3.
    or_else-there (cycle_trial S e) _ l3 (λ l4.
    or_else-there (deletion_trial S s e) (stuck_trial S e) l4 (stuck-there S e)))))

pub turn-is_there : TurnIsThere
turn-is_there S s left = trials-there S s s.equations left
