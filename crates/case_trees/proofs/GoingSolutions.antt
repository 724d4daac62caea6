-- A property of each state that a solution leads to, from one of the term that solves.
use Rattle.std.proofs.Common.{◌≡◌, ℕ, Bool, true, false, cond, Option, Some, None, IfSome, Ok, IfOk, length, refl}
use Rattle.theory.specs.Terms.{Term}
use Rattle.theory.specs.Signatures.{Signature}
use Rattle.core_terms.specs.Answers.{and_next}
use Rattle.core_terms.specs.CaseTrees.{Step}
use Rattle.core_terms.proofs.Answers.{and_then-has}
use Rattle.kernel_reduce.specs.Reduction.{nesting, normal_of}
use Rattle.unification.specs.Heights.{bounded_state}
use Rattle.unification.specs.Rules.{level_of}
use Rattle.unification.specs.Solutions.{is_free_of, if_free, solution_from, solves, state_solved, side_solved, turn_by, solve_side}
use Rattle.unification.specs.Solving.{solved_state}
use Rattle.unification.specs.States.{Equation, State}
use Rattle.unification.proofs.ScopedEquations.{bounded_state-has}
use Rattle.case_trees.proofs.Answered.{and_next-ok}
use Rattle.case_trees.proofs.GoingTurns.{OnGoing, MayGo, GoesWith}

-- a term that solves is the side or its normal form, and the variable is not in it
abbrev SolvesBy : (Q : Term → Type 0) → State → (x : ℕ) → Term → Type 0
SolvesBy Q s x w = Q w × (is_free_of s x w ≡ true)

solution_from-by : (S : Signature) (Q : Term → Type 0) (s : State) (x : ℕ) (other : Term) (left : ℕ) → Q other
    → ((left : ℕ) → IfOk (normal_of S true nesting other left).0 Q) → IfOk (solution_from S s x other left).0 (λ found. IfSome found (SolvesBy Q s x))
solution_from-by S Q s x other left own normal = by (is_free_of s x other) refl
  where
    of_normal : (v : Term) → Q v → (test : Bool) → is_free_of s x v ≡ test → IfSome (cond test (Some v) None) (SolvesBy Q s x)
    of_normal v q true e = (q, e)
    of_normal v q false e = tt

    by : (test : Bool) → is_free_of s x other ≡ test
        → IfOk (cond test (Ok (Some other), left) (and_next (normal_of S true nesting other left) (λ v rest. (Ok (if_free s x v), rest)))).0
        (λ found. IfSome found (SolvesBy Q s x))
    by true e = (own, e)
    by false e =
        and_next-ok Q (λ found. IfSome found (SolvesBy Q s x)) (normal_of S true nesting other left) _ (normal left)
        (λ v rest q. of_normal v q (is_free_of s x v) refl)

solves-by : (S : Signature) (Q : Term → Type 0) (s : State) (x : ℕ) (A other : Term) (left : ℕ) → Q other
    → ((left : ℕ) → IfOk (normal_of S true nesting other left).0 Q) → IfOk (solves S s x A other left).0 (λ found. IfSome found (SolvesBy Q s x))
solves-by S Q s x A other left own normal = by (is_free_of s x A)
  where
    by : (test : Bool) → IfOk (cond test (solution_from S s x other left) (Ok None, left)).0 (λ found. IfSome found (SolvesBy Q s x))
    by true = solution_from-by S Q s x other left own normal
    by false = tt

state_solved-goes : (P : State → Type 0) (Q : Term → Type 0) (s : State) (e : Equation) (x : ℕ) (A : Term) (step : Term → Step) (found : Option Term)
    → ((w : Term) → Q w → is_free_of s x w ≡ true → P (solved_state s e.place.level (level_of (length s.context) x) A w))
    → IfSome found (SolvesBy Q s x) → IfOk (state_solved s e x A found) (λ pair. IfSome (turn_by step pair) (OnGoing P))
state_solved-goes P Q s e x A step None h is = tt
state_solved-goes P Q s e x A step (Some w) h is =
    and_then-has P (λ pair. IfSome (turn_by step pair) (OnGoing P)) (bounded_state (solved_state s e.place.level (level_of (length s.context) x) A w)) _
    (bounded_state-has P (solved_state s e.place.level (level_of (length s.context) x) A w) (h w is.0 is.1)) (λ t k. k)

pub solve_side-goes : (P : State → Type 0) (S : Signature) (Q : Term → Type 0) (s : State) (e : Equation) (A other : Term) (step : ℕ → Term → Step)
    (found : Option ℕ) (left : ℕ) → Q other → ((left : ℕ) → IfOk (normal_of S true nesting other left).0 Q)
    → ((x : ℕ) (w : Term) → found ≡ Some x → Q w → is_free_of s x w ≡ true → P (solved_state s e.place.level (level_of (length s.context) x) A w))
    → GoesWith P (solve_side S s e A other step found) left
solve_side-goes P S Q s e A other step None left own normal h = tt
solve_side-goes P S Q s e A other step (Some x) left own normal h =
    and_next-ok (λ pair. IfSome (turn_by (step x) pair) (OnGoing P)) (MayGo P) (side_solved S s e x A other left) _
    (and_next-ok (λ found. IfSome found (SolvesBy Q s x)) (λ pair. IfSome (turn_by (step x) pair) (OnGoing P)) (solves S s x A other left) _
    (solves-by S Q s x A other left own normal)
    (λ found rest is. state_solved-goes P Q s e x A (step x) found (λ w q free. h x w refl q free) is))
    (λ pair rest is. is)
