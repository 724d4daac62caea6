-- Properties of each run, from those of its turns: it gives no units back, without K it deletes nothing, and a solution has a term for
-- each variable.
use Rattle.std.proofs.Common.{◌≡◌, ◌≢◌, ℕ, ◌≤◌, false, Option, Some, IfSome, Result, Ok, Err, IfOk, [], length, All, refl, ap, subst, ◌∙◌, arith}
use Rattle.std.proofs.lemmas.List.Elements.{All-nil, All-cons}
use Rattle.std.proofs.lemmas.Result.{IfOk-at_ok}
use Rattle.theory.specs.Signatures.{Signature}
use Rattle.theory.proofs.ScopedTypes.{length-variables}
use Rattle.core_terms.specs.Answers.{on_answer}
use Rattle.core_terms.specs.CaseTrees.{Step}
use Rattle.core_terms.specs.declared.case_tree.Rule.TheVariants.{Delete}
use Rattle.core_terms.specs.declared.stop.Stop.{Stop}
use Rattle.kernel_reduce.specs.Reduction.{answered}
use Rattle.unification.specs.States.{State, Problem}
use Rattle.unification.specs.Heights.{start_made}
use Rattle.unification.specs.Outcomes.{Outcome, Solved, Absurd, Stuck, steps_in, before}
use Rattle.unification.specs.Turns.{Turn, Done, Goes, Fails, Sticks}
use Rattle.unification.specs.Strategy.{turn_of}
use Rattle.unification.specs.Runs.{Run, end_of, behind_step, run_of, unify_of}
use Rattle.unification.specs.Runs.Run.{ends, refused, goes}
use Rattle.unification.specs.Laws.{UnifySpends, NoDeletionWithoutK, SolutionIsWhole}
use Rattle.unification.proofs.RunLaws.{runs-end}
use Rattle.unification.proofs.TurnLaws.{turn-at, turn-spends}
use Rattle.unification.proofs.TurnProperties.{IsTurn}
use Rattle.unification.proofs.ScopedEquations.{start-is}

-- ---- runs

-- a property of the ends of good states that is kept with one step more is a property of each outcome
pub run-has : (S : Signature) (Good : State → Type 0) (P : State → Outcome → Type 0)
    → ((s : State) (left rest : ℕ) (turn : Turn) → Good s → IsTurn S s left turn rest → IfSome (end_of s turn) (P s))
    → ((s t : State) (left rest : ℕ) (step : Step) → Good s → IsTurn S s left (Goes step t) rest → Good t)
    → ((s t : State) (left rest : ℕ) (step : Step) (outcome : Outcome) → Good s → IsTurn S s left (Goes step t) rest → P t outcome → P s (before step outcome))
    → (s : State) (left end : ℕ) (result : Result Outcome Stop) → Good s → Run S s left result end → IfOk result (P s)
run-has S Good P at_end next longer s left end result good (ends _ _ rest turn outcome is e) =
    subst (λ o. IfSome o (P s)) e (at_end s left rest turn good (turn-at S s left rest turn is))
run-has S Good P at_end next longer s left end result good (refused _ _ rest x is) = tt
run-has S Good P at_end next longer s left end result good (goes _ t _ rest _ step result' is run) =
    behind result' (run-has S Good P at_end next longer t rest end result' (next s t left rest step good turn) run)
  where
    turn : IsTurn S s left (Goes step t) rest
    turn = turn-at S s left rest (Goes step t) is

    behind : (result : Result Outcome Stop) → IfOk result (P t) → IfOk (behind_step step result) (P s)
    behind (Ok outcome) h = longer s t left rest step outcome good turn h
    behind (Err e) h = tt

-- a property of the run from the first state is one of the run of a problem
pub unify-has : (S : Signature) (p : Problem) (left : ℕ) (P : Outcome → Type 0)
    → ((s : State) → start_made p ≡ Ok s → IfOk (run_of S s left).0 P) → IfOk (unify_of S p left).0 P
unify-has S p left P h = by (start_made p) refl
  where
    by : (made : Result State Stop) → start_made p ≡ made → IfOk (on_answer made left (λ s rest. run_of S s rest)).0 P
    by (Ok s) e = h s e
    by (Err e) is = tt

-- ---- units

turn-leaves : (S : Signature) (s : State) (left rest : ℕ) (answer : Result (Option Turn) Stop) → turn_of S s left ≡ answered answer rest → rest ≤ left
turn-leaves S s left rest answer is = subst (λ r. r.1 ≤ left) is (turn-spends S s left)

run-spends : (S : Signature) (s : State) (left n : ℕ) (result : Result Outcome Stop) → Run S s left result n → n ≤ left
run-spends S s left n result (ends _ _ rest turn outcome is e) = turn-leaves S s left rest (Ok (Some turn)) is
run-spends S s left n result (refused _ _ rest x is) = turn-leaves S s left rest (Err x) is
run-spends S s left n result (goes _ t _ rest _ step result' is run) =
    let h : n ≤ rest = run-spends S t rest n result' run in
    let k : rest ≤ left = turn-leaves S s left rest (Ok (Some (Goes step t))) is in
    omega arith

pub unify-spends : UnifySpends
unify-spends S p left = by (start_made p)
  where
    by : (made : Result State Stop) → (on_answer made left (λ s rest. run_of S s rest)).1 ≤ left
    by (Ok s) = run-spends S s left (run_of S s left).1 (run_of S s left).0 (runs-end S s left)
    by (Err e) = omega arith

-- ---- deletions

-- no step of an outcome is a deletion
AreKept : Outcome → Type 0
AreKept outcome = All (λ step. step.rule ≢ Delete) (steps_in outcome)

before-kept : (step : Step) (outcome : Outcome) → step.rule ≢ Delete → AreKept outcome → AreKept (before step outcome)
unfolding AreKept
before-kept step (Solved steps context solution) h k = All-cons (λ step. step.rule ≢ Delete) step steps h k
before-kept step (Absurd steps context u v) h k = All-cons (λ step. step.rule ≢ Delete) step steps h k
before-kept step (Stuck steps context u v why) h k = All-cons (λ step. step.rule ≢ Delete) step steps h k

end-kept : (S : Signature) (s : State) (left rest : ℕ) (turn : Turn) → S.has_k ≡ false → IsTurn S s left turn rest → IfSome (end_of s turn) AreKept
unfolding AreKept
end-kept S s left rest Done none h = All-nil (λ step. step.rule ≢ Delete)
end-kept S s left rest (Goes step t) none h = tt
end-kept S s left rest (Fails step u v) none h = All-cons (λ step. step.rule ≢ Delete) step [] (h.allowed none) (All-nil (λ step. step.rule ≢ Delete))
end-kept S s left rest (Sticks why u v) none h = All-nil (λ step. step.rule ≢ Delete)

pub no_deletion-without_k : NoDeletionWithoutK
unfolding AreKept
no_deletion-without_k S p left none =
    unify-has S p left AreKept (λ s start.
    run-has S (λ s. Unit {0}) (λ s. AreKept) (λ s left rest turn good is. end-kept S s left rest turn none is) (λ s t left rest step good is. tt)
    (λ s t left rest step outcome good is kept. before-kept step outcome (is.allowed.deletes none) kept)
    s left (run_of S s left).1 (run_of S s left).0 tt (runs-end S s left))

-- ---- solutions

-- a solution has n terms
IsWholeFor : ℕ → Outcome → Type 0
IsWholeFor n (Solved steps context solution) = length solution ≡ n
IsWholeFor n (Absurd steps context u v) = Unit {0}
IsWholeFor n (Stuck steps context u v why) = Unit {0}

before-whole : (n : ℕ) (step : Step) (outcome : Outcome) → IsWholeFor n outcome → IsWholeFor n (before step outcome)
unfolding IsWholeFor
before-whole n step (Solved steps context solution) h = h
before-whole n step (Absurd steps context u v) h = tt
before-whole n step (Stuck steps context u v why) h = tt

end-whole : (s : State) (turn : Turn) → IfSome (end_of s turn) (IsWholeFor (length s.solution))
unfolding IsWholeFor
end-whole s Done = refl
end-whole s (Goes step t) = tt
end-whole s (Fails step u v) = tt
end-whole s (Sticks why u v) = tt

pub solution-is_whole : SolutionIsWhole
unfolding IsWholeFor
solution-is_whole S p left steps context solution e =
    IfOk-at_ok (IsWholeFor (length p.context)) e
    (unify-has S p left (IsWholeFor (length p.context)) (λ s start.
    subst (λ n. IfOk (run_of S s left).0 (IsWholeFor n)) (ap (λ (t : State). length t.solution) (start-is p s start) ∙ length-variables (length p.context))
    (run-has S (λ s. Unit {0}) (λ s. IsWholeFor (length s.solution)) (λ s left rest turn good is. end-whole s turn) (λ s t left rest step good is. tt)
    (λ s t left rest step outcome good is whole.
    before-whole (length s.solution) step outcome (subst (λ n. IsWholeFor n outcome) is.allowed.whole whole))
    s left (run_of S s left).1 (run_of S s left).0 tt (runs-end S s left))))
