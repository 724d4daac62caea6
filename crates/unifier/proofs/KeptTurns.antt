-- The turn of a state that is kept leads to one that is kept.
use Rattle.std.proofs.Common.{ℕ, ◌+◌, ◌≤◌, Option, Some, Result, Ok, Err, IfOk, IfSome, sym, subst, arith}
use Rattle.theory.specs.Signatures.{Signature}
use Rattle.theory.proofs.ScopedTerms.{scoped_over_more}
use Rattle.core_terms.specs.Answers.{Spent, Runs}
use Rattle.core_terms.specs.declared.stop.Stop.{Stop}
use Rattle.unification.proofs.TurnScopes.{turn-scoped}
use Rattle.unification.specs.ScopedStates.{IsReady, IsScopedEquation, IsScopedTurn}
use Rattle.unification.specs.States.{Equation, State}
use Rattle.unification.specs.Strategy.{turn_of}
use Rattle.unification.specs.Turns as turns
use Rattle.unification.specs.Turns.{Done, Goes, Fails, Sticks}
use Rattle.problems.specs.Conditions.{IsKept, LeadsOn, LeadsToRoom, most_levels}
use Rattle.problems.specs.Meanings as code
use Rattle.problems.specs.declared.turn.Turn.{Turn}

-- an equation that is scoped over fewer variables
pub equation-more : (S : Signature) (n : ℕ) (e : Equation) → n ≤ most_levels → IsScopedEquation S n 0 e → IsScopedEquation S most_levels 0 e
equation-more S n e few h = record {
  place = scoped_over_more S (n + 0) (most_levels + 0) e.place.type (omega arith) h.place;
  level = h.level;
  form = h.form;
  type = scoped_over_more S (n + 0) (most_levels + 0) e.type (omega arith) h.type;
  left = scoped_over_more S n most_levels e.left few h.left;
  right = scoped_over_more S n most_levels e.right few h.right;
}

one-kept : (S : Signature) (s : State) (turn : turns.Turn) → IsScopedTurn S s turn → LeadsToRoom turn → LeadsOn S turn
one-kept S s Done scoped room = tt
one-kept S s (Goes step t) scoped room = record { scoped = scoped.1; low = room.low; few = room.few }
one-kept S s (Fails step u v) scoped room = tt
one-kept S s (Sticks why u v) scoped room = tt

-- the next state is scoped, since the turn is that of the definition
pub turn-kept : (S : Signature) (s : State) (left end : ℕ) (result : Result Turn Stop) → IsReady S → IsKept S s → Runs (λ turn. Some (code.turn_of turn)) result end (turn_of S s left)
    → IfOk result (λ turn. LeadsToRoom (code.turn_of turn)) → IfOk result (λ turn. LeadsOn S (code.turn_of turn))
turn-kept S s left end (Ok turn) ready kept answer room =
    one-kept S s (code.turn_of turn) (subst (λ (r : Spent (Option turns.Turn)). IfOk r.0 (λ turn. IfSome turn (IsScopedTurn S s))) (sym answer) (turn-scoped S s left ready kept.scoped)) room
turn-kept S s left end (Err e) ready kept answer room = tt
