-- A given problem: the state from which it starts, and the outcome.
use Rattle.std.proofs.Common.{◌≡◌, ℕ, ◌+◌, ◌≤◌, ◌<◌, ◌&&◌, Bool, true, false, cond, Result, Ok, Err, IfOk, List, [], ◌∷◌, length, map, All, sym, ap, ◌∙◌, subst, arith}
use Rattle.std.proofs.lemmas.List.{length-map}
use Rattle.std.proofs.lemmas.List.Elements.{All-tail}
use Rattle.theory.specs.Terms.{Term, free_of}
use Rattle.theory.specs.Signatures.{Signature}
use Rattle.theory.specs.SignatureScopes.{IsScoped, IsScopedTelescope}
use Rattle.core_terms.specs.Answers.{Runs, and_then, are_low}
use Rattle.core_terms.specs.Meanings.{tree_of, tele_of}
use Rattle.core_terms.specs.declared.stop.Stop.{Stop}
use Rattle.core_terms.specs.declared.stop.Stop.TheVariants.{Deep}
use Rattle.kernel_reduce.proofs.Runs.{runs-has}
use Rattle.tele_eq.specs.Items.{Item, item_of}
use Rattle.unification.proofs.OutcomeScopes.{outcome-scoped}
use Rattle.unification.proofs.ScopedEquations.{start-scoped}
use Rattle.unification.specs.Heights.{are_low_equations, bounded_state, equations_made, start_made}
use Rattle.unification.specs.Runs.{unify_of}
use Rattle.unification.specs.ScopedStates.{IsReady, IsScopedProblem, IsScopedOutcome, IsScopedState}
use Rattle.unification.specs.States.{State, Problem, starting}
use Rattle.problems.specs.Conditions.{HasFewVariables, HaveFewVariables, IsKept, most_levels}
use Rattle.problems.specs.Meanings.{outcome_of, problem_of}
use Rattle.problems.specs.declared.outcome.Outcome.{Outcome}
use Rattle.problems.specs.declared.problem.Problem as code

-- ---- few variables

telescope-few : (S : Signature) (n : ℕ) (tele : List Term) → IsScopedTelescope S n tele → n + length tele ≤ 2147483648 → HaveFewVariables tele
telescope-few S n [] h few = tt
telescope-few S n (a ∷ tele) h few = let f : free_of a ≤ n = h.0.variables in (omega arith, telescope-few S (n + 1) tele h.1 (omega arith))

terms-few : (S : Signature) (n : ℕ) (ts : List Term) → All (IsScoped S n) ts → n ≤ 2147483648 → HaveFewVariables ts
terms-few S n [] h few = tt
terms-few S n (t ∷ ts) h few =
    let f : free_of t ≤ n = (h 0 t (omega arith)).variables in (omega arith, terms-few S n ts (All-tail (IsScoped S n) t ts h) few)

module _ (S : Signature) (p : code.Problem) (given : IsScopedProblem S (problem_of p)) (few : length p.ctx + length p.tele < 2147483648) where
  count : (length (problem_of p).context ≡ length p.ctx) × (length (problem_of p).telescope ≡ length p.tele)
  count = (length-map p.ctx tree_of, length-map p.tele item_of)

  pub problem-few_items : HasFewVariables (problem_of p).telescope
  problem-few_items =
      let t = length-map (problem_of p).telescope (λ (x : Item). x.type) in
      telescope-few S (length (problem_of p).context) (map (λ x. x.type) (problem_of p).telescope) given.telescope.types (omega (arith, count.0, count.1))

  pub problem-few_left : HaveFewVariables (tele_of p.left)
  problem-few_left = terms-few S (length (problem_of p).context) (tele_of p.left) given.left (omega (arith, count.0))

  pub problem-few_right : HaveFewVariables (tele_of p.right)
  problem-few_right = terms-few S (length (problem_of p).context) (tele_of p.right) given.right (omega (arith, count.0))

-- ---- the first state

bounded-itself : (x s : State) → ◌≡◌ {A = Result State Stop} (Ok s) (bounded_state x) → bounded_state s ≡ Ok s
bounded-itself x s e = go (are_low x.context && (are_low_equations x.equations && are_low x.solution)) e
  where
    go : (b : Bool) → ◌≡◌ {A = Result State Stop} (Ok s) (cond b (Ok x) (Err Deep)) → bounded_state s ≡ Ok s
    go true f = let same : s ≡ x = cc in sym (e ∙ ap bounded_state (sym same))
    go false f = absurd (cc)

start-low : (p : Problem) (s : State) → ◌≡◌ {A = Result State Stop} (Ok s) (start_made p) → bounded_state s ≡ Ok s
start-low p s e = go (equations_made p.telescope p.left p.right) e
  where
    go : (r : Result (List Term) Stop) → ◌≡◌ {A = Result State Stop} (Ok s) (and_then r (λ types. bounded_state (starting p types))) → bounded_state s ≡ Ok s
    go (Ok types) f = bounded-itself (starting p types) s f
    go (Err x) f = absurd (cc)

pub start-kept : (S : Signature) (p : Problem) (s : State) → IsReady S → IsScopedProblem S p → ◌≡◌ {A = Result State Stop} (Ok s) (start_made p) → length s.context + length s.equations ≤ most_levels → IsKept S s
start-kept S p s ready given e few = record {
  scoped = subst (λ r. IfOk r (IsScopedState S)) (sym e) (start-scoped S p ready given);
  low = start-low p s e;
  few = few;
}

-- ---- the outcome

pub code-scoped : (S : Signature) (p : code.Problem) (left rest : ℕ) (result : Result Outcome Stop) → IsReady S → IsScopedProblem S (problem_of p) → Runs outcome_of result rest (unify_of S (problem_of p) left)
    → IfOk result (λ o. IsScopedOutcome S (length p.ctx) (outcome_of o))
code-scoped S p left rest result ready given answer =
    subst (λ n. IfOk result (λ o. IsScopedOutcome S n (outcome_of o))) (length-map p.ctx tree_of)
    (runs-has outcome_of (IsScopedOutcome S (length (problem_of p).context)) result rest (unify_of S (problem_of p) left) answer (outcome-scoped S (problem_of p) left ready given))
