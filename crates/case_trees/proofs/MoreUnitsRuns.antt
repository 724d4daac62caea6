-- With more units a run of unification has the outcome that it had, unless there were too few.
use Rattle.std.proofs.Common.{◌≡◌, ℕ, ◌+◌, Option, Some, Result, Ok, Err, sym, ap, ◌∙◌, arith}
use Rattle.theory.specs.Signatures.{Signature}
use Rattle.core_terms.specs.Answers.{Spent, and_then}
use Rattle.core_terms.specs.declared.stop.Stop.{Stop}
use Rattle.core_terms.specs.declared.stop.Stop.TheVariants.{Fuel}
use Rattle.unification.specs.Heights.{start_made}
use Rattle.unification.specs.Outcomes.{Outcome}
use Rattle.unification.specs.Runs as run
use Rattle.unification.specs.Runs.{Run, behind_step, run_of, unify_of}
use Rattle.unification.specs.States.{State, Problem}
use Rattle.unification.specs.Strategy.{turn_of}
use Rattle.unification.specs.Turns.{Turn, Goes}
use Rattle.unification.proofs.RunLaws.{runs-end, run-is_unique}
use Rattle.case_trees.proofs.MoreUnits.{answers-last, and_next-lasts, AlwaysLasts}
use Rattle.case_trees.proofs.MoreUnitsTurns.{turn-lasts}

-- a turn that is known
turn-again : (S : Signature) (s : State) (left rest more : ℕ) (r : Result (Option Turn) Stop) → turn_of S s left ≡ (r, rest) → (r ≡ Err Fuel → ⊥)
    → turn_of S s (left + more) ≡ (r, rest + more)
turn-again S s left rest more r e fine =
    turn-lasts S s left more (λ bad. fine (sym (ap (λ (call : Spent (Option Turn)). call.0) e) ∙ bad))
    ∙ ap (λ (call : Spent (Option Turn)). (call.0, call.1 + more)) e

run-again : (S : Signature) (s : State) (left end : ℕ) (result : Result Outcome Stop) → Run S s left result end → (result ≡ Err Fuel → ⊥) → (more : ℕ)
    → Run S s (left + more) result (end + more)
run-again S s left end result (run.ends _ _ rest turn outcome is e) fine more =
    run.ends s (left + more) (rest + more) turn outcome (turn-again S s left rest more (Ok (Some turn)) is (λ bad. absurd (grind arith))) e
run-again S s left end result (run.refused _ _ rest x is) fine more =
    run.refused s (left + more) (rest + more) x (turn-again S s left rest more (Err x) is (λ bad. fine (ap (λ r. and_then r (λ turn. Err Fuel)) bad)))
run-again S s left end result (run.goes _ t _ rest _ step result' is further) fine more =
    run.goes s t (left + more) (rest + more) (end + more) step result'
    (turn-again S s left rest more (Ok (Some (Goes step t))) is (λ bad. absurd (grind arith)))
    (run-again S t rest end result' further (λ bad. fine (ap (behind_step step) bad)) more)

pub unify-lasts : (S : Signature) (p : Problem) → AlwaysLasts Fuel (unify_of S p)
unify-lasts S p = λ left more.
    and_next-lasts Fuel more (start_made p, left) (start_made p, left + more) _ _ (answers-last Fuel more (start_made p) left) (λ s rest fine.
    run-is_unique S s (rest + more) _ _ (run-again S s rest (run_of S s rest).1 (run_of S s rest).0 (runs-end S s rest) fine more))
