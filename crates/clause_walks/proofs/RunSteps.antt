-- Runs of constructors, one after the other.
use Rattle.std.proofs.Common.{◌≡◌, ℕ, ◌+◌, Result, Ok, Err, List, [], ◌∷◌, ◌++◌, length, map, append_assoc, refl, sym, ap, ◌∙◌}
use Rattle.theory.specs.Telescopes.{Telescope}
use Rattle.theory.specs.Families.{Constructor}
use Rattle.theory.specs.Signatures.{Signature}
use Rattle.core_terms.specs.Answers.{Spent, on_answer, and_next}
use Rattle.core_terms.specs.declared.stop.Stop.{Stop}
use Rattle.kernel_reduce.specs.Reduction.{answered}
use Rattle.unification.specs.Outcomes as outcome
use Rattle.unification.specs.Outcomes.{Outcome}
use Rattle.unification.specs.Runs.{unify_of}
use Rattle.unification.specs.States.{Problem}
use Rattle.case_trees.specs.Problems.{Member, problem_of}
use Rattle.case_trees.specs.Stops.{TreeStop, Halts, Stopping, or_halts, halting, answers}
use Rattle.case_trees.specs.Looking.{Look, Found, Passed, StuckRun, Ran, with_run, unless_stuck, run_all}
use Rattle.clause_walks.specs.Reaching.{RunEnd, run_end, end_of_run, run_one, sorted, ends_behind}

-- how the runs go on after one of them
abbrev pub run_on : Signature → Telescope → (x : ℕ) → Member → (number : ℕ) → List Constructor → (made : List RunEnd) → Result RunEnd StuckRun → ℕ
    → Stopping (Look (List RunEnd))
run_on S context x m number cs made (Ok r) left = ends_behind (made ++ r ∷ []) (run_all S context x m (number + 1) cs left)
run_on S context x m number cs made (Err s) left = answers (Ok (Passed s)) left

-- a run more before the others
one-more : (made : List RunEnd) (run : Ran) (r : Result (Look (List Ran)) TreeStop) (left : ℕ)
    → ends_behind made (and_next (r, left) (λ runs rest. answers (Ok (with_run run runs)) rest)) ≡ ends_behind (made ++ end_of_run run ∷ []) (r, left)
one-more made run (Err e) left = refl
one-more made run (Ok (Passed s)) left = refl
one-more made run (Ok (Found runs)) left =
    ap (λ ends. answers (Ok (Found ends)) left) (sym (append_assoc made (end_of_run run ∷ []) (map end_of_run runs)))

run-step : (S : Signature) (context : Telescope) (x : ℕ) (m : Member) (number : ℕ) (c : Constructor) (cs : List Constructor) (made : List RunEnd) (left : ℕ)
    → ends_behind made (run_all S context x m number (c ∷ cs) left)
    ≡ and_next (halting (run_one S context x m number c left)) (λ r rest. run_on S context x m number cs made (sorted r) rest)
run-step S context x m number c cs made left = by (unify_of S p left).0 (unify_of S p left).1
  where
    p : Problem
    p = problem_of context x m number c

    others : ℕ → Stopping (Look (List Ran))
    others = run_all S context x m (number + 1) cs

    by : (r : Result Outcome Stop) (rest : ℕ)
        → ends_behind made (on_answer (or_halts r) rest (unless_stuck c p others))
        ≡ and_next (halting (on_answer r rest (λ o end. answered (Ok (run_end (length c.arguments) p o)) end)))
        (λ r end. run_on S context x m number cs made (sorted r) end)
    by (Err e) rest = refl
    by (Ok (outcome.Stuck steps new u v why)) rest = refl
    by (Ok (outcome.Solved steps new solution)) rest =
        one-more made (record { constructor = c; problem = p; outcome = outcome.Solved steps new solution }) (others rest).0 (others rest).1
    by (Ok (outcome.Absurd steps new u v)) rest =
        one-more made (record { constructor = c; problem = p; outcome = outcome.Absurd steps new u v }) (others rest).0 (others rest).1

-- ---- the code's answers at a constructor

module _ (S : Signature) (context : Telescope) (x : ℕ) (m : Member) (number : ℕ) (c : Constructor) (cs : List Constructor) (made : List RunEnd)
    (left mid : ℕ) where
  pub run-goes : (r : RunEnd) → ◌≡◌ {A = Spent RunEnd} (Ok r, mid) (run_one S context x m number c left)
      → run_on S context x m number cs made (sorted r) mid ≡ ends_behind made (run_all S context x m number (c ∷ cs) left)
  run-goes r h =
      ap (λ one. and_next (halting one) (λ r rest. run_on S context x m number cs made (sorted r) rest)) h
      ∙ sym (run-step S context x m number c cs made left)

  pub run-refused : (e : Stop) → ◌≡◌ {A = Spent RunEnd} (Err e, mid) (run_one S context x m number c left)
      → ◌≡◌ {A = Stopping (Look (List RunEnd))} (Err (Halts e), mid) (ends_behind made (run_all S context x m number (c ∷ cs) left))
  run-refused e h =
      ap (λ one. and_next (halting one) (λ r rest. run_on S context x m number cs made (sorted r) rest)) h
      ∙ sym (run-step S context x m number c cs made left)
