-- The split of a variable of the clause's context, as the code runs the problems of its constructors.
use Rattle.std.proofs.Common.{◌≡◌, ℕ, Result, Ok, Err, List, [], ◌∷◌, ◌++◌, map, refl, sym, ap, ap₂, ◌∙◌}
use mathlib.Core.Path.{fun_ext}
use Rattle.theory.specs.Terms.{Term}
use Rattle.theory.specs.Signatures.{Signature}
use Rattle.core_terms.specs.Answers.{and_next, on_answer}
use Rattle.core_terms.specs.declared.stop.Stop.{Stop}
use Rattle.unification.specs.Outcomes as outcome
use Rattle.unification.specs.Outcomes.{Outcome, steps_in}
use Rattle.case_trees.specs.Looking.{Look, Found, Passed, StuckRun, Ran, run_all}
use Rattle.case_trees.specs.Problems.{Member}
use Rattle.case_trees.specs.Stops as trees
use Rattle.clause_walks.specs.Reaching.{RunEnd, end_of_run, ends_behind}
use Rattle.clause_reports.specs.ProofWalks.{Place, Proof, Splits, Proofs, nil, cons, Walking, bounded_place, moved_place, solved_branch, solved_branches, with_runs, or_halted, split_variable}
use Rattle.clause_reports.specs.Stops.{ReportStop, Reporting, Stuck, or_halts, answers}
use Rattle.proof_walks.specs.proof_terms.ProofMeanings.{proofs}
use Rattle.proof_walks.specs.SolvedRuns.{halted_runs, all_runs, outcomes_in, steps_of_ends, solved_outcomes, joined, onto, with_outcome, with_ends}

-- ---- outcomes

-- the branches of runs by their outcomes alone
outcomes-are : (go : Walking) (p : Place) (runs : List Ran) (left : ℕ)
    → solved_branches go p runs left ≡ solved_outcomes go p (outcomes_in (map end_of_run runs)) left
outcomes-are go p [] left = refl
outcomes-are go p (run ∷ runs) left =
    ap (λ others. solved_branch go p run.outcome others left) (fun_ext (λ rest. outcomes-are go p runs rest))

steps-are : (runs : List Ran) → map (λ run. steps_in run.outcome) runs ≡ steps_of_ends (map end_of_run runs)
steps-are [] = refl
steps-are (run ∷ runs) = ap (λ steps. steps_in run.outcome ∷ steps) (steps-are runs)

-- ---- the split

module _ (S : Signature) (go : Walking) (x : ℕ) (type : Term) (m : Member) (p : Place) where
  found-runs : (runs : List Ran) (left : ℕ) → with_runs go x type p (Found runs) left ≡ with_ends go x type p (Found (map end_of_run runs)) left
  found-runs runs left =
      ap₂ (λ (branches : Reporting Proofs) steps. and_next branches (λ proofs rest. answers (Ok (Splits p x type steps proofs)) rest))
      (outcomes-are go p runs left) (steps-are runs)

  by-runs : (r : Result (Look (List Ran)) trees.TreeStop) (left : ℕ)
      → and_next (answers (or_halted r) left) (with_runs go x type p) ≡ and_next (halted_runs (ends_behind [] (r, left))) (with_ends go x type p)
  by-runs (Err e) left = refl
  by-runs (Ok (Passed s)) left = refl
  by-runs (Ok (Found runs)) left = found-runs runs left

  module _ (left mid : ℕ) where
    split-form : and_next (all_runs S p.context x m left) (with_ends go x type p) ≡ split_variable S go x type m p left
    split-form =
        sym (by-runs (run_all S p.context x m 0 m.family.constructors left).0 (run_all S p.context x m 0 m.family.constructors left).1)

    pub split-refused : (e : ReportStop) → ◌≡◌ {A = Reporting (Look (List RunEnd))} (Err e, mid) (all_runs S p.context x m left)
        → ◌≡◌ {A = Reporting Proof} (Err e, mid) (split_variable S go x type m p left)
    split-refused e h = ap (λ r. and_next r (with_ends go x type p)) h ∙ split-form

    pub split-stuck : (s : StuckRun) → ◌≡◌ {A = Reporting (Look (List RunEnd))} (Ok (Passed s), mid) (all_runs S p.context x m left)
        → ◌≡◌ {A = Reporting Proof} (Err (Stuck s.context s.left s.right s.why), mid) (split_variable S go x type m p left)
    split-stuck s h = ap (λ r. and_next r (with_ends go x type p)) h ∙ split-form

    module _ (ends : List RunEnd) (end : ℕ) (h : ◌≡◌ {A = Reporting (Look (List RunEnd))} (Ok (Found ends), mid) (all_runs S p.context x m left)) where
      abbrev made-split : Proofs → ℕ → Reporting Proof
      made-split proofs rest = answers (Ok (Splits p x type (steps_of_ends ends) proofs)) rest

      found-form : and_next (solved_outcomes go p (outcomes_in ends) mid) made-split ≡ split_variable S go x type m p left
      found-form = ap (λ r. and_next r (with_ends go x type p)) h ∙ split-form

      onto-none : (r : Result Proofs ReportStop) (rest : ℕ) → onto [] (r, rest) ≡ (r, rest)
      onto-none (Ok proofs) rest = refl
      onto-none (Err e) rest = refl

      none-before : onto [] (solved_outcomes go p (outcomes_in ends) mid) ≡ solved_outcomes go p (outcomes_in ends) mid
      none-before = onto-none (solved_outcomes go p (outcomes_in ends) mid).0 (solved_outcomes go p (outcomes_in ends) mid).1

      pub branches-refused : (e : ReportStop) → ◌≡◌ {A = Reporting Proofs} (Err e, end) (onto [] (solved_outcomes go p (outcomes_in ends) mid))
          → ◌≡◌ {A = Reporting Proof} (Err e, end) (split_variable S go x type m p left)
      branches-refused e k = ap (λ r. and_next r made-split) (k ∙ none-before) ∙ found-form

      pub branches-made : (all : Proofs) → ◌≡◌ {A = Reporting Proofs} (Ok all, end) (onto [] (solved_outcomes go p (outcomes_in ends) mid))
          → ◌≡◌ {A = Reporting Proof} (Ok (Splits p x type (steps_of_ends ends) all), end) (split_variable S go x type m p left)
      branches-made all k = ap (λ r. and_next r made-split) (k ∙ none-before) ∙ found-form

-- ---- proofs after solved runs

joined-snoc : (made : List Proof) (proof : Proof) (others : Proofs) → joined made (cons proof others) ≡ joined (made ++ proof ∷ []) others
joined-snoc [] proof others = refl
joined-snoc (first ∷ made) proof others = ap (cons first) (joined-snoc made proof others)

joined-nil : (made : List Proof) → joined made nil ≡ proofs made
joined-nil [] = refl
joined-nil (proof ∷ made) = ap (cons proof) (joined-nil made)

pub branches-none : (go : Walking) (p : Place) (made : List Proof) (left : ℕ)
    → ◌≡◌ {A = Reporting Proofs} (Ok (proofs made), left) (onto made (solved_outcomes go p [] left))
branches-none go p made left = ap (λ all. answers (Ok all) left) (sym (joined-nil made))

module _ (go : Walking) (p : Place) (made : List Proof) (others : ℕ → Reporting Proofs) where
  on-others : (proof : Proof) (r : Result Proofs ReportStop) (left : ℕ)
      → onto made (on_answer r left (λ proofs last. answers (Ok (cons proof proofs)) last)) ≡ onto (made ++ proof ∷ []) (r, left)
  on-others proof (Err e) left = refl
  on-others proof (Ok all) left = ap (λ all. answers (Ok all) left) (joined-snoc made proof all)

  on-proof : (r : Result Proof ReportStop) (left : ℕ)
      → onto made (on_answer r left (λ proof end. and_next (others end) (λ proofs last. answers (Ok (cons proof proofs)) last)))
      ≡ and_next (on_answer r left (λ proof end. answers (Ok (made ++ proof ∷ [])) end)) (λ more rest. onto more (others rest))
  on-proof (Err e) left = refl
  on-proof (Ok proof) left = on-others proof (others left).0 (others left).1

  on-place : (r : Result Place Stop) (left : ℕ)
      → onto made (and_next (answers (or_halts r) left) (λ q rest.
      and_next (go q rest) (λ proof end. and_next (others end) (λ proofs last. answers (Ok (cons proof proofs)) last))))
      ≡ and_next (and_next (answers (or_halts r) left) (λ q rest. and_next (go q rest) (λ proof end. answers (Ok (made ++ proof ∷ [])) end)))
      (λ more rest. onto more (others rest))
  on-place (Err e) left = refl
  on-place (Ok q) left = on-proof (go q left).0 (go q left).1

  outcome-step : (o : Outcome) (left : ℕ)
      → and_next (with_outcome go p made o left) (λ more rest. onto more (others rest)) ≡ onto made (solved_branch go p o others left)
  outcome-step (outcome.Solved steps context solution) left = sym (on-place (bounded_place (moved_place p context solution)) left)
  outcome-step (outcome.Absurd steps context u v) left = refl
  outcome-step (outcome.Stuck steps context u v why) left = refl

module _ (go : Walking) (p : Place) (made : List Proof) (o : Outcome) (outcomes : List Outcome) (left mid : ℕ) where
  pub run-refused : (e : ReportStop) → ◌≡◌ {A = Reporting (List Proof)} (Err e, mid) (with_outcome go p made o left)
      → ◌≡◌ {A = Reporting Proofs} (Err e, mid) (onto made (solved_outcomes go p (o ∷ outcomes) left))
  run-refused e h =
      ap (λ r. and_next r (λ more rest. onto more (solved_outcomes go p outcomes rest))) h ∙ outcome-step go p made (solved_outcomes go p outcomes) o left

  pub run-goes : (more : List Proof) → ◌≡◌ {A = Reporting (List Proof)} (Ok more, mid) (with_outcome go p made o left)
      → onto more (solved_outcomes go p outcomes mid) ≡ onto made (solved_outcomes go p (o ∷ outcomes) left)
  run-goes more h =
      ap (λ r. and_next r (λ more rest. onto more (solved_outcomes go p outcomes rest))) h ∙ outcome-step go p made (solved_outcomes go p outcomes) o left
