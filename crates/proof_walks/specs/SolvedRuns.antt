-- The runs of all constructors of a variable as the code has them, and the proofs after those that are solved.
use Rattle.std.specs.Prelude.{ℕ, List, [], ◌∷◌, ◌++◌, map, Ok, Err}
use Rattle.theory.specs.Terms.{Term}
use Rattle.theory.specs.Telescopes.{Telescope}
use Rattle.theory.specs.Signatures.{Signature}
use Rattle.core_terms.specs.Answers.{and_next}
use Rattle.core_terms.specs.CaseTrees.{Step}
use Rattle.unification.specs.Outcomes.{Outcome, Solved, steps_in}
use Rattle.case_trees.specs.Looking.{Look, Found, Passed, run_all}
use Rattle.case_trees.specs.Problems.{Member}
use Rattle.case_trees.specs.Stops.{Stopping}
use Rattle.clause_walks.specs.PairConditions.{IsSolving}
use Rattle.clause_walks.specs.Reaching.{RunEnd, ends_behind}
use Rattle.clause_reports.specs.ProofWalks.{Place, Proof, Splits, Proofs, nil, cons, Walking, solved_branch, or_halted, bounded_place, moved_place}
use Rattle.clause_reports.specs.Stops.{Reporting, Stuck, answers, or_halts}

-- running problems is refused only where units or heights run out
abbrev pub halted_runs : {A : Type 0} → Stopping A → Reporting A
halted_runs runs = answers (or_halted runs.0) runs.1

-- the ends of all runs, or of the first that is stuck
abbrev pub all_runs : Signature → Telescope → (x : ℕ) → Member → ℕ → Reporting (Look (List RunEnd))
all_runs S context x m left = halted_runs (ends_behind [] (run_all S context x m 0 m.family.constructors left))

abbrev pub outcomes_in : List RunEnd → List Outcome
outcomes_in ends = map (λ r. r.outcome) ends

-- the steps of each run
abbrev pub steps_of_ends : List RunEnd → List (List Step)
steps_of_ends ends = map (λ r. steps_in r.outcome) ends

-- each solution is over a scoped context
abbrev pub AreSolving : Signature → List RunEnd → Type 0
AreSolving S [] = Unit {0}
AreSolving S (r ∷ ends) = IsSolving S r.outcome × AreSolving S ends

abbrev pub AreSolvingRuns : Signature → Look (List RunEnd) → Type 0
AreSolvingRuns S (Found ends) = AreSolving S ends
AreSolvingRuns S (Passed r) = Unit {0}

-- ---- the proofs after solved runs

abbrev pub solved_outcomes : Walking → Place → List Outcome → ℕ → Reporting Proofs
solved_outcomes go p [] left = answers (Ok nil) left
solved_outcomes go p (o ∷ outcomes) left = solved_branch go p o (solved_outcomes go p outcomes) left

-- proofs, followed by others
abbrev pub joined : List Proof → Proofs → Proofs
joined [] others = others
joined (proof ∷ proofs) others = cons proof (joined proofs others)

abbrev pub onto : (made : List Proof) → Reporting Proofs → Reporting Proofs
onto made reporting = and_next reporting (λ others left. answers (Ok (joined made others)) left)

-- the proofs that are made, with one more after them where the outcome is solved
abbrev pub with_outcome : Walking → Place → (made : List Proof) → Outcome → ℕ → Reporting (List Proof)
with_outcome go p made (Solved steps context solution) left =
    and_next (answers (or_halts (bounded_place (moved_place p context solution))) left) (λ q rest.
    and_next (go q rest) (λ proof end. answers (Ok (made ++ proof ∷ [])) end))
with_outcome go p made o left = answers (Ok made) left

-- the split of a variable with these runs
abbrev pub with_ends : Walking → (x : ℕ) (type : Term) → Place → Look (List RunEnd) → ℕ → Reporting Proof
with_ends go x type p (Found ends) left =
    and_next (solved_outcomes go p (outcomes_in ends) left) (λ proofs rest. answers (Ok (Splits p x type (steps_of_ends ends) proofs)) rest)
with_ends go x type p (Passed r) left = answers (Err (Stuck r.context r.left r.right r.why)) left
