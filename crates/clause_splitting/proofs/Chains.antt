-- A refusal of the first call is that of the whole, unless memory ran out.
use Rattle.std.proofs.Common.{◌≡◌, ℕ, Result, Ok, Err, ap}
use Rattle.core_terms.specs.Answers as answer
use Rattle.core_terms.specs.Answers.{Unless, and_next}
use Rattle.core_terms.specs.declared.stop.Stop as code
use Rattle.case_trees.specs.Stops.{Stopping, Halts, or_halts, answers}
use Rattle.clause_walks.specs.Stops.{IsUnforeseen, stop_of}
use Rattle.clause_walks.specs.declared.stops.TreeStop.{TreeStop}
use Rattle.clause_walks.specs.declared.stops.TreeStop.TheVariants.{Stop}

-- the refusal of a call that knows no others, and spends no units
pub halts-made : {A B : Type 0} (e : code.Stop) (left : ℕ) (meant : Result A code.Stop) (go : A → ℕ → Stopping B)
    → Unless (answer.IsUnforeseen e) (Err e ≡ meant)
    → Unless (IsUnforeseen (Stop e)) (◌≡◌ {A = Stopping B} (Err (Halts e), left) (and_next (answers (or_halts meant) left) go))
halts-made e left meant go h = λ other. ap (λ r. and_next (answers (or_halts r) left) go) (h (λ same. other (ap Stop same)))

-- the refusal of a call that knows them all
pub stops-first : {A B : Type 0} (e : TreeStop) (left : ℕ) (first : Stopping A) (go : A → ℕ → Stopping B)
    → Unless (IsUnforeseen e) (◌≡◌ {A = Stopping A} (Err (stop_of e), left) first)
    → Unless (IsUnforeseen e) (◌≡◌ {A = Stopping B} (Err (stop_of e), left) (and_next first go))
stops-first e left first go h = λ other. ap (λ r. and_next r go) (h other)

-- an answer of the first call is the one that the second goes on with
pub goes-first : {A B : Type 0} (a : A) (left : ℕ) (first : Stopping A) (go : A → ℕ → Stopping B) → ◌≡◌ {A = Stopping A} (Ok a, left) first
    → go a left ≡ and_next first go
goes-first a left first go h = ap (λ r. and_next r go) h
