-- A property of the answer that is meant is one of the answer over a store.
use Rattle.std.proofs.Common.{ℕ, Option, Some, None, IfSome, option_map, Result, Ok, Err, IfOk}
use Rattle.core_terms.specs.Answers.{Spent}
use Rattle.core_terms.specs.declared.stop.Stop.{Stop}
use Rattle.kernel_reduce.proofs.Runs.{meant-has}
use Rattle.store_reduce.specs.Runs.{RunsIn}

pub runs_in-has : {A B : Type 0} (f : A → B) (P : B → Type 0) (result : Result A Stop) (left : ℕ) (meant : Spent B) → RunsIn f result left meant → IfOk meant.0 P → IfOk result (λ a. P (f a))
runs_in-has f P (Ok a) left meant e h = meant-has P (f a) left meant e h
runs_in-has f P (Err x) left meant e h = tt

-- a property of a value that may be there
pub runs_in-some : {A B : Type 0} (f : A → B) (P : B → Type 0) (result : Result (Option A) Stop) (left : ℕ) (meant : Spent (Option B)) → RunsIn (option_map f) result left meant
    → IfOk meant.0 (λ o. IfSome o P) → IfOk result (λ o. IfSome o (λ a. P (f a)))
runs_in-some f P (Ok (Some a)) left meant e h = meant-has (λ o. IfSome o P) (Some (f a)) left meant e h
runs_in-some f P (Ok None) left meant e h = tt
runs_in-some f P (Err x) left meant e h = tt
