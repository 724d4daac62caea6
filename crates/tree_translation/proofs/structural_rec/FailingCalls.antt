-- The first failing call of calls that are one after the other.
use Rattle.std.proofs.Common.{◌≡◌, ℕ, Bool, true, false, cond, not, Option, Some, None, option_map, List, [], ◌∷◌, ◌++◌, refl}
use Rattle.std.specs.Prelude.{find}
use Rattle.std.specs.Option.{option_or}
use Rattle.theory.specs.Terms.{Term}
use Rattle.theory.specs.Signatures.{Signature}
use Rattle.tree_translation.specs.structural_rec.Calls.{Call}
use Rattle.tree_translation.specs.structural_rec.Positions.{Admission}
use Rattle.tree_translation.specs.structural_rec.Fitting.{fits}
use Rattle.tree_translation.specs.structural_rec.Choices.{failing_call}

pub failing_append : (S : Signature) (count j : ℕ) (a : Admission) (terms : List Term) (xs ys : List Call)
    → failing_call S count j a terms (xs ++ ys) ≡ option_or (failing_call S count j a terms xs) (failing_call S count j a terms ys)
failing_append S count j a terms [] ys = refl
failing_append S count j a terms (x ∷ xs) ys = by (fits S count j a terms x) (failing_append S count j a terms xs ys)
  where
    by : (b : Bool)
        → failing_call S count j a terms (xs ++ ys) ≡ option_or (failing_call S count j a terms xs) (failing_call S count j a terms ys)
        → option_map (λ c. c.term) (cond (not b) (Some x) (find (λ c. not (fits S count j a terms c)) (xs ++ ys)))
        ≡ option_or (option_map (λ c. c.term) (cond (not b) (Some x) (find (λ c. not (fits S count j a terms c)) xs))) (failing_call S count j a terms ys)
    by true rest = rest
    by false rest = refl

pub or_assoc : {A : Type 0} (x y z : Option A) → option_or (option_or x y) z ≡ option_or x (option_or y z)
or_assoc None y z = refl
or_assoc (Some x) y z = refl
