-- More units change no answer but out of units.
use Rattle.std.specs.Prelude.{◌≡◌, ℕ, ◌+◌, Result, Ok, Err}
use Rattle.core_terms.specs.Answers.{SpentOr}
use Rattle.core_terms.specs.declared.stop.Stop.{Stop}
use Rattle.core_terms.specs.declared.stop.Stop.TheVariants.{Fuel}
use Rattle.family_check.specs.Outcomes.{FamilyStop, Stopped}

-- the refusal out of units
abbrev pub IsFuel : Stop → Type 0
IsFuel e = e ≡ Fuel

abbrev pub IsFamilyFuel : FamilyStop → Type 0
IsFamilyFuel e = e ≡ Stopped Fuel

-- the computation did not run out of units: there is an answer, or a refusal for another reason
abbrev pub IsPaid : {A E : Type 0} → (E → Type 0) → Result A E → Type 0
IsPaid wants (Ok a) = Unit {0}
IsPaid wants (Err e) = ¬ wants e

-- the same answer with so many more units left after it
abbrev pub with_more : {A E : Type 0} → ℕ → SpentOr E A → SpentOr E A
with_more more answer = (answer.0, answer.1 + more)

-- With more units the answer is the same, unless it is out of units, and the further units are left.
abbrev pub IsSteady : {A E : Type 0} → (E → Type 0) → (ℕ → SpentOr E A) → Type 0
IsSteady {A} {E} wants run =
    (left more : ℕ) → IsPaid wants (run left).0 → ◌≡◌ {A = SpentOr E A} (run (left + more)) (with_more more (run left))
