-- Why an entry does not enter, and answers with the units that are left after them.
use Rattle.std.specs.Prelude.{ℕ, Option, Result, Ok, Err}
use Rattle.theory.specs.Terms.{Term}
use Rattle.core_terms.specs.Answers.{Spent, SpentOr}
use Rattle.core_terms.specs.Verdicts.{Denial, Verdict, Yes, No}
use Rattle.core_terms.specs.declared.stop.Stop.{Stop}

-- the written part of a denial: parameters are counted from 1, constructors have their numbers
pub data Site : Type 0 where
  OfType : Site
  OfBody : Site
  OfParameter : ℕ → Site
  OfConstructor : ℕ → Site

-- The second number of `NotPositive` is the argument of the constructor, counted from 1, or 0 for its result. `TooLarge`
-- has an argument of a constructor, or an index where there is none, counted from 1.
pub data FamilyStop : Type 0 where
  Stopped : Stop → FamilyStop
  Denied : Site → Denial → FamilyStop
  NotPositive : ℕ → ℕ → FamilyStop
  TooLarge : Option ℕ → ℕ → FamilyStop
  BadFamily : FamilyStop
  Duplicate : FamilyStop

-- an answer with the units that are left after it
abbrev pub Outcome : Type 0 → Type 0
Outcome A = SpentOr FamilyStop A

abbrev pub ended : {A : Type 0} → Result A FamilyStop → ℕ → Outcome A
ended answer left = (answer, left)

-- the type that a verdict on a written part holds
abbrev pub on_part : Site → Result Verdict Stop → Result Term FamilyStop
on_part site (Ok (Yes type)) = Ok type
on_part site (Ok (No denial)) = Err (Denied site denial)
on_part site (Err e) = Err (Stopped e)

abbrev pub granted : Site → Spent Verdict → Outcome Term
granted site asked = ended (on_part site asked.0) asked.1
