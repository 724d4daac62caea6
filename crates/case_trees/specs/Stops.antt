-- The ends of a walk or a tree, and what they show.
use Rattle.std.specs.Prelude.{ℕ, List, Result, Ok, Err}
use Rattle.theory.specs.Terms.{Term}
use Rattle.theory.specs.Telescopes.{Telescope}
use Rattle.core_terms.specs.Answers.{Spent, SpentOr}
use Rattle.core_terms.specs.Patterns.{Pat}
use Rattle.core_terms.specs.declared.stop.Stop.{Stop}
use Rattle.unification.specs.declared.why.Why.{Why}

-- `Halts e`: units or heights ran out.
-- `Stuck clause context left right why`: at each variable that an open pair of the clause has, unification was stuck; this is the end
-- of the first such run.
-- `Uncovered context terms`: no clause is left for these terms.
-- `NotAbsurd clause n number`: the constructor can be there, where the clause says that none can.
-- `Impossible clause context left right`: the clause's own constructor can't be there.
-- `WrongConstructor clause context type`: the type of the variable is not the family of the constructor.
-- `Forced clause context pat term`: the pattern asks for a constructor, and the term is neither one nor a variable.
pub data TreeStop : Type 0 where
  Halts : Stop → TreeStop
  Stuck : (clause : ℕ) → Telescope → (left right : Term) → Why → TreeStop
  Uncovered : Telescope → List Term → TreeStop
  NotAbsurd : (clause n number : ℕ) → TreeStop
  Impossible : (clause : ℕ) → Telescope → (left right : Term) → TreeStop
  WrongConstructor : (clause : ℕ) → Telescope → Term → TreeStop
  Forced : (clause : ℕ) → Telescope → Pat → Term → TreeStop

abbrev pub Stopping : Type 0 → Type 0
Stopping A = SpentOr TreeStop A

abbrev pub or_halts : {A : Type 0} → Result A Stop → Result A TreeStop
or_halts (Ok a) = Ok a
or_halts (Err e) = Err (Halts e)

-- the answer of a call that knows no other refusals
abbrev pub halting : {A : Type 0} → Spent A → Stopping A
halting spent = (or_halts spent.0, spent.1)

abbrev pub answers : {A : Type 0} → Result A TreeStop → ℕ → Stopping A
answers answer left = (answer, left)
