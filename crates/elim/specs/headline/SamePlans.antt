-- The plan of a function in the headline is the one that the elaborator makes.
use Rattle.std.specs.Prelude.{ℕ, List}
use Rattle.theory.specs.Signatures.{Signature}
use Rattle.surface_syntax.specs.Trees as surf
use Rattle.surface_syntax.specs.Trees.{Decl}
use Rattle.clause_reports.specs.elaboration.Functions.{ClauseLine}
use Rattle.function_session.specs.Elaborating.{Elaborated}
use Rattle.function_session.specs.Laws.{IsAsDeclared}
use Rattle.function_session.specs.Sessions.{Session}
use Rattle.function_session.specs.mutual_families.EquationLines.{MutualLine}
use Rattle.elim.specs.written_functions.PlannedFunctions.{IsOfPlan}
use Rattle.elim.specs.elim_program.Written.{IsWritten}

-- The function that is shown has the parts and the values of the plan with which the elaborator accepts it. Other declarations have no plan.
abbrev pub HasSamePlan : (S : Signature) (name : List ℕ) (T : Signature) (lines : List ClauseLine) (equations : List MutualLine) (d : Decl) → IsWritten S d name T lines equations
    → (before : Session) (a : Elaborated) (e : Decl) → IsAsDeclared before e a → Type 0
HasSamePlan S name T lines equations (surf.Fun x ty clauses) shown before a (surf.Fun y type others) accepted = IsOfPlan T accepted.plan shown.2.at
HasSamePlan S name T lines equations d shown before a e accepted = Unit {0}
