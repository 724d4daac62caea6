-- An accepted function by clauses is the one that is written, and has the plan of the run.
use Rattle.std.specs.Prelude.{ℕ, IfOk}
use Rattle.theory.specs.Signatures.{Signature}
use Rattle.surface_syntax.specs.Trees as surf
use Rattle.surface_syntax.specs.declared.tree.Word.{Word}
use Rattle.elab_session.specs.Sessions.{IsReady}
use Rattle.function_session.specs.Elaborating.{elaborate_of}
use Rattle.elim.specs.written_functions.PlannedFunctions.{IsByPlannedClauses}

abbrev pub FunctionsAreByClauses : Type 0
FunctionsAreByClauses =
    (S : Signature) (fuel : ℕ) (x : Word) (ty : surf.Surf) (clauses : surf.Clauses) → IsReady S →
    IfOk (elaborate_of S fuel (surf.Fun x ty clauses)) (IsByPlannedClauses S fuel x ty clauses)
