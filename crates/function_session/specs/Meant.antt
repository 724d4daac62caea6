-- One declaration over a signature as it is meant, where no name of a family or of a constructor holds a `!`.
use Rattle.std.specs.Prelude.{ℕ, Result}
use Rattle.theory.specs.Signatures.{Signature}
use Rattle.surface_syntax.specs.Trees as surf
use Rattle.surface_syntax.specs.declared.tree.Word.{Word}
use Rattle.resolve.specs.Functions as function
use Rattle.clause_reports.specs.elaboration.Functions.{function_of}
use Rattle.elab_session.specs.Declaring.{declare_of}
use Rattle.elab_session.specs.declared.refusal.Refusal.{Refusal}
use Rattle.function_session.specs.Elaborating.{Elaborated, on_function, on_lines, without_lines}
use Rattle.function_session.specs.Sessions.{Session}
use Rattle.function_session.specs.decisions.Declaring.{declare_decision}
use Rattle.function_session.specs.decisions.Entering.{draft_meant}
use Rattle.function_session.specs.function_lines.Opened.{checked_entered}
use Rattle.function_session.specs.mutual_families.Declaring.{declare_mutual}

-- a function that is resolved enters, with a line for each of its clauses
abbrev pub enter_meant : Signature → (fuel : ℕ) → Word → function.Function → Result Elaborated Refusal
enter_meant S fuel x f = on_lines x fuel (function_of S f fuel).0

-- A declaration. One of another form is the one that `elab_session` defines.
abbrev pub elaborate_meant : Signature → (fuel : ℕ) → surf.Decl → Result Elaborated Refusal
elaborate_meant S fuel (surf.Fun x ty clauses) = on_function (function.function S x ty clauses) (enter_meant S fuel x)
elaborate_meant S fuel d = without_lines (declare_of S fuel d)

-- a declaration in a session
abbrev pub declared_meant : Session → surf.Decl → Result Elaborated Refusal
declared_meant s (surf.Decide x family into) = declare_decision draft_meant s.signature s.decisions s.fuel x family into
declared_meant s (surf.Mutual params members family tag tags) =
    declare_mutual checked_entered s.signature s.fuel (surf.Mutual params members family tag tags)
declared_meant s d = elaborate_meant s.signature s.fuel d
