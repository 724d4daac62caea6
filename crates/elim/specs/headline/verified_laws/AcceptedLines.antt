-- Laws of what a line accepts.
use Rattle.std.specs.Prelude.{◌≡◌, ℕ, List, [], ◌++◌}
use Rattle.surface_syntax.specs.Trees as surf
use Rattle.function_session.specs.Elaborating.{Elaborated}
use Rattle.function_session.specs.Evidence.{references_from}
use Rattle.function_session.specs.Laws.{IsAsDeclared}
use Rattle.function_session.specs.Sessions.{Session}
use Rattle.elim.specs.headline.line_laws.Lines.{AreReported}
use Rattle.elim.specs.elim_program.Acceptance.{IsAccepted}
use Rattle.elim.specs.program_texts.Lines.{lines_of, text_of}
use Rattle.elim.specs.headline.program_laws.CoreFiles.{IsCoreFile, IsWritable}

-- The lines of a function's clauses are the reports of its clauses in the plan of the run. Another declaration has no clauses.
abbrev pub IsReported : (s : Session) (d : surf.Decl) (a : Elaborated) → IsAsDeclared s d a → Type 0
IsReported s (surf.Fun x ty clauses) a w = AreReported s.signature a.signature w.plan (references_from 0 w.plan.parts) a.lines
IsReported s d a w = a.lines ≡ []

-- Where a line says that a declaration is accepted, the lines of its clauses are their reports.
abbrev pub LinesAreReports : Type 0
LinesAreReports =
    (words : List (List ℕ)) (bytes : List ℕ) (above : List (List ℕ)) (name : List ℕ) → (a : IsAccepted words bytes above name)
    → IsReported a.session a.declaration a.accepted a.written

-- Its entries, with those before them, can be written in a core file.
abbrev pub LinesAreWritable : Type 0
LinesAreWritable =
    (words : List (List ℕ)) (bytes : List ℕ) (above : List (List ℕ)) (name : List ℕ) → (a : IsAccepted words bytes above name)
    → IsWritable a.accepted.signature

-- The lines above it are a core file: what is read from it, entry by entry up to its end, is the signature that has the declaration.
abbrev pub LinesAreCoreFiles : Type 0
LinesAreCoreFiles =
    (words : List (List ℕ)) (bytes text : List ℕ) (above below : List (List ℕ)) (name : List ℕ) → lines_of text ≡ above ++ below
    → (a : IsAccepted words bytes above name) → IsCoreFile a.command.k (text_of above) a.accepted.signature
