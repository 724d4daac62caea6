-- Lines of declarations, and the outputs that they make.
use Rattle.std.specs.Prelude.{ℕ, zero, suc, ◌+◌, ◌-◌, Bool, true, false, if◌then◌else◌, List, [], ◌∷◌, ◌++◌, length, map, slice_get, codes, Option, Some, None, Result, Ok, Err}
use Rattle.theory.specs.Signatures.{Entry, Signature}
use Rattle.surface_syntax.specs.Trees as surf
use Rattle.resolve.specs.DeclaredNames.{declared_word}
use Rattle.clause_reports.specs.elaboration.Functions.{ClauseLine}
use Rattle.core_text.specs.EntryText.{entry_text}
use Rattle.function_session.specs.Declaring.{declared_in, new_session, session_after}
use Rattle.function_session.specs.Elaborating.{Elaborated}
use Rattle.function_session.specs.Sessions.{Session}
use Rattle.function_session.specs.mutual_families.EquationLines.{MutualLine}
use Rattle.elab_session.specs.declared.refusal.Refusal.{Refusal}
use Rattle.elim.specs.declared.program_texts.status.Status.{Status}
use Rattle.elim.specs.declared.program_texts.status.Status.TheVariants as status
use Rattle.elim.specs.declared.program_texts.words.Command.{Command}
use Rattle.elim.specs.program_texts.ClauseTexts.{clause_lines}
use Rattle.elim.specs.program_texts.Refusals.{refused_lines, stop_line}
use Rattle.elim.specs.program_texts.Texts.{Answer}

-- lines, and whether the last one refuses
pub record Block : Type 0 where
  pub lines : List (List ℕ)
  pub refused : Bool

abbrev pub block : List (List ℕ) → Bool → Block
block lines refused = record { lines = lines; refused = refused }

-- the line of entry number n, if there is one
abbrev pub line_of : Signature → ℕ → Option Entry → List ℕ
line_of S n (Some e) = entry_text S n e
line_of S n None = []

-- the lines of so many entries from number n on
abbrev pub entry_lines : Signature → ℕ → ℕ → List (List ℕ)
entry_lines S n zero = []
entry_lines S n (suc count) = line_of S n (slice_get S.entries n) ∷ entry_lines S (n + 1) count

-- the lines of the entries of T after those of S
abbrev pub lines_after : Signature → Signature → List (List ℕ)
lines_after S T = entry_lines T (length S.entries) (length T.entries - length S.entries)

abbrev pub accepted_line : List ℕ → List ℕ
accepted_line name = codes "# accepted " ++ name

abbrev pub declared_name : surf.Decl → List ℕ
declared_name d = (declared_word d).text

-- the line of the equation of a member's constructor, both sides of which convert
abbrev pub mutual_line : MutualLine → List ℕ
mutual_line l = codes "# mutual " ++ l.0 ++ codes " " ++ l.1 ++ codes " definitional"

-- the lines of the clauses of a function, or of the equations of inductions; a declaration has only one of both
abbrev pub note_lines : Signature → List ClauseLine → List MutualLine → List (List ℕ)
note_lines S clauses equations = clause_lines S clauses ++ map mutual_line equations

-- the lines of what is accepted over S: its entries, then its clauses or the equations of its inductions, then that it is accepted
abbrev pub accepted_lines : Signature → Elaborated → List (List ℕ)
accepted_lines S a = lines_after S a.signature ++ (note_lines a.signature a.lines a.equations ++ accepted_line a.name ∷ [])

-- the lines of a declaration over S
abbrev pub declared_block : Signature → surf.Decl → Result Elaborated Refusal → Block
declared_block S d (Ok a) = block (accepted_lines S a) false
declared_block S d (Err e) = block (refused_lines (declared_name d) e) true

-- lines after others, where these do not refuse
abbrev pub followed : Block → Block → Block
followed first rest = if first.refused then first else block (first.lines ++ rest.lines) rest.refused

-- the lines of declarations one by one in a session, up to the first that is refused
abbrev pub declarations : Session → List surf.Decl → Block
declarations s [] = block [] false
declarations s (d ∷ ds) = followed (declared_block s.signature d (declared_in s d)) (declarations (session_after s d (declared_in s d)) ds)

-- the lines of a source file: those of its declarations, or that of its refusal
abbrev pub text_block : Command → Answer → Block
text_block command (Ok ds) = declarations (new_session command.k command.fuel) ds
text_block command (Err e) = block (stop_line e ∷ []) true

-- the lines that are written, and the status of the run
pub record Output : Type 0 where
  pub lines : List (List ℕ)
  pub status : Status

abbrev pub usage : Output
usage = record {
  lines = codes "# usage elim (compile [--k] | verify [--k] | work N) [--fuel N]" ∷ [];
  status = status.Usage;
}

abbrev pub prelude_line : Bool → List ℕ
prelude_line k = if k then codes "prelude k" else codes "prelude"

abbrev pub head_lines : Bool → List (List ℕ)
head_lines k = codes "elim 1" ∷ prelude_line k ∷ []

abbrev pub compiled : Bool → Block → Output
compiled k b = record {
  lines = head_lines k ++ b.lines;
  status = if b.refused then status.Refused else status.Done;
}
