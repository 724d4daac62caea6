-- What a run writes if no device fails and memory suffices: the output that is meant, whole.
use Rattle.std.specs.Prelude.{◌≡◌, ℕ, List, [], ◌∷◌, ◌++◌, Option, Some, None, Ok, Err, IfSome}
use Rattle.std.specs.Io.KnownBytes.{Appends}
use Rattle.surface_syntax.specs.Trees.{Decl}
use Rattle.function_session.specs.Meant.{declared_meant}
use Rattle.elab_session.specs.declared.refusal.Refusal.{Refusal}
use Rattle.function_session.specs.Declaring.{new_session, with_declared}
use Rattle.function_session.specs.Elaborating.{Elaborated}
use Rattle.function_session.specs.Sessions.{Session}
use Rattle.elim.specs.program_texts.Lines.{text_of}
use Rattle.elim.specs.elim_program.Outputs.{Output, accepted_lines, compiled, declared_name, head_lines, usage}
use Rattle.elim.specs.program_texts.Refusals.{refused_lines}
use Rattle.elim.specs.elim_program.Runs.{IsWhole}
use Rattle.elim.specs.program_texts.Texts.{Answer, Gives, limited}
use Rattle.elim.specs.elim_program.Verifies.{file_block}
use Rattle.elim.specs.program_texts.Words.{asked, verify_asked, work_asked}
use Rattle.elim.specs.elim_program.WorkTexts.{work_text}
use Rattle.elim.specs.declared.program_texts.status.Status.{Status}
use Rattle.elim.specs.declared.program_texts.status.Status.TheVariants as statuses
use Rattle.elim.specs.headline.meaning_laws.Meant.{Flags, Workload, compiled_meant, declarations_meant, work_meant}

-- ---- the whole output

-- The output that is meant for the words and the bytes. For `compile` and `work` each declaration is accepted or refused as its phases are
-- defined.
pub data IsMeantOutput (words : List (List ℕ)) (bytes : List ℕ) : Output → Type 0 where
  refused_words : asked words ≡ None → verify_asked words ≡ None → work_asked words ≡ None → IsMeantOutput words bytes usage
  compiles : (command : Flags) (answer : Answer) → asked words ≡ Some command → Gives bytes answer → IsMeantOutput words bytes (compiled_meant command answer)
  verifies : (command : Flags) → verify_asked words ≡ Some command → IsMeantOutput words bytes (compiled command.k (file_block command (limited bytes)))
  works : (work : Workload) (answer : Answer) → work_asked words ≡ Some work → Gives (work_text work.count) answer
      → IsMeantOutput words bytes (work_meant work answer)

-- The whole output that is meant was written, and the status is its own. The bytes are those that the source had left, where they are known.
pub record IsMeantWhole (words : List (List ℕ)) (left before after : Option (List ℕ)) (status : Status) : Type 0 where
  pub bytes : List ℕ
  pub known : IfSome left (λ known. bytes ≡ known)
  pub out : Output
  pub meant : IsMeantOutput words bytes out
  pub appended : Appends before after (text_of out.lines)
  pub status_is : out.status ≡ status

-- Each output that was written whole is the one that is meant.
abbrev pub WholeIsMeant : Type 0
WholeIsMeant =
    (words : List (List ℕ)) (left before after : Option (List ℕ)) (status : Status) → IsWhole words left before after status
    → IsMeantWhole words left before after status

-- ---- one declaration

-- declarations that are accepted one by one from a session on, as their phases are defined, and the session with them
pub data AreAccepted : Session → List Decl → Session → Type 0 where
  end : (s : Session) → AreAccepted s [] s
  next : (s t : Session) (d : Decl) (ds : List Decl) (a : Elaborated) → declared_meant s d ≡ Ok a → AreAccepted (with_declared s d a.signature) ds t
      → AreAccepted s (d ∷ ds) t

-- the lines of the head, and of declarations that are accepted
abbrev pub lines_before : Flags → List Decl → List (List ℕ)
lines_before command front = head_lines command.k ++ (declarations_meant (new_session command.k command.fuel) front).lines

-- Take a declaration of a source file, where those before it are accepted as their phases are defined. If the phases accept it, the lines
-- that accept it come after those of the declarations before it. If they refuse it, the lines of this refusal do, and they are the last.
abbrev pub EachIsAnswered : Type 0
EachIsAnswered =
    (command : Flags) (front : List Decl) (d : Decl) (back : List Decl) (s : Session) → AreAccepted (new_session command.k command.fuel) front s
    → ((a : Elaborated) → declared_meant s d ≡ Ok a
    → (rest : List (List ℕ)) × ((compiled_meant command (Ok (front ++ d ∷ back))).lines ≡ lines_before command front ++ (accepted_lines s.signature a ++ rest)))
    × ((e : Refusal) → declared_meant s d ≡ Err e
    → compiled_meant command (Ok (front ++ d ∷ back))
    ≡ record { lines = lines_before command front ++ refused_lines (declared_name d) e; status = statuses.Refused })

-- ---- two runs

-- Two runs with the same words, over sources that have the same bytes left, write the same and have the same status: it does not matter
-- how the sources and the sinks cut their pieces.
abbrev pub RunsAgree : Type 0
RunsAgree =
    (words : List (List ℕ)) (bytes : List ℕ) (before after other_before other_after : Option (List ℕ)) (status other : Status)
    → IsWhole words (Some bytes) before after status → IsWhole words (Some bytes) other_before other_after other
    → (status ≡ other) × ((text : List ℕ) × Appends before after text × Appends other_before other_after text)
