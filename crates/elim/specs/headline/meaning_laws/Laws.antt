-- The lines that the program writes for a source file are those that are meant.
use Rattle.std.specs.Prelude.{◌≡◌, ℕ, ◌⊎◌, Bool, List, [], Option, Some, Ok}
use Rattle.std.specs.Io.KnownBytes.{Appends}
use Rattle.surface_syntax.specs.Trees.{Decl}
use Rattle.function_session.specs.Declaring.{new_session}
use Rattle.elim.specs.elim_program.DefinedOutputs.{IsOutput}
use Rattle.elim.specs.elim_program.Outputs.{Output, declarations}
use Rattle.elim.specs.elim_program.Runs.{Follows, Wrote}
use Rattle.elim.specs.program_texts.Texts.{Answer, Gives}
use Rattle.elim.specs.program_texts.Words.{asked, work_asked}
use Rattle.elim.specs.elim_program.WorkTexts.{work_text}
use Rattle.elim.specs.declared.program_texts.status.Status.{Status}
use Rattle.elim.specs.declared.program_texts.status.Status.TheVariants.{NoMemory, ReadFault}
use Rattle.elim.specs.headline.meaning_laws.Meant.{Flags, Workload, compiled_meant, declarations_meant, work_meant}

-- For each source file that parses, the lines that are defined for its declarations one by one from the prelude on are those that are
-- meant, as long as each declaration is accepted, and so are those of the first that is refused.
abbrev pub LinesAreMeant : Type 0
LinesAreMeant =
    (bytes : List ℕ) (ds : List Decl) (k : Bool) (fuel : ℕ) → Gives bytes (Ok ds)
    → declarations (new_session k fuel) ds ≡ declarations_meant (new_session k fuel) ds

-- So for all words that ask to compile and all bytes, the output that is defined has the lines and the status that are meant.
abbrev pub CompiledIsMeant : Type 0
CompiledIsMeant =
    (words : List (List ℕ)) (bytes : List ℕ) (command : Flags) (answer : Answer) (out : Output) → asked words ≡ Some command → Gives bytes answer
    → IsOutput words bytes out → out ≡ compiled_meant command answer

-- and so it is where the words ask for `work`, which compiles a source file of its own
abbrev pub WorkIsMeant : Type 0
WorkIsMeant =
    (words : List (List ℕ)) (bytes : List ℕ) (work : Workload) (answer : Answer) (out : Output) → work_asked words ≡ Some work
    → Gives (work_text work.count) answer → IsOutput words bytes out → out ≡ work_meant work answer

-- A run follows the output: what it wrote is a front of it, and with a status of the output it is all of it. Or it ended before it wrote
-- anything, by a fault of the source or out of memory.
abbrev pub WritesFrom : Output → (before after : Option (List ℕ)) → Status → Type 0
WritesFrom out before after status = Follows out before after status ⊎ (Appends before after [] × ((status ≡ ReadFault) ⊎ (status ≡ NoMemory)))

-- From bytes to bytes: what is promised of a run that compiles holds of the output that is meant.
abbrev pub RunIsMeant : Type 0
RunIsMeant =
    (words : List (List ℕ)) (bytes : List ℕ) (command : Flags) (answer : Answer) (before after : Option (List ℕ)) (status : Status)
    → asked words ≡ Some command → Gives bytes answer → Wrote words bytes before after status
    → WritesFrom (compiled_meant command answer) before after status
