-- The outputs of `compile` and `work` as they are meant: each declaration is accepted or refused as its phases are defined.
use Rattle.std.specs.Prelude.{ℕ, true, false, List, [], ◌∷◌, Option, Result, Ok, Err}
use Rattle.surface_syntax.specs.Trees.{Decl}
use Rattle.function_session.specs.Meant.{declared_meant}
use Rattle.function_session.specs.Declaring.{new_session, session_after, with_declared}
use Rattle.function_session.specs.Sessions.{Session}
use Rattle.elim.specs.elim_program.Outputs.{Block, Output, block, compiled, declared_block, followed}
use Rattle.elim.specs.program_texts.Refusals.{stop_line}
use Rattle.elim.specs.program_texts.Texts.{Answer}
use Rattle.elim.specs.program_texts.Words.{asked, work_asked}
use Rattle.elim.specs.elim_program.Works.{none_counted, on_worked, with_accepted, worked_block}

-- the type of a value, and that of the value that an option holds
abbrev pub type_of : {A : Type 0} → A → Type 0
type_of {A} a = A

abbrev pub held_by : {A : Type 0} → Option A → Type 0
held_by {A} o = A

-- the flags of the words: axiom K or not, and the units of a declaration
abbrev pub Flags : Type 0
Flags = held_by (asked [])

-- the arguments of `work`: the number of families and functions in its source file, and the units of a declaration
abbrev pub Workload : Type 0
Workload = held_by (work_asked [])

-- the counts of what is accepted
abbrev pub Counted : Type 0
Counted = type_of none_counted

-- ---- `compile`

-- the lines of declarations one by one in a session, up to the first that is refused
abbrev pub declarations_meant : Session → List Decl → Block
declarations_meant s [] = block [] false
declarations_meant s (d ∷ ds) =
    followed (declared_block s.signature d (declared_meant s d)) (declarations_meant (session_after s d (declared_meant s d)) ds)

-- the lines of a source file: those of its declarations, or that of its refusal
abbrev pub text_meant : Flags → Answer → Block
text_meant command (Ok ds) = declarations_meant (new_session command.k command.fuel) ds
text_meant command (Err e) = block (stop_line e ∷ []) true

-- the lines that are written, and the status of the run
abbrev pub compiled_meant : Flags → Answer → Output
compiled_meant command answer = compiled command.k (text_meant command answer)

-- ---- `work`

-- the counts of declarations one by one in a session, or the lines of the first that is refused
abbrev pub worked_meant : Session → List Decl → Counted → Result Counted (List (List ℕ))
worked_meant s [] c = Ok c
worked_meant s (d ∷ ds) c = on_worked d (declared_meant s d) (λ a. worked_meant (with_declared s d a.signature) ds (with_accepted c a))

abbrev pub work_block_meant : Workload → Answer → Block
work_block_meant work (Ok ds) = worked_block work.count (worked_meant (new_session false work.fuel) ds none_counted)
work_block_meant work (Err e) = block (stop_line e ∷ []) true

abbrev pub work_meant : Workload → Answer → Output
work_meant work answer = compiled false (work_block_meant work answer)
