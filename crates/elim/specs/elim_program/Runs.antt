-- The output and the status of a run.
use Rattle.std.specs.Prelude.{◌≡◌, ◌≢◌, ℕ, Bool, List, [], ◌++◌, Option, Result, Ok, Err, IfSome, ◌⊎◌}
use Rattle.std.specs.Io.KnownBytes.{Appends}
use Rattle.elim.specs.declared.program_texts.status.Status.{Status}
use Rattle.elim.specs.declared.program_texts.status.Status.TheVariants.{ReadFault, WriteFault, NoMemory}
use Rattle.elim.specs.elim_program.DefinedOutputs.{IsOutput}
use Rattle.elim.specs.elim_program.Headline.{IsHeadline}
use Rattle.elim.specs.program_texts.Lines.{text_of}
use Rattle.elim.specs.elim_program.Outputs.{Block, Output}
use Rattle.elim.specs.elim_program.VerifyHeadline.{IsVerifyHeadline}

abbrev pub IsFront : List ℕ → List ℕ → Type 0
IsFront front text = (rest : List ℕ) × (text ≡ front ++ rest)

-- The meaning of a status for the text that was written: `Done`, `Refused` and `Usage` come exactly where the whole output
-- was written and has that status, and only `NoMemory` may take their place.
abbrev pub Says : Status → Output → List ℕ → Type 0
Says ReadFault out text = ⊥
Says WriteFault out text = text ≢ text_of out.lines
Says NoMemory out text = Unit {0}
Says answer out text = (text ≡ text_of out.lines) × (out.status ≡ answer)

-- the bytes that were written are a front of an output, and the status says how much of it
pub record Follows (out : Output) (before after : Option (List ℕ)) (status : Status) : Type 0 where
  pub text : List ℕ
  pub appended : Appends before after text
  pub front : IsFront text (text_of out.lines)
  pub says : Says status out text

-- A run follows an output that is defined for its words and the bytes, or it ended before it wrote anything: by a fault of
-- the source, or out of memory. The headlines: if a whole line of what was written says that a declaration is
-- accepted, the lines above it show the declaration. If one says that an entry of a core file is verified, the entries
-- verified up to it are a signature by the rules.
pub data Wrote (words : List (List ℕ)) (bytes : List ℕ) (before after : Option (List ℕ)) (status : Status) : Type 0 where
  nothing : Appends before after [] → (status ≡ ReadFault) ⊎ (status ≡ NoMemory) → Wrote words bytes before after status
  output : (out : Output) → IsOutput words bytes out → (follows : Follows out before after status) → IsHeadline words bytes follows.text → IsVerifyHeadline words bytes follows.text → Wrote words bytes before after status

-- the bytes are those that the source had left, where they are known
pub record Runs (words : List (List ℕ)) (left before after : Option (List ℕ)) (status : Status) : Type 0 where
  pub bytes : List ℕ
  pub known : IfSome left (λ known. bytes ≡ known)
  pub wrote : Wrote words bytes before after status

-- a whole output was written, and the status is its own
pub record IsWhole (words : List (List ℕ)) (left before after : Option (List ℕ)) (status : Status) : Type 0 where
  pub bytes : List ℕ
  pub known : IfSome left (λ known. bytes ≡ known)
  pub out : Output
  pub is_output : IsOutput words bytes out
  pub appended : Appends before after (text_of out.lines)
  pub status_is : out.status ≡ status

-- a write that failed: not all of the text went out, or memory ran out
abbrev pub Failed : Status → List ℕ → List ℕ → Type 0
Failed WriteFault text whole = text ≢ whole
Failed NoMemory text whole = Unit {0}
Failed _ text whole = ⊥

-- a text went out whole, or a front of it
abbrev pub Sent : Result (Unit {0}) Status → List ℕ → List ℕ → Type 0
Sent (Ok _) text whole = text ≡ whole
Sent (Err status) text whole = IsFront text whole × Failed status text whole

-- the lines of a block went out whole, with whether it refuses, or a front of them
abbrev pub Written : Result Bool Status → Block → List ℕ → Type 0
Written (Ok refused) b text = (text ≡ text_of b.lines) × (refused ≡ b.refused)
Written (Err status) b text = IsFront text (text_of b.lines) × Failed status text (text_of b.lines)
