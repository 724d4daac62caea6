-- The output and the status of a run.
use Rattle.std.specs.Prelude.{◌≡◌, ℕ, List, [], Option, IfSome, ◌⊎◌}
use Rattle.std.specs.Io.KnownBytes.{Appends}
use Rattle.elim.specs.declared.program_texts.status.Status.{Status}
use Rattle.elim.specs.declared.program_texts.status.Status.TheVariants.{ReadFault, NoMemory}
use Rattle.elim.specs.elim_program.DefinedOutputs.{IsOutput}
use Rattle.elim.specs.elim_program.Outputs.{Output}
use Rattle.elim.specs.elim_program.Runs.{Follows}
use Rattle.elim.specs.elim_program.VerifyHeadline.{IsVerifyHeadline}
use Rattle.elim.specs.headline.FullHeadline.{IsFullHeadline}

-- A run follows an output that is defined for its words and the bytes, or it ended before it wrote anything: by a fault of
-- the source, or out of memory. If a whole line of what was written says that a declaration is accepted, the lines above show it in
-- full (`IsFullyShown`). If one says that an entry of a core file is verified, the entries verified up to it are a signature by the rules.
pub data HasWritten (words : List (List ℕ)) (bytes : List ℕ) (before after : Option (List ℕ)) (status : Status) : Type 0 where
  nothing : Appends before after [] → (status ≡ ReadFault) ⊎ (status ≡ NoMemory) → HasWritten words bytes before after status
  output : (out : Output) → IsOutput words bytes out → (follows : Follows out before after status) → IsFullHeadline words bytes follows.text
      → IsVerifyHeadline words bytes follows.text → HasWritten words bytes before after status

-- the bytes are those that the source had left, where they are known
pub record HasRun (words : List (List ℕ)) (left before after : Option (List ℕ)) (status : Status) : Type 0 where
  pub bytes : List ℕ
  pub known : IfSome left (λ known. bytes ≡ known)
  pub written : HasWritten words bytes before after status
