-- The verified entries of a core file are a signature by the rules.
use Rattle.std.specs.Prelude.{◌≡◌, ℕ, Bool, IsTrue, List, [], ◌∷◌, ◌++◌, map, Some, Ok}
use Rattle.theory.specs.Prelude.{prelude}
use Rattle.theory.specs.Signatures.{Signature}
use Rattle.theory.specs.WellFormed.{IsWellFormed}
use Rattle.core_text.specs.EntryReading.{entry_from}
use Rattle.core_text.specs.Heads.{head_of}
use Rattle.core_text.specs.RawEntries.{RawEntry}
use Rattle.elab_session.specs.Adding.{Adds}
use Rattle.elab_session.specs.Sessions.{IsReady}
use Rattle.elim.specs.declared.program_texts.words.Command.{Command}
use Rattle.elim.specs.elim_program.DefinedOutputs.{IsOutput}
use Rattle.elim.specs.program_texts.Lines.{lines_of, text_of}
use Rattle.elim.specs.elim_program.Outputs.{Output, head_lines}
use Rattle.elim.specs.elim_program.Verifies.{read_name, verified_line}
use Rattle.elim.specs.program_texts.Words.{verify_asked}

-- The core text up to an offset has the signature: the prelude, with axiom K where the head says so and `k` allows it, and
-- after it the entries that are read one by one, which have the names.
pub data Holds (k : Bool) (text : List ℕ) : Signature → ℕ → List (List ℕ) → Type 0 where
  head : (has_k : Bool) (from : ℕ) → head_of k text ≡ Ok (has_k, from) → Holds k text (prelude has_k) from []
  entry : (S T : Signature) (from to : ℕ) (names : List (List ℕ)) (raw : RawEntry) → Holds k text S from names
      → entry_from S text from ≡ Ok (Some (raw, to)) → Adds S raw T → Holds k text T to (names ++ read_name S raw ∷ [])

-- The lines up to the one that verifies an entry are the head lines and one line for each entry of a signature after the
-- prelude, which the core text has. The signature is well formed, and without axiom K unless the words ask for it.
pub record IsVerified (k : Bool) (text : List ℕ) (above : List (List ℕ)) (name : List ℕ) : Type 0 where
  pub signature : Signature
  pub offset : ℕ
  pub names : List (List ℕ)
  pub held : Holds k text signature offset names
  pub formed : IsWellFormed signature
  pub has_k : IsTrue signature.has_k → IsTrue k
  pub lines : above ++ verified_line name ∷ [] ≡ head_lines k ++ map verified_line names

-- if a core file is to be verified, and a whole line of the text says that an entry is verified, the core file has such an entry
-- (`IsVerified`)
abbrev pub IsVerifyHeadline : List (List ℕ) → List ℕ → List ℕ → Type 0
IsVerifyHeadline words bytes text =
    (command : Command) → verify_asked words ≡ Some command → (above below : List (List ℕ)) (name : List ℕ)
    → lines_of text ≡ above ++ verified_line name ∷ below → IsVerified command.k bytes above name

-- The lines are those of verified entries (`IsVerified`), and the signature is one that a session may have.
pub record IsVerifiedReady (k : Bool) (text : List ℕ) (above : List (List ℕ)) (name : List ℕ) : Type 0 where
  pub verified : IsVerified k text above name
  pub ready : IsReady verified.signature

abbrev pub SaysVerified : List (List ℕ) → List ℕ → List ℕ → Type 0
SaysVerified words bytes text =
    (command : Command) → verify_asked words ≡ Some command → (above below : List (List ℕ)) (name : List ℕ)
    → lines_of text ≡ above ++ verified_line name ∷ below → IsVerifiedReady command.k bytes above name

-- each line that verifies an entry is right, in each output that is defined and in each front of it
abbrev pub VerifiedIsReady : Type 0
VerifiedIsReady =
    (words : List (List ℕ)) (bytes : List ℕ) (out : Output) → IsOutput words bytes out → (text rest : List ℕ) → text_of out.lines ≡ text ++ rest → SaysVerified words bytes text

-- the headline of each output that is defined
abbrev pub VerifyHeadline : Type 0
VerifyHeadline = (words : List (List ℕ)) (bytes : List ℕ) (out : Output) → IsOutput words bytes out → IsVerifyHeadline words bytes (text_of out.lines)
