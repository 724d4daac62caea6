-- The lines for the entries of a core file, one by one, up to the first that is refused.
use Rattle.std.specs.Prelude.{◌≡◌, ℕ, zero, suc, ◌-◌, ◌<◌, ◌≤◌, Bool, true, false, List, [], ◌∷◌, ◌++◌, length, codes, Option, Some, None, Result, Ok, Err}
use Rattle.theory.specs.Terms.{Elim, AxiomK}
use Rattle.theory.specs.Signatures.{Signature}
use Rattle.theory.specs.Prelude.{prelude}
use Rattle.core_text.specs.EntryReading.{entry_from}
use Rattle.core_text.specs.Heads.{head_of}
use Rattle.core_text.specs.RawEntries.{RawEntry, RawFamilyOf, RawEliminator, RawAxiomK, RawDefinition}
use Rattle.core_text.specs.TermText.{term_text}
use Rattle.core_text.specs.declared.stop.CoreTextStop.{CoreTextStop}
use Rattle.family_check.specs.Entering.{Entered}
use Rattle.elab_session.specs.Entering.{enter_of}
use Rattle.elab_session.specs.declared.refusal.Refusal.{Refusal}
use Rattle.elim.specs.declared.program_texts.text_stop.TextStop.TheVariants as stop
use Rattle.elim.specs.declared.program_texts.words.Command.{Command}
use Rattle.elim.specs.elim_program.Outputs.{Block, block, followed}
use Rattle.elim.specs.program_texts.Refusals.{stop_line, refusal_line}
use Rattle.elim.specs.program_texts.Texts.{unread}

-- the name of an entry that is read over S; that of an instance is how its symbol is spelled
abbrev pub read_name : Signature → RawEntry → List ℕ
read_name S (RawFamilyOf raw) = raw.name
read_name S (RawEliminator n m) = term_text S (Elim n m)
read_name S (RawAxiomK i m) = term_text S (AxiomK i m)
read_name S (RawDefinition name type body) = name

abbrev pub verified_line : List ℕ → List ℕ
verified_line name = codes "# verified " ++ name

-- the line of an entry with the name
abbrev pub entry_block : List ℕ → Result Entered Refusal → Block
entry_block name (Ok x) = block (verified_line name ∷ []) false
entry_block name (Err e) = block (refusal_line name e ∷ []) true

-- the line of an entry that is read over S
abbrev pub read_block : Signature → ℕ → RawEntry → Block
read_block S fuel raw = entry_block (read_name S raw) (enter_of S fuel raw)

-- the signature after an entry
abbrev pub after_entry : Signature → Result Entered Refusal → Signature
after_entry S (Ok x) = x.signature
after_entry S (Err e) = S

abbrev pub unread_block : CoreTextStop → Block
unread_block e = block (stop_line (unread e) ∷ []) true

-- the lines of what is read next over S, and after it those of the `others`
abbrev pub next_block : ℕ → Signature → (Signature → ℕ → Block) → Result (Option (RawEntry × ℕ)) CoreTextStop → Block
next_block fuel S others (Ok None) = block [] false
next_block fuel S others (Ok (Some p)) =
    followed (read_block S fuel p.0) (others (after_entry S (enter_of S fuel p.0)) p.1)
next_block fuel S others (Err e) = unread_block e

-- the lines of the entries from an offset on, of which there are fewer than `most`
abbrev pub entries : List ℕ → ℕ → ℕ → Signature → ℕ → Block
entries text fuel zero S from = block [] false
entries text fuel (suc most) S from = next_block fuel S (entries text fuel most) (entry_from S text from)

-- The lines after a head that is read. Each entry may spend `fuel` units, and has one byte at least.
abbrev pub after_head : ℕ → List ℕ → Result (Bool × ℕ) CoreTextStop → Block
after_head fuel text (Ok p) = entries text fuel (suc (length text)) (prelude p.0) p.1
after_head fuel text (Err e) = unread_block e

-- the lines of a core file, or of a file that is too long to be read
abbrev pub file_block : Command → Option (List ℕ) → Block
file_block command (Some text) = after_head command.fuel text (head_of command.k text)
file_block command None = block (stop_line stop.TooLong ∷ []) true

-- A greater bound adds no entry: where it is above the number of the bytes that are left, the lines are those of all entries.
abbrev pub BoundIsEnough : Type 0
BoundIsEnough =
    (text : List ℕ) (fuel : ℕ) (S : Signature) (from most more : ℕ) → from ≤ length text → length text - from < most → most ≤ more
    → entries text fuel most S from ≡ entries text fuel more S from
