-- Blocks as texts.
use Rattle.std.specs.Prelude.{ℕ, Bool, List, ◌≡◌, Result, Ok, Err}
use Rattle.elim.specs.declared.elim_program.block.Block as code
use Rattle.elim.specs.program_texts.Lines.{text_of}
use Rattle.elim.specs.elim_program.Outputs.{Block}
use Rattle.elim.specs.declared.program_texts.status.Status.{Status}
use Rattle.elim.specs.declared.program_texts.status.Status.TheVariants.{NoMemory}

pub record BlockText : Type 0 where
  pub text : List ℕ
  pub refused : Bool

abbrev pub text_of_block : code.Block → BlockText
text_of_block b = record { text = b.text.items; refused = b.refused }

-- these lines as a text
abbrev pub shown : List (List ℕ) → Bool → BlockText
shown lines refused = record { text = text_of lines; refused = refused }

abbrev pub shown_block : Block → BlockText
shown_block block = shown block.lines block.refused

-- the code makes this block, unless memory ran out
abbrev pub Makes : Result code.Block Status → Block → Type 0
Makes (Ok b) meant = text_of_block b ≡ shown_block meant
Makes (Err e) meant = e ≡ NoMemory
