-- The code's counts are those that are defined.
use Rattle.std.specs.Prelude.{◌≡◌, ℕ, true, List, Result, Ok, Err}
use Rattle.elim.specs.declared.elim_program.block.Block as code
use Rattle.elim.specs.declared.elim_program.counts.Counts.{Counts}
use Rattle.elim.specs.declared.program_texts.status.Status.{Status}
use Rattle.elim.specs.declared.program_texts.status.Status.TheVariants.{NoMemory}
use Rattle.elim.specs.elim_program.Blocks.{text_of_block, shown}

-- the lines of a block that refuses
abbrev pub Refuses : code.Block → Result Counts (List (List ℕ)) → Type 0
Refuses b (Ok c) = ⊥
Refuses b (Err lines) = text_of_block b ≡ shown lines true

-- the code counts what is meant, or makes the lines of its refusal, unless memory ran out
abbrev pub Counted : Result (Result Counts code.Block) Status → Result Counts (List (List ℕ)) → Type 0
Counted (Ok (Ok c)) meant = Ok c ≡ meant
Counted (Ok (Err b)) meant = Refuses b meant
Counted (Err e) meant = e ≡ NoMemory
