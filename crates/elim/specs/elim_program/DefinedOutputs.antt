-- The output that is defined for the words and the bytes of a source, and the status.
use Rattle.std.specs.Prelude.{◌≡◌, ℕ, List, Some, None}
use Rattle.elim.specs.declared.program_texts.words.Command.{Command}
use Rattle.elim.specs.declared.program_texts.words.Work.{Work}
use Rattle.elim.specs.elim_program.Outputs.{Output, usage, compiled, text_block}
use Rattle.elim.specs.program_texts.Texts.{Answer, Gives, limited}
use Rattle.elim.specs.elim_program.Verifies.{file_block}
use Rattle.elim.specs.program_texts.Words.{asked, verify_asked, work_asked}
use Rattle.elim.specs.elim_program.WorkTexts.{work_text}
use Rattle.elim.specs.elim_program.Works.{work_output}

-- the output that is defined for the words and the bytes
pub data IsOutput (words : List (List ℕ)) (bytes : List ℕ) : Output → Type 0 where
  refused_words : asked words ≡ None → verify_asked words ≡ None → work_asked words ≡ None → IsOutput words bytes usage
  compiles : (command : Command) (answer : Answer) → asked words ≡ Some command → Gives bytes answer → IsOutput words bytes (compiled command.k (text_block command answer))
  verifies : (command : Command) → verify_asked words ≡ Some command → IsOutput words bytes (compiled command.k (file_block command (limited bytes)))
  works : (work : Work) (answer : Answer) → work_asked words ≡ Some work → Gives (work_text work.count) answer → IsOutput words bytes (work_output work answer)

-- for all words and bytes one output at most is defined
abbrev pub HasOneOutput : Type 0
HasOneOutput = (words : List (List ℕ)) (bytes : List ℕ) (a b : Output) → IsOutput words bytes a → IsOutput words bytes b → a ≡ b
