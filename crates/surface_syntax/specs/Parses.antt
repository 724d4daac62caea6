-- The answers of the parser for the tokens of a source file.
use Rattle.std.specs.Prelude.{◌≡◌, ℕ, ◌-◌, List, [], ◌∷◌, map, length, drop, Result, Ok, Err}
use Rattle.core_terms.specs.Answers.{GivesUnless}
use Rattle.surface_syntax.specs.Trees as tree
use Rattle.surface_syntax.specs.Grammar.{File, limit}
use Rattle.surface_syntax.specs.Machine.{Start}
use Rattle.surface_syntax.specs.Parsing.{Answer, Read, Wrong, Deep, run}
use Rattle.surface_syntax.specs.Viable.{GoesWrong}
use Rattle.surface_syntax.specs.Nesting.{IsNested}
use Rattle.surface_syntax.specs.Outcomes.{IsUnforeseen}
use Rattle.surface_syntax.specs.Lexemes.{lexemes_of}
use Rattle.surface_syntax.specs.TreeMeanings.{decl_of}
use Rattle.surface_syntax.specs.declared.tree.Decl.{Decl}
use Rattle.surface_syntax.specs.declared.token.Token.{Token}
use Rattle.surface_syntax.specs.declared.lexeme.Lexeme.{Lexeme}
use Rattle.surface_syntax.specs.declared.stop.SyntaxStop.{SyntaxStop}
use Rattle.surface_syntax.specs.declared.stop.SyntaxStop.TheVariants.{Memory, Nested, Syntax}

-- where the first token begins, or the file ends
abbrev pub begins_at : ℕ → List Token → ℕ
begins_at end [] = end
begins_at end (t ∷ ts) = t.start

-- the offset of the token with which so many tokens are left, or the length of the file
abbrev pub offset_of : List ℕ → List Token → ℕ → ℕ
offset_of bytes tokens n = begins_at (length bytes) (drop (length tokens - n) tokens)

-- the answer of a run, by offsets
abbrev pub by_offset : (ℕ → ℕ) → Answer → Result (List tree.Decl) SyntaxStop
by_offset at (Read ds) = Ok ds
by_offset at (Wrong n) = Err (Syntax (at n))
by_offset at (Deep n) = Err (Nested (at n))

-- the answer of the parser's machine for the tokens of the file
abbrev pub parsed : List ℕ → List Token → Result (List tree.Decl) SyntaxStop
parsed bytes tokens = by_offset (offset_of bytes tokens) (run limit Start (lexemes_of bytes tokens))

-- the answer stands for the one that is meant, unless memory runs out
abbrev pub GivesAnswer : {A B : Type 0} → (A → B) → Result A SyntaxStop → Result B SyntaxStop → Type 0
GivesAnswer f result meant = GivesUnless IsUnforeseen f result meant

-- nothing begins inside 2,000 others
abbrev pub NotNested : List Lexeme → Type 0
NotNested ts = (n : ℕ) → IsNested ts n → ⊥

-- `Ok` has declarations that the grammar has for the tokens, with no term, pattern or clause inside 2,000 others;
-- `Syntax` has the offset at which the file goes wrong, and `Nested` the one at which something is too deep
abbrev pub ParseSays : List ℕ → List Token → Result (List Decl) SyntaxStop → Type 0
ParseSays bytes tokens (Ok ds) = File limit (lexemes_of bytes tokens) (map decl_of ds)
ParseSays bytes tokens (Err Memory) = Unit {0}
ParseSays bytes tokens (Err (Syntax offset)) =
    (n : ℕ) × GoesWrong (lexemes_of bytes tokens) n × NotNested (lexemes_of bytes tokens) × (offset ≡ offset_of bytes tokens n)
ParseSays bytes tokens (Err (Nested offset)) = (n : ℕ) × IsNested (lexemes_of bytes tokens) n × (offset ≡ offset_of bytes tokens n)
ParseSays bytes tokens (Err _) = ⊥

-- each of these is answered wherever it fits, unless memory runs out
pub record ParseGives (bytes : List ℕ) (tokens : List Token) (r : Result (List Decl) SyntaxStop) : Type 0 where
  pub read : (ds : List tree.Decl) → File limit (lexemes_of bytes tokens) ds → GivesAnswer (map decl_of) r (Ok ds)
  pub wrong : (n : ℕ) → GoesWrong (lexemes_of bytes tokens) n → NotNested (lexemes_of bytes tokens) → GivesAnswer (map decl_of) r (Err (Syntax (offset_of bytes tokens n)))
  pub nested : (n : ℕ) → IsNested (lexemes_of bytes tokens) n → GivesAnswer (map decl_of) r (Err (Nested (offset_of bytes tokens n)))
