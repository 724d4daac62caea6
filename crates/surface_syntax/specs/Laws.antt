-- The laws that tie the machine of the parser to the grammar: each of its three answers comes exactly where the grammar
-- says, and for every text one of them comes.
use Rattle.std.specs.Prelude.{◌≡◌, ◌↔◌, ◌≤◌, ℕ, Bool, List}
use Rattle.surface_syntax.specs.Trees as tree
use Rattle.surface_syntax.specs.Grammar.{File, limit}
use Rattle.surface_syntax.specs.Machine.{Start}
use Rattle.surface_syntax.specs.Parsing.{Read, Wrong, Deep, run}
use Rattle.surface_syntax.specs.Viable.{every, GoesWrong}
use Rattle.surface_syntax.specs.Nesting.{IsTooDeepAt, IsNested}
use Rattle.surface_syntax.specs.declared.lexeme.Lexeme.{Lexeme}

-- the machine reads declarations exactly where the grammar has them, with no term, pattern or clause inside 2,000 others
abbrev pub ReadsTheGrammar : Type 0
ReadsTheGrammar = (ts : List Lexeme) (ds : List tree.Decl) → (run limit Start ts ≡ Read ds) ↔ File limit ts ds

-- lexemes are the declarations of one list at most
abbrev pub HasOneReading : Type 0
HasOneReading = (allows : ℕ → ℕ → Bool) (ts : List Lexeme) (ds es : List tree.Decl) → File allows ts ds → File allows ts es → ds ≡ es

-- the machine goes wrong exactly where the lexemes before begin a source file, no file goes on with the next
-- one, and nothing begins inside 2,000 others
abbrev pub GoesWrongWithTheGrammar : Type 0
GoesWrongWithTheGrammar = (ts : List Lexeme) (n : ℕ) → (run limit Start ts ≡ Wrong n) ↔ (GoesWrong ts n × ((m : ℕ) → IsNested ts m → ⊥))

-- the machine finds something too deep exactly where it begins
abbrev pub GoesTooDeepWithTheGrammar : Type 0
GoesTooDeepWithTheGrammar = (ts : List Lexeme) (n : ℕ) → (run limit Start ts ≡ Deep n) ↔ IsNested ts n

-- where lexemes go wrong and something is too deep, it begins before that or at the same place
abbrev pub NestedComesFirst : Type 0
NestedComesFirst = (ts : List Lexeme) (n m : ℕ) → GoesWrong ts n → IsNested ts m → n ≤ m

-- in a source file, the place of a refusal for depth is where the first production that is inside 2,000 others begins
abbrev pub NestedInAText : Type 0
NestedInAText = (ts : List Lexeme) (ds : List tree.Decl) (n : ℕ) → File every ts ds → IsNested ts n ↔ IsTooDeepAt ts n
