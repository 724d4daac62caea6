-- Texts as lists of lines.
use Rattle.std.specs.Prelude.{ℕ, ◌==◌, if◌then◌else◌, List, [], ◌∷◌, ◌++◌}

-- one more character at the front of the first line
abbrev pub longer : ℕ → List (List ℕ) → List (List ℕ)
longer c [] = []
longer c (line ∷ lines) = (c ∷ line) ∷ lines

-- the whole lines of a text, without their line feeds; what follows the last line feed is no whole line
abbrev pub lines_of : List ℕ → List (List ℕ)
lines_of [] = []
lines_of (c ∷ cs) = if c == 10 then [] ∷ lines_of cs else longer c (lines_of cs)

-- lines as a text, each ended by a line feed
abbrev pub text_of : List (List ℕ) → List ℕ
text_of [] = []
text_of (line ∷ lines) = line ++ 10 ∷ text_of lines
