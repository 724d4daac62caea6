-- The last line of an output and the status that it shows.
use Rattle.std.specs.Prelude.{ℕ, ◌==◌, Bool, true, false, ◌&&◌, if◌then◌else◌, List, [], ◌∷◌, codes}
use Rattle.elim.specs.declared.program_texts.status.Status.{Status}
use Rattle.elim.specs.declared.program_texts.status.Status.TheVariants as status

-- whether the line begins with the bytes
abbrev pub begins : List ℕ → List ℕ → Bool
begins [] line = true
begins (c ∷ text) [] = false
begins (c ∷ text) (d ∷ line) = (c == d) && begins text line

-- the last line, or an empty one where there is none
abbrev pub last_line : List (List ℕ) → List ℕ
last_line [] = []
last_line (line ∷ []) = line
last_line (line ∷ next ∷ lines) = last_line (next ∷ lines)

-- the status that a last line shows: that of a refusal, of the usage line, or of a run that is done
abbrev pub status_by : List ℕ → Status
status_by line =
    if begins (codes "# refused ") line then status.Refused else (if begins (codes "# usage ") line then status.Usage else status.Done)
