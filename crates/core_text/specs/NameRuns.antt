-- Names in core text are found by runs: all characters at the front that can be in a name.
use Rattle.std.specs.Prelude.{ℕ, zero, suc, ◌+◌, ◌-◌, ◌==◌, Bool, ◌&&◌, ◌||◌, if◌then◌else◌, nat_le, List, [], ◌∷◌, length, take}
use Rattle.std.specs.List.{list_all}
use Rattle.std.specs.Str.{chars, is_utf8, continuation_len}
use Rattle.surface_syntax.specs.Spelling.{is_continuing}

-- the characters of names: those that continue a name of the surface text, `.` and `!`
abbrev pub is_name_char : ℕ → Bool
is_name_char c = is_continuing c || ((c == 46) || (c == 33))

-- how many bytes a character with this first byte has
abbrev pub width : ℕ → ℕ
width b = 1 + continuation_len b

-- the bytes are characters of names, in UTF-8
abbrev pub are_name_chars : List ℕ → Bool
are_name_chars bytes = is_utf8 bytes && list_all is_name_char (chars bytes)

-- how many bytes the first character has, or 0 where the bytes do not begin with a character of a name
abbrev pub name_char_len : List ℕ → ℕ
name_char_len [] = 0
name_char_len (b ∷ bytes) =
    if nat_le (width b) (length (b ∷ bytes)) && are_name_chars (take (width b) (b ∷ bytes)) then width b else 0

-- the bytes of the run after the first k bytes, which are those of a character
abbrev pub run_after : ℕ → List ℕ → ℕ
run_after k [] = 0
run_after (suc k) (b ∷ bytes) = run_after k bytes
run_after zero (b ∷ bytes) =
    if name_char_len (b ∷ bytes) == 0 then 0 else name_char_len (b ∷ bytes) + run_after (name_char_len (b ∷ bytes) - 1) bytes

-- how many bytes the run at the front has
abbrev pub run_len : List ℕ → ℕ
run_len bytes = run_after 0 bytes
