-- A run is made of characters of names.
use Rattle.std.proofs.Common.{◌≡◌, ℕ, zero, suc, ◌<◌, ◌≤◌, true, List, [], ◌∷◌, ◌++◌, length, drop, take, refl, ap, ◌∙◌, arith}
use Rattle.std.specs.Str.{is_utf8, chars}
use Rattle.std.proofs.lemmas.List.{length-drop}
use Rattle.std.proofs.Math.Seq.{take-add}
use Rattle.core_text.specs.NameRuns.{width, are_name_chars, name_char_len, run_len}
use Rattle.core_text.specs.Places.{first_character}
use Rattle.core_text.specs.Reading.{first}
use Rattle.core_text.proofs.Characters.{is-run}
use Rattle.core_text.proofs.RunSteps.{run_end}
use Rattle.core_text.proofs.WholeRuns.{chars-join}

-- the bytes of the run at the front
abbrev pub run : List ℕ → List ℕ
run z = take (run_len z) z

pub none-chars : are_name_chars [] ≡ true
unfolding is_utf8 chars
none-chars = refl

-- a run that begins with a character is the character and the run after it
pub run-parts : (z : List ℕ) → 0 < name_char_len z → run z ≡ first_character z ++ run (drop (width (first z)) z)
run-parts z some =
    let more = is-run z some in
    ap (λ k. take k z) more.more ∙ take-add (width (first z)) (run_len (drop (width (first z)) z)) z

-- fuel bounds the number of bytes
run-chars-by : (fuel : ℕ) (z : List ℕ) → length z ≤ fuel → are_name_chars (run z) ≡ true
run-chars-by zero [] le = none-chars
run-chars-by zero (b ∷ bytes) le = absurd (omega arith)
run-chars-by (suc fuel) z le = by (λ r short. run-chars-by fuel r short) (name_char_len z) refl
  where
    by : ((r : List ℕ) → length r ≤ fuel → are_name_chars (run r) ≡ true) → (n : ℕ) → name_char_len z ≡ n → are_name_chars (run z) ≡ true
    by others zero e = ap (λ k. are_name_chars (take k z)) (run_end z e) ∙ none-chars
    by others (suc n) e =
        let some : 0 < name_char_len z = omega arith in
        let char = (is-run z some).char in
        let w = width (first z) in
        ap are_name_chars (run-parts z some) ∙ chars-join (first_character z) (run (drop w z)) char.chars (others (drop w z) (omega (arith, length-drop w z, char.within)))

pub run-chars : (z : List ℕ) → are_name_chars (run z) ≡ true
run-chars z = run-chars-by (length z) z (omega arith)
