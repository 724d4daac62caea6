-- Characters and runs of texts that agree: a run depends on its own bytes and on the one character after it.
use Rattle.std.proofs.Common.{◌≡◌, ℕ, zero, suc, ◌+◌, ◌<◌, ◌≤◌, Bool, true, false, List, [], ◌∷◌, ◌++◌, length, drop, take, refl, sym, ap, ap₂, ◌∙◌, subst, append_assoc, arith}
use Rattle.std.specs.Prelude.{◌&&◌, nat_le, if◌then◌else◌}
use Rattle.std.specs.Str.{continuation_len}
use Rattle.std.proofs.lemmas.Bool.Decides.{nat_tests}
use Rattle.std.proofs.Math.Seq.{take-add, drop-append_seam}
use Rattle.std.proofs.lemmas.List.{length-take-le, length-drop, take_at, take_all, take-take, drop-drop}
use Rattle.core_text.specs.NameRuns.{width, are_name_chars, name_char_len, run_len}
use Rattle.core_text.specs.Places.{first_character, first_name}
use Rattle.core_text.specs.Reading.{first}
use Rattle.core_text.proofs.RunSteps.{run_more, run_end}

-- equal first characters, as far as they are there
abbrev pub Same : List ℕ → List ℕ → Type 0
Same z y = first_character z ≡ first_character y

-- equal names, and equal characters after them
abbrev pub SameName : List ℕ → List ℕ → Type 0
SameName z y = first_name z ≡ first_name y

-- ---- the first character

width-more : (b : ℕ) → width b ≡ suc (continuation_len b)
width-more b = omega arith

pub character-led : (b : ℕ) (bytes : List ℕ) → first_character (b ∷ bytes) ≡ b ∷ take (continuation_len b) bytes
character-led b bytes = ap (λ k. take k (b ∷ bytes)) (width-more b)

one-of : (z : List ℕ) → take 1 (first_character z) ≡ take 1 z
one-of [] = refl
one-of (b ∷ bytes) = ap (take 1) (character-led b bytes)

pub one-same : (z y : List ℕ) → Same z y → take 1 z ≡ take 1 y
one-same z y same = sym (one-of z) ∙ (ap (take 1) same ∙ one-of y)

first-of : (z : List ℕ) → first (take 1 z) ≡ first z
first-of [] = refl
first-of (b ∷ bytes) = refl

pub first-one : (z y : List ℕ) → take 1 z ≡ take 1 y → first z ≡ first y
first-one z y same = sym (first-of z) ∙ (ap first same ∙ first-of y)

pub first-same : (z y : List ℕ) → Same z y → first z ≡ first y
first-same z y same = first-one z y (one-same z y same)

pub none-one : (y : List ℕ) → take 1 [] ≡ take 1 y → y ≡ []
none-one [] same = refl
none-one (b ∷ bytes) same = absurd (cc)

pub none-same : (y : List ℕ) → Same [] y → y ≡ []
none-same y same = none-one y (one-same [] y same)

-- a byte below 128 is a character
pub low-led : (b : ℕ) (bytes : List ℕ) → b < 128 → first_character (b ∷ bytes) ≡ b ∷ []
low-led b bytes low =
    let none : continuation_len b ≡ 0 = grind (arith, nat_tests) in
    character-led b bytes ∙ ap (λ k. b ∷ take k bytes) none

pub low-same : (b : ℕ) (v z y : List ℕ) → b < 128 → Same (b ∷ (v ++ z)) (b ∷ (v ++ y))
low-same b v z y low = low-led b (v ++ z) low ∙ sym (low-led b (v ++ y) low)

-- ---- whether a character can be in a name

test-same : (a b c d : Bool) (k : ℕ) → a ≡ c → b ≡ d → (if a && b then k else 0) ≡ (if c && d then k else 0)
test-same a b c d k e f = ap₂ (λ x y. if x && y then k else 0) e f

reaches : (k : ℕ) (bytes : List ℕ) → nat_le k (length (take k bytes)) ≡ nat_le k (length bytes)
reaches k bytes = by (nat_le k (length bytes)) refl
  where
    short : (m : ℕ) (r : List ℕ) → length r < m → take m r ≡ r
    short m r lt = take_all m r (omega arith)

    by : (c : Bool) → nat_le k (length bytes) ≡ c → nat_le k (length (take k bytes)) ≡ nat_le k (length bytes)
    by true e =
        let le : k ≤ length bytes = grind (arith, nat_tests) in
        let is : length (take k bytes) ≡ k = length-take-le k bytes le in
        grind (arith, nat_tests)
    by false e =
        let lt : length bytes < k = grind (arith, nat_tests) in ap (λ r. nat_le k (length r)) (short k bytes lt)

char-alone : (z : List ℕ) → name_char_len (first_character z) ≡ name_char_len z
char-alone [] = refl
char-alone (b ∷ bytes) =
    let led = character-led b bytes in
    let whole : take (width b) (b ∷ take (continuation_len b) bytes) ≡ take (width b) (b ∷ bytes) =
    ap (take (width b)) (sym led) ∙ take-take (width b) (width b) (b ∷ bytes) (omega arith) in
    let long : nat_le (width b) (length (b ∷ take (continuation_len b) bytes)) ≡ nat_le (width b) (length (b ∷ bytes)) =
    ap (λ r. nat_le (width b) (length r)) (sym led) ∙ reaches (width b) (b ∷ bytes) in
    ap name_char_len led
    ∙ test-same (nat_le (width b) (length (b ∷ take (continuation_len b) bytes))) (are_name_chars (take (width b) (b ∷ take (continuation_len b) bytes))) (nat_le (width b) (length (b ∷ bytes))) (are_name_chars (take (width b) (b ∷ bytes))) (width b) long (ap are_name_chars whole)

pub char-same : (z y : List ℕ) → Same z y → name_char_len z ≡ name_char_len y
char-same z y same = sym (char-alone z) ∙ (ap name_char_len same ∙ char-alone y)

-- the bytes begin with a character of a name
pub record IsCharacter (z : List ℕ) : Type 0 where
  pub wide : name_char_len z ≡ width (first z)
  pub within : width (first z) ≤ length z
  pub chars : are_name_chars (first_character z) ≡ true

pub is-character : (z : List ℕ) → 0 < name_char_len z → IsCharacter z
is-character [] some = absurd (omega arith)
is-character (b ∷ bytes) some = by (nat_le (width b) (length (b ∷ bytes))) refl (are_name_chars (take (width b) (b ∷ bytes))) refl
  where
    none : (c d : Bool) → (c && d) ≡ false → 0 < (if c && d then width b else 0) → ⊥
    none c d e lt = by-test (c && d) e lt
      where
        by-test : (t : Bool) → t ≡ false → 0 < (if t then width b else 0) → ⊥
        by-test true e lt = absurd (cc)
        by-test false e lt = omega arith

    no : (c d : Bool) → (c && d) ≡ false → nat_le (width b) (length (b ∷ bytes)) ≡ c → are_name_chars (take (width b) (b ∷ bytes)) ≡ d → IsCharacter (b ∷ bytes)
    no c d off e f = absurd (none (nat_le (width b) (length (b ∷ bytes))) (are_name_chars (take (width b) (b ∷ bytes))) (ap₂ ◌&&◌ e f ∙ off) some)

    by : (c : Bool) → nat_le (width b) (length (b ∷ bytes)) ≡ c → (d : Bool) → are_name_chars (take (width b) (b ∷ bytes)) ≡ d → IsCharacter (b ∷ bytes)
    by true e true f = record {
      wide = ap₂ (λ x y. if x && y then width b else 0) e f;
      within = grind (arith, nat_tests);
      chars = f;
    }
    by true e false f = no true false refl e f
    by false e true f = no false true refl e f
    by false e false f = no false false refl e f

-- ---- runs

-- a run that begins with a character
pub record IsRun (z : List ℕ) : Type 0 where
  pub char : IsCharacter z
  pub more : run_len z ≡ width (first z) + run_len (drop (width (first z)) z)

pub is-run : (z : List ℕ) → 0 < name_char_len z → IsRun z
is-run z some =
    let char = is-character z some in
    record { char = char; more = run_more z (width (first z)) char.wide (omega arith) }

-- a run that is not empty begins with a character
pub some-run : (z : List ℕ) → 0 < run_len z → 0 < name_char_len z
some-run z some = by (name_char_len z) refl
  where
    by : (n : ℕ) → name_char_len z ≡ n → 0 < name_char_len z
    by zero e = let none = run_end z e in absurd (omega arith)
    by (suc n) e = omega arith

-- fuel bounds the number of bytes
run-within-by : (fuel : ℕ) (z : List ℕ) → length z ≤ fuel → run_len z ≤ length z
run-within-by zero [] le = omega arith
run-within-by zero (b ∷ bytes) le = absurd (omega arith)
run-within-by (suc fuel) z le = by (λ r short. run-within-by fuel r short) (name_char_len z) refl
  where
    by : ((r : List ℕ) → length r ≤ fuel → run_len r ≤ length r) → (n : ℕ) → name_char_len z ≡ n → run_len z ≤ length z
    by others zero e = let none = run_end z e in omega arith
    by others (suc n) e =
        let run = is-run z (omega arith) in
        let short = length-drop (width (first z)) z in
        let more = others (drop (width (first z)) z) (omega arith) in
        omega (arith, run.more, run.char.within)

pub run-within : (z : List ℕ) → run_len z ≤ length z
run-within z = run-within-by (length z) z (omega arith)

-- where the first character is none of a name
pub no-run-same : (z y : List ℕ) → Same z y → run_len z ≡ 0 → run_len y ≡ 0
no-run-same z y same none = by (name_char_len z) refl
  where
    by : (n : ℕ) → name_char_len z ≡ n → run_len y ≡ 0
    by zero e = run_end y (sym (char-same z y same) ∙ e)
    by (suc n) e = let run = is-run z (omega arith) in absurd (omega (arith, run.more, none))

-- bytes after a character leave it
pub char-front : (z y : List ℕ) → 0 < name_char_len z → first_character (first_character z ++ y) ≡ first_character z
char-front [] y some = absurd (omega arith)
char-front (b ∷ bytes) y some =
    let char = is-character (b ∷ bytes) some in
    let led = character-led b bytes in
    ap (λ r. first_character (r ++ y)) led
    ∙ (take_at (b ∷ take (continuation_len b) bytes) y (width b) (ap length (sym led) ∙ length-take-le (width b) (b ∷ bytes) char.within) ∙ sym led)

-- A run is over where it was over before, if the character after it is the same.
run-again-by : (fuel : ℕ) (z y : List ℕ) → length z ≤ fuel → Same (drop (run_len z) z) y → run_len (take (run_len z) z ++ y) ≡ run_len z
run-again-by zero [] y le same = run_end y (sym (char-same [] y same))
run-again-by zero (b ∷ bytes) y le same = absurd (omega arith)
run-again-by (suc fuel) z y le same = by (λ r short same. run-again-by fuel r y short same) (name_char_len z) refl
  where
    by : ((r : List ℕ) → length r ≤ fuel → Same (drop (run_len r) r) y → run_len (take (run_len r) r ++ y) ≡ run_len r) → (n : ℕ) → name_char_len z ≡ n → run_len (take (run_len z) z ++ y) ≡ run_len z
    by more zero e =
        let none = run_end z e in
        let here : Same z y = subst (λ k. Same (drop k z) y) none same in
        ap (λ k. run_len (take k z ++ y)) none ∙ (run_end y (sym (char-same z y here) ∙ e) ∙ sym none)
    by more (suc n) e =
        let some : 0 < name_char_len z = omega arith in
        let run = is-run z some in
        let w = width (first z) in
        let others = drop w z in
        let k = run_len others in
        let past : drop (run_len z) z ≡ drop k others = ap (λ m. drop m z) run.more ∙ sym (drop-drop k w z) in
        let name : take (run_len z) z ≡ first_character z ++ take k others = ap (λ m. take m z) run.more ∙ take-add w k z in
        let again = more others (omega (arith, length-drop w z, run.char.within)) (ap first_character (sym past) ∙ same) in
        let text : take (run_len z) z ++ y ≡ first_character z ++ (take k others ++ y) = ap (λ r. r ++ y) name ∙ append_assoc (first_character z) (take k others) y in
        let size : length (first_character z) ≡ w = length-take-le w z run.char.within in
        let front = char-front z (take k others ++ y) some in
        let wide : name_char_len (first_character z ++ (take k others ++ y)) ≡ w = char-same (first_character z ++ (take k others ++ y)) z front ∙ run.char.wide in
        let rest : drop w (first_character z ++ (take k others ++ y)) ≡ take k others ++ y = ap (λ m. drop m (first_character z ++ (take k others ++ y))) (sym size) ∙ drop-append_seam (first_character z) (take k others ++ y) in
        ap run_len text
        ∙ (run_more (first_character z ++ (take k others ++ y)) w wide (omega arith)
        ∙ (ap (λ r. w + run_len r) rest ∙ (ap (λ m. w + m) again ∙ sym run.more)))

pub run-again : (z y : List ℕ) → Same (drop (run_len z) z) y → run_len (take (run_len z) z ++ y) ≡ run_len z
run-again z y same = run-again-by (length z) z y (omega arith) same

-- ---- names that are the same

pub record IsNamed (z y : List ℕ) : Type 0 where
  pub size : run_len y ≡ run_len z
  pub name : take (run_len y) y ≡ take (run_len z) z
  pub past : Same (drop (run_len z) z) (drop (run_len y) y)
  pub character : Same z y

pub same-named : (z y : List ℕ) → 0 < run_len z → SameName z y → IsNamed z y
same-named z y some same =
    let name : take (run_len y) y ≡ take (run_len z) z = ap (λ (p : List ℕ × List ℕ). p.0) (sym same) in
    let size : run_len y ≡ run_len z = sym (length-take-le (run_len y) y (run-within y)) ∙ (ap length name ∙ length-take-le (run_len z) z (run-within z)) in
    record {
      size = size;
      name = name;
      past = ap (λ (p : List ℕ × List ℕ). p.1) same;
      character = by some (is-run z (some-run z some)) (is-run y (some-run y (omega arith)));
    }
  where
    by : 0 < run_len z → IsRun z → IsRun y → Same z y
    by some rz ry =
        let n = run_len z in
        let name : take (run_len y) y ≡ take n z = ap (λ (p : List ℕ × List ℕ). p.0) (sym same) in
        let size : run_len y ≡ n = sym (length-take-le (run_len y) y (run-within y)) ∙ (ap length name ∙ length-take-le n z (run-within z)) in
        let front : take n y ≡ take n z = ap (λ k. take k y) (sym size) ∙ name in
        let one : first z ≡ first y = first-one z y (sym (take-take 1 n z (omega arith)) ∙ (ap (take 1) (sym front) ∙ take-take 1 n y (omega arith))) in
        let w = width (first z) in
        sym (take-take w n z (omega (arith, rz.more))) ∙ (ap (take w) (sym front) ∙ (take-take w n y (omega (arith, rz.more)) ∙ ap (λ b. take (width b) y) one))
