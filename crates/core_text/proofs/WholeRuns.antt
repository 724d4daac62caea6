-- A name is a whole run before whatever stops a name.
use Rattle.std.proofs.Common.{◌≡◌, ℕ, zero, suc, ◌+◌, ◌/◌, ◌%◌, ◌<◌, ◌≤◌, Bool, true, false, cond, List, [], ◌∷◌, ◌++◌, length, drop, take, refl, sym, ap, ap₂, ◌∙◌, append_assoc, append-nil, arith}
use Rattle.std.specs.Prelude.{◌==◌, ◌&&◌, nat_le, nat_lt, if◌then◌else◌, codes, decimal, bytes_eq}
use Rattle.std.specs.List.{list_all}
use Rattle.std.specs.Str.{is_utf8, chars, all_scalars, encode_utf8_all, continuation_len}
use Rattle.std.proofs.lemmas.Bool.{and_parts, and_from, false≢true}
use Rattle.std.proofs.lemmas.Bool.Decides.{nat_tests}
use Rattle.std.proofs.lemmas.Fmt.{decimal_digit, decimal_step}
use Rattle.std.proofs.lemmas.List.{length-append}
use Rattle.std.proofs.lemmas.List.Folds.{list_all-append}
use Rattle.std.proofs.lemmas.Slice.Eq.{bytes_eq-Decides}
use Rattle.std.proofs.lemmas.Str.{IsUtf8-from_is_utf8, is_utf8-from_IsUtf8, IsUtf8-encode, IsUtf8-append, chars-append, chars-encodes, encodes-chars, scalars-chars, length-encode, len_utf8_bounds}
use Rattle.unicode_ident.proofs.Computing.{unicode_ident}
use lib.Utf8.{scalar, encode, next}
use Rattle.core_text.specs.NameRuns.{is_name_char, width, are_name_chars, name_char_len, run_len}
use Rattle.core_text.specs.ReadBack.{Stops}
use Rattle.core_text.specs.Reading.{first, begins}
use Rattle.core_text.proofs.NumbersBack.{drop-word}
use Rattle.core_text.proofs.RunSteps.{run_more, run_end}
use Rattle.core_text.proofs.TermsBack.{take-word, no-char, some-char, stops-space}
use Rattle.core_text.proofs.WordsRead.{word-is}

-- ---- one character

-- its first byte says how many there are
record IsLed (bytes : List ℕ) : Type 0 where
  lead : ℕ
  others : List ℕ
  is : bytes ≡ lead ∷ others
  wide : width lead ≡ length bytes

led : (c : ℕ) → IsLed (encode c)
unfolding encode
led c = by (nat_lt c 128) refl (nat_lt c 2048) refl (nat_lt c 65536) refl
  where
    by : (x : Bool) → nat_lt c 128 ≡ x → (y : Bool) → nat_lt c 2048 ≡ y → (z : Bool) → nat_lt c 65536 ≡ z → IsLed (cond x (c ∷ []) (cond y ((192 + c / 64) ∷ next c ∷ []) (cond z ((224 + c / 4096) ∷ next (c / 64) ∷ next c ∷ []) ((240 + c / 262144) ∷ next (c / 4096) ∷ next (c / 64) ∷ next c ∷ []))))
    by true e y f z g =
        let w : continuation_len c ≡ 0 = grind (arith, nat_tests) in
        record { lead = c; others = []; is = refl; wide = ap (λ k. 1 + k) w }
    by false e true f z g =
        let low : c < 2048 = grind (arith, nat_tests) in
        let w : continuation_len (192 + c / 64) ≡ 1 = grind (arith, nat_tests) in
        record { lead = 192 + c / 64; others = next c ∷ []; is = refl; wide = ap (λ k. 1 + k) w }
    by false e false f true g =
        let low : c < 65536 = grind (arith, nat_tests) in
        let w : continuation_len (224 + c / 4096) ≡ 2 = grind (arith, nat_tests) in
        record { lead = 224 + c / 4096; others = next (c / 64) ∷ next c ∷ []; is = refl; wide = ap (λ k. 1 + k) w }
    by false e false f false g =
        let w : continuation_len (240 + c / 262144) ≡ 3 = grind (arith, nat_tests) in
        record { lead = 240 + c / 262144; others = next (c / 4096) ∷ next (c / 64) ∷ next c ∷ []; is = refl; wide = ap (λ k. 1 + k) w }

one-char : (c : ℕ) → scalar c ≡ true → is_name_char c ≡ true → are_name_chars (encode c) ≡ true
one-char c s is =
    and_from (is_utf8 (encode c)) (list_all is_name_char (chars (encode c))) (is_utf8-from_IsUtf8 (encode c) (IsUtf8-encode c s))
    (ap (λ bs. list_all is_name_char (chars bs)) (sym (append-nil (encode c)))
    ∙ (ap (list_all is_name_char) (chars-encodes (c ∷ []) (and_from (scalar c) true s refl)) ∙ and_from (is_name_char c) true is refl))

char-len : (c : ℕ) (rest : List ℕ) → scalar c ≡ true → is_name_char c ≡ true → name_char_len (encode c ++ rest) ≡ length (encode c)
char-len c rest s is =
    let l = led c in
    let bytes = l.lead ∷ l.others in
    let long : nat_le (length bytes) (length (bytes ++ rest)) ≡ true = let more = length-append bytes rest in grind (arith, nat_tests) in
    ap (λ b. name_char_len (b ++ rest)) l.is
    ∙ (ap (λ k. if nat_le k (length (bytes ++ rest)) && are_name_chars (take k (bytes ++ rest)) then k else 0) (l.wide ∙ ap length l.is)
    ∙ (ap₂ (λ a b. if a && are_name_chars b then length bytes else 0) long (take-word bytes rest)
    ∙ (ap (λ a. if a then length bytes else 0) (ap are_name_chars (sym l.is) ∙ one-char c s is) ∙ ap length (sym l.is))))

-- ---- all characters

runs : (cs rest : List ℕ) → all_scalars cs ≡ true → list_all is_name_char cs ≡ true → run_len (encode_utf8_all cs ++ rest) ≡ length (encode_utf8_all cs) + run_len rest
runs [] rest s all = omega arith
runs (c ∷ cs) rest s all =
    let code = and_parts (scalar c) (all_scalars cs) s in
    let named = and_parts (is_name_char c) (list_all is_name_char cs) all in
    let more = encode_utf8_all cs ++ rest in
    let some : 0 < length (encode c) = omega (arith, length-encode c, (len_utf8_bounds c).0) in
    ap run_len (append_assoc (encode c) (encode_utf8_all cs) rest)
    ∙ (run_more (encode c ++ more) (length (encode c)) (char-len c more code.0 named.0) some
    ∙ (ap (λ r. length (encode c) + run_len r) (drop-word (encode c) more)
    ∙ (ap (λ k. length (encode c) + k) (runs cs rest code.1 named.1) ∙ omega (arith, length-append (encode c) (encode_utf8_all cs)))))

pub whole-run : (name rest : List ℕ) → are_name_chars name ≡ true → run_len rest ≡ 0 → run_len (name ++ rest) ≡ length name
whole-run name rest e stops =
    let parts = and_parts (is_utf8 name) (list_all is_name_char (chars name)) e in
    let text = IsUtf8-from_is_utf8 name parts.0 in
    let spelled : encode_utf8_all (chars name) ≡ name = encodes-chars name text in
    ap (λ b. run_len (b ++ rest)) (sym spelled)
    ∙ (runs (chars name) rest (scalars-chars name text) parts.1 ∙ omega (arith, stops, ap length spelled))

-- ---- bytes with which no name begins

no-names : (are_name_chars (40 ∷ []) ≡ false) × (are_name_chars (37 ∷ []) ≡ false) × (are_name_chars (92 ∷ []) ≡ false) × (are_name_chars (45 ∷ []) ≡ false) × (are_name_chars (125 ∷ []) ≡ false)
unfolding is_utf8 chars unicode_ident lib.Utf8.encode
no-names = (refl, refl, refl, refl, refl)

no-first : (b : ℕ) → width b ≡ 1 → are_name_chars (b ∷ []) ≡ false → (name rest : List ℕ) → are_name_chars name ≡ true → 0 < length name → (first (name ++ rest) == b) ≡ false
no-first b one none [] rest chars some = absurd (omega arith)
no-first b one none (x ∷ name) rest chars some = by (x == b) refl
  where
    by : (c : Bool) → (x == b) ≡ c → (x == b) ≡ false
    by true e =
        let same : x ≡ b = grind (arith, nat_tests) in
        let run = whole-run (x ∷ name) [] chars refl in
        let no_run : run_len ((x ∷ name) ++ []) ≡ 0 = ap (λ y. run_len ((y ∷ name) ++ [])) same ∙ run_end (b ∷ (name ++ [])) (no-char b (name ++ []) one none) in
        absurd (omega (arith, run, no_run))
    by false e = e

pub no-open : (name rest : List ℕ) → are_name_chars name ≡ true → 0 < length name → (first (name ++ rest) == 40) ≡ false
no-open = no-first 40 refl no-names.0

pub no-percent : (name rest : List ℕ) → are_name_chars name ≡ true → 0 < length name → (first (name ++ rest) == 37) ≡ false
no-percent = no-first 37 refl no-names.1

pub no-backslash : (name rest : List ℕ) → are_name_chars name ≡ true → 0 < length name → (first (name ++ rest) == 92) ≡ false
no-backslash = no-first 92 refl no-names.2

pub no-dash : (name rest : List ℕ) → are_name_chars name ≡ true → 0 < length name → (first (name ++ rest) == 45) ≡ false
no-dash = no-first 45 refl no-names.3

pub no-brace : (name rest : List ℕ) → are_name_chars name ≡ true → 0 < length name → (first (name ++ rest) == 125) ≡ false
no-brace = no-first 125 refl no-names.4

-- ---- the word `let`

pub letters : (are_name_chars (108 ∷ []) ≡ true) × (are_name_chars (101 ∷ []) ≡ true) × (are_name_chars (116 ∷ []) ≡ true)
unfolding is_utf8 chars unicode_ident lib.Utf8.encode
letters = (refl, refl, refl)

pub let-run : (rest : List ℕ) → run_len (108 ∷ 101 ∷ 116 ∷ 32 ∷ rest) ≡ 3
let-run rest =
    run_more (108 ∷ 101 ∷ 116 ∷ 32 ∷ rest) 1 (some-char 108 (101 ∷ 116 ∷ 32 ∷ rest) refl letters.0) (omega arith)
    ∙ (ap (λ k. 1 + k) (run_more (101 ∷ 116 ∷ 32 ∷ rest) 1 (some-char 101 (116 ∷ 32 ∷ rest) refl letters.1) (omega arith))
    ∙ (ap (λ k. 1 + (1 + k)) (run_more (116 ∷ 32 ∷ rest) 1 (some-char 116 (32 ∷ rest) refl letters.2) (omega arith))
    ∙ ap (λ k. 1 + (1 + (1 + k))) (stops-space rest).run))

pub no-let : (name rest : List ℕ) → are_name_chars name ≡ true → bytes_eq name (codes "let") ≡ false → Stops rest → begins (codes "let ") (name ++ rest) ≡ false
no-let name rest chars other stops = by (begins (codes "let ") (name ++ rest)) refl
  where
    by : (c : Bool) → begins (codes "let ") (name ++ rest) ≡ c → begins (codes "let ") (name ++ rest) ≡ false
    by true e =
        let more = drop 4 (name ++ rest) in
        let text : name ++ rest ≡ codes "let " ++ more = word-is (codes "let ") (name ++ rest) e in
        let three : length name ≡ 3 = sym (whole-run name rest chars stops.run) ∙ (ap run_len text ∙ let-run more) in
        let word : name ≡ codes "let" = sym (take-word name rest) ∙ (ap (λ k. take k (name ++ rest)) three ∙ ap (take 3) text) in
        absurd (false≢true (sym other ∙ (bytes_eq-Decides name (codes "let")).1 word))
    by false e = e

-- ---- names that are put together

pub chars-join : (xs ys : List ℕ) → are_name_chars xs ≡ true → are_name_chars ys ≡ true → are_name_chars (xs ++ ys) ≡ true
chars-join xs ys e f =
    let first = and_parts (is_utf8 xs) (list_all is_name_char (chars xs)) e in
    let second = and_parts (is_utf8 ys) (list_all is_name_char (chars ys)) f in
    let one = IsUtf8-from_is_utf8 xs first.0 in
    and_from (is_utf8 (xs ++ ys)) (list_all is_name_char (chars (xs ++ ys))) (is_utf8-from_IsUtf8 (xs ++ ys) (IsUtf8-append xs ys one (IsUtf8-from_is_utf8 ys second.0)))
    (ap (list_all is_name_char) (chars-append xs ys one)
    ∙ (list_all-append is_name_char (chars xs) (chars ys) ∙ and_from (list_all is_name_char (chars xs)) (list_all is_name_char (chars ys)) first.1 second.1))

pub fixed-words : (are_name_chars (codes "!elim.") ≡ true) × (are_name_chars (codes "!k.") ≡ true) × (are_name_chars (codes "Eq.") ≡ true)
unfolding is_utf8 chars unicode_ident lib.Utf8.encode
fixed-words = (refl, refl, refl)

digit-char : (d : ℕ) → d < 10 → are_name_chars ((48 + d) ∷ []) ≡ true
unfolding is_utf8 chars unicode_ident lib.Utf8.encode
digit-char zero lt = refl
digit-char (suc zero) lt = refl
digit-char (suc (suc zero)) lt = refl
digit-char (suc (suc (suc zero))) lt = refl
digit-char (suc (suc (suc (suc zero)))) lt = refl
digit-char (suc (suc (suc (suc (suc zero))))) lt = refl
digit-char (suc (suc (suc (suc (suc (suc zero)))))) lt = refl
digit-char (suc (suc (suc (suc (suc (suc (suc zero))))))) lt = refl
digit-char (suc (suc (suc (suc (suc (suc (suc (suc zero)))))))) lt = refl
digit-char (suc (suc (suc (suc (suc (suc (suc (suc (suc zero))))))))) lt = refl
digit-char (suc (suc (suc (suc (suc (suc (suc (suc (suc (suc d)))))))))) lt = absurd (omega arith)

pub number-chars : (m : ℕ) → m < 100 → are_name_chars (decimal m) ≡ true
number-chars m small = by (nat_lt m 10) refl
  where
    by : (c : Bool) → nat_lt m 10 ≡ c → are_name_chars (decimal m) ≡ true
    by true e =
        let one : m < 10 = grind (arith, nat_tests) in ap are_name_chars (decimal_digit m one) ∙ digit-char m one
    by false e =
        let two : 10 ≤ m = grind (arith, nat_tests) in
        let front : m / 10 < 10 = omega arith in
        let last : m % 10 < 10 = omega arith in
        ap are_name_chars (decimal_step m two (omega arith) ∙ ap (λ ds. ds ++ (48 + m % 10) ∷ []) (decimal_digit (m / 10) front))
        ∙ chars-join ((48 + m / 10) ∷ []) ((48 + m % 10) ∷ []) (digit-char (m / 10) front) (digit-char (m % 10) last)
