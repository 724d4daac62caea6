-- Words and numbers that are written are read back, whatever follows that goes on with neither.
use Rattle.std.proofs.Common.{◌≡◌, ℕ, zero, suc, ◌+◌, ◌-◌, ◌*◌, ◌/◌, ◌%◌, ◌^◌, ◌<◌, ◌≤◌, Bool, true, false, List, [], ◌∷◌, ◌++◌, length, drop, refl, ap, ap₂, ◌∙◌, append_assoc, arith}
use Rattle.std.specs.Prelude.{◌==◌, ◌&&◌, ◌||◌, nat_le, nat_lt, if◌then◌else◌, Ok, Err, decimal}
use Rattle.std.proofs.lemmas.Bool.Decides.{nat_tests}
use Rattle.std.proofs.lemmas.Fmt.{decimal_digit, decimal_step}
use Rattle.core_text.specs.Heads.{shared}
use Rattle.core_text.specs.Reading.{first, past, begins, wrong, is_digit, with_digit, index_from, read_index, is_left, begins_level, some_left, one_digit, level_from, read_level}
use Rattle.core_text.specs.declared.halt.Halt.TheVariants.{Wrong}

-- ---- words

equal-same : (n : ℕ) → (n == n) ≡ true
equal-same n = grind (arith, nat_tests)

shared-none : (rest : List ℕ) → shared rest [] ≡ 0
shared-none [] = refl
shared-none (b ∷ rest) = refl

shared-word : (word rest : List ℕ) → shared (word ++ rest) word ≡ length word
shared-word [] rest = shared-none rest
shared-word (b ∷ word) rest =
    ap (λ c. if c then 1 + shared (word ++ rest) word else 0) (equal-same b) ∙ (ap (λ k. 1 + k) (shared-word word rest) ∙ more (length word))
  where
    more : (k : ℕ) → 1 + k ≡ suc k
    more k = omega arith

pub drop-word : (word rest : List ℕ) → drop (length word) (word ++ rest) ≡ rest
drop-word [] rest = refl
drop-word (b ∷ word) rest = drop-word word rest

pub begins-word : (word rest : List ℕ) → begins word (word ++ rest) ≡ true
begins-word word rest = ap (λ k. k == length word) (shared-word word rest) ∙ equal-same (length word)

pub past-word : (word rest : List ℕ) → past word (word ++ rest) ≡ Ok rest
past-word word rest =
    ap (λ c. if c then Ok (drop (length word) (word ++ rest)) else Err (Wrong (length (word ++ rest) - shared (word ++ rest) word))) (begins-word word rest)
    ∙ ap (λ r. Ok r) (drop-word word rest)

-- ---- numbers

and-true : (a b : Bool) → a ≡ true → b ≡ true → (a && b) ≡ true
and-true a b e f = ap₂ ◌&&◌ e f

lt-true : (a b : ℕ) → a < b → nat_lt a b ≡ true
lt-true a b lt = grind (arith, nat_tests)

digit-true : (v : ℕ) → v < 10 → is_digit (48 + v) ≡ true
digit-true v small = and-true (nat_le 48 (48 + v)) (nat_le (48 + v) 57) (grind (arith, nat_tests)) (grind (arith, nat_tests))

digit-value : (v : ℕ) → (48 + v) - 48 ≡ v
digit-value v = omega arith

pub index-ends : (n v : ℕ) (rest : List ℕ) → is_digit (first rest) ≡ false → index_from n v rest ≡ (v, rest)
index-ends n v [] other = refl
index-ends n v (b ∷ rest) other =
    ap (λ c. if c && (nat_lt 0 v && nat_lt (with_digit v b) n) then index_from n (with_digit v b) rest else (v, b ∷ rest)) other

-- one digit more
index-digit : (n w d : ℕ) (rest : List ℕ) → 0 < w → d < 10 → 10 * w + d < n → index_from n w ((48 + d) ∷ rest) ≡ index_from n (10 * w + d) rest
index-digit n w d rest some small lt =
    let value : with_digit w (48 + d) ≡ 10 * w + d = omega arith in
    ap (λ c. if c then index_from n (with_digit w (48 + d)) rest else (w, (48 + d) ∷ rest))
    (and-true (is_digit (48 + d)) _ (digit-true d small) (and-true (nat_lt 0 w) _ (lt-true 0 w some) (lt-true (with_digit w (48 + d)) n (omega arith))))
    ∙ ap (λ k. index_from n k rest) value

index-one : (n v : ℕ) (rest : List ℕ) → v < 10 → v < n → read_index n (decimal v ++ rest) ≡ Ok (index_from n v rest)
index-one n v rest small lt =
    ap (λ ds. read_index n (ds ++ rest)) (decimal_digit v small)
    ∙ (ap (λ c. if c then Ok (index_from n ((48 + v) - 48) rest) else wrong ((48 + v) ∷ rest))
    (and-true (is_digit (48 + v)) (nat_lt ((48 + v) - 48) n) (digit-true v small) (lt-true ((48 + v) - 48) n (omega arith)))
    ∙ ap (λ k. Ok (index_from n k rest)) (digit-value v))

-- fuel bounds the number of digits
index-written : (fuel n v : ℕ) (rest : List ℕ) → v < fuel → v < n → v < 2 ^ 64 → read_index n (decimal v ++ rest) ≡ Ok (index_from n v rest)
index-written zero n v rest short lt fits = absurd (omega arith)
index-written (suc fuel) n v rest short lt fits =
    by (λ w more less below small. index-written fuel n w more less below small) (nat_lt v 10) refl
  where
    by : ((w : ℕ) (more : List ℕ) → w < fuel → w < n → w < 2 ^ 64 → read_index n (decimal w ++ more) ≡ Ok (index_from n w more)) → (c : Bool) → nat_lt v 10 ≡ c → read_index n (decimal v ++ rest) ≡ Ok (index_from n v rest)
    by front true e = index-one n v rest (grind (arith, nat_tests)) lt
    by front false e =
        let large : 10 ≤ v = grind (arith, nat_tests) in
        let whole : 10 * (v / 10) + v % 10 ≡ v = omega arith in
        ap (λ ds. read_index n (ds ++ rest)) (decimal_step v large fits)
        ∙ (ap (read_index n) (append_assoc (decimal (v / 10)) ((48 + v % 10) ∷ []) rest)
        ∙ (front (v / 10) ((48 + v % 10) ∷ rest) (omega arith) (omega arith) (omega arith)
        ∙ (ap (λ p. Ok p) (index-digit n (v / 10) (v % 10) rest (omega arith) (omega arith) (omega arith)) ∙ ap (λ k. Ok (index_from n k rest)) whole)))

pub index-back : (n v : ℕ) (rest : List ℕ) → v < n → v < 2 ^ 64 → is_digit (first rest) ≡ false → read_index n (decimal v ++ rest) ≡ Ok (v, rest)
index-back n v rest lt fits other =
    index-written (v + 1) n v rest (omega arith) lt fits ∙ ap (λ p. Ok p) (index-ends n v rest other)

-- ---- levels

level-ends : (levels : List Bool) (d : ℕ) (rest : List ℕ) → is_digit (first rest) ≡ false → level_from levels d rest ≡ one_digit levels d rest
level-ends levels d [] other = refl
level-ends levels d (b ∷ rest) other =
    ap (λ c. if c && (nat_lt 0 d && is_left levels (with_digit d b)) then Ok (with_digit d b, rest) else one_digit levels d (b ∷ rest)) other

-- a level of one digit
level-one : (levels : List Bool) (m : ℕ) (rest : List ℕ) → m < 10 → is_left levels m ≡ true → is_digit (first rest) ≡ false → read_level levels (decimal m ++ rest) ≡ Ok (m, rest)
level-one levels m rest small left other =
    ap (λ ds. read_level levels (ds ++ rest)) (decimal_digit m small)
    ∙ (ap₂ (λ c k. if c && begins_level levels k then level_from levels k rest else wrong ((48 + m) ∷ rest)) (digit-true m small) (digit-value m)
    ∙ (ap (λ c. if c || (nat_lt 0 m && some_left levels (10 * m) 10) then level_from levels m rest else wrong ((48 + m) ∷ rest)) left
    ∙ (level-ends levels m rest other ∙ ap (λ c. if c then Ok (m, rest) else wrong rest) left)))

-- one of ten levels is left
some-of-ten : (levels : List Bool) (n k m : ℕ) → n ≤ m → m < n + k → is_left levels m ≡ true → some_left levels n k ≡ true
some-of-ten levels n zero m low high left = absurd (omega arith)
some-of-ten levels n (suc k) m low high left =
    by (λ above. some-of-ten levels (n + 1) k m above (omega arith) left) (n == m) refl
  where
    or-true : (a b : Bool) → b ≡ true → (a || b) ≡ true
    or-true true b e = refl
    or-true false b e = e

    by : (n + 1 ≤ m → some_left levels (n + 1) k ≡ true) → (c : Bool) → (n == m) ≡ c → some_left levels n (suc k) ≡ true
    by others true e =
        let same : n ≡ m = grind (arith, nat_tests) in
        ap (λ c. c || some_left levels (n + 1) k) (ap (is_left levels) same ∙ left)
    by others false e = or-true (is_left levels n) (some_left levels (n + 1) k) (others (grind (arith, nat_tests)))

level-two : (levels : List Bool) (m : ℕ) (rest : List ℕ) → 10 ≤ m → m < 100 → is_left levels m ≡ true → read_level levels (decimal m ++ rest) ≡ Ok (m, rest)
level-two levels m rest large small left =
    let q = m / 10 in
    let d = m % 10 in
    let value : with_digit q (48 + d) ≡ m = omega arith in
    let some : begins_level levels q ≡ true = or-true (is_left levels q) _ (and-true (nat_lt 0 q) (some_left levels (10 * q) 10) (lt-true 0 q (omega arith)) (some-of-ten levels (10 * q) 10 m (omega arith) (omega arith) left)) in
    ap (λ ds. read_level levels (ds ++ rest)) (decimal_step m large (omega arith) ∙ ap (λ ds. ds ++ (48 + d) ∷ []) (decimal_digit q (omega arith)))
    ∙ (ap₂ (λ c k. if c && begins_level levels k then level_from levels k ((48 + d) ∷ rest) else wrong ((48 + q) ∷ (48 + d) ∷ rest)) (digit-true q (omega arith)) (digit-value q)
    ∙ (ap (λ c. if c then level_from levels q ((48 + d) ∷ rest) else wrong ((48 + q) ∷ (48 + d) ∷ rest)) some
    ∙ (ap (λ c. if c then Ok (with_digit q (48 + d), rest) else one_digit levels q ((48 + d) ∷ rest))
    (and-true (is_digit (48 + d)) _ (digit-true d (omega arith)) (and-true (nat_lt 0 q) _ (lt-true 0 q (omega arith)) (ap (is_left levels) value ∙ left)))
    ∙ ap (λ k. Ok (k, rest)) value)))
  where
    or-true : (a b : Bool) → b ≡ true → (a || b) ≡ true
    or-true true b e = refl
    or-true false b e = e

pub level-back : (levels : List Bool) (m : ℕ) (rest : List ℕ) → m < 100 → is_left levels m ≡ true → is_digit (first rest) ≡ false → read_level levels (decimal m ++ rest) ≡ Ok (m, rest)
level-back levels m rest small left other = by (nat_lt m 10) refl
  where
    by : (c : Bool) → nat_lt m 10 ≡ c → read_level levels (decimal m ++ rest) ≡ Ok (m, rest)
    by true e = level-one levels m rest (grind (arith, nat_tests)) left other
    by false e = level-two levels m rest (grind (arith, nat_tests)) small left
