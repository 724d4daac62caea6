-- The bytes that are read as a word or a number spell it.
use Rattle.std.proofs.Common.{◌≡◌, ℕ, ◌+◌, ◌-◌, ◌/◌, ◌%◌, ◌^◌, ◌<◌, ◌≤◌, Bool, true, false, List, [], ◌∷◌, ◌++◌, length, drop, refl, sym, ap, ap₂, ◌∙◌, append_assoc, arith}
use Rattle.std.specs.Prelude.{◌==◌, ◌&&◌, nat_le, nat_lt, if◌then◌else◌, Ok, Err, decimal}
use Rattle.std.proofs.lemmas.Bool.{and_parts}
use Rattle.std.proofs.lemmas.Bool.Decides.{nat_tests}
use Rattle.std.proofs.lemmas.Fmt.{decimal_digit, decimal_step}
use Rattle.core_text.specs.Heads.{shared}
use Rattle.core_text.specs.Reading.{Reading, first, begins, after, past, wrong, is_digit, with_digit, index_from, read_index, is_left, begins_level, one_digit, level_from, read_level}
use Rattle.core_text.specs.declared.halt.Halt.TheVariants.{Wrong}
use Rattle.core_text.proofs.Outcomes.{Ensures, ensures-if, lt-is, le-is}

-- ---- words

shared-all : (word rest : List ℕ) → (shared rest word == length word) ≡ true → rest ≡ word ++ drop (length word) rest
shared-all [] rest e = refl
shared-all (b ∷ word) [] e = let none : 0 ≡ length (b ∷ word) = grind (arith, nat_tests) in absurd (omega arith)
shared-all (b ∷ word) (x ∷ rest) e = by (shared-all word rest) (x == b) refl e
  where
    by : ((shared rest word == length word) ≡ true → rest ≡ word ++ drop (length word) rest) → (c : Bool) → (x == b) ≡ c → ((if c then 1 + shared rest word else 0) == length (b ∷ word)) ≡ true → x ∷ rest ≡ b ∷ (word ++ drop (length word) rest)
    by others true same is =
        let here : x ≡ b = grind (arith, nat_tests) in
        let all : (shared rest word == length word) ≡ true = grind (arith, nat_tests) in
        ap₂ ◌∷◌ here (others all)
    by others false same is = let none : 0 ≡ length (b ∷ word) = grind (arith, nat_tests) in absurd (omega arith)

pub word-is : (word rest : List ℕ) → begins word rest ≡ true → rest ≡ word ++ drop (length word) rest
word-is word rest e = shared-all word rest e

-- after a word the text is the word and what follows
pub ensures-word : {B : Type 0} (Q : B → List ℕ → Type 0) (word rest : List ℕ) (next : List ℕ → Reading B) → ((r : List ℕ) → rest ≡ word ++ r → Ensures Q (next r)) → Ensures Q (after (past word rest) next)
ensures-word Q word rest next k = by (shared rest word == length word) refl
  where
    by : (b : Bool) → (shared rest word == length word) ≡ b → Ensures Q (after (if b then Ok (drop (length word) rest) else Err (Wrong (length rest - shared rest word))) next)
    by true e = k (drop (length word) rest) (shared-all word rest e)
    by false e = tt

pub first-is : (b : ℕ) (rest : List ℕ) → 0 < b → (first rest == b) ≡ true → rest ≡ b ∷ drop 1 rest
first-is b [] some e = let none : 0 ≡ b = grind (arith, nat_tests) in absurd (omega arith)
first-is b (x ∷ rest) some e = let here : x ≡ b = grind (arith, nat_tests) in ap (λ k. k ∷ rest) here

-- ---- numbers

pub digit-bounds : (b : ℕ) → is_digit b ≡ true → (48 ≤ b) × (b ≤ 57)
digit-bounds b e = let parts = and_parts (nat_le 48 b) (nat_le b 57) e in (le-is 48 b parts.0, le-is b 57 parts.1)

pub decimal-one : (b : ℕ) (rest : List ℕ) → is_digit b ≡ true → b ∷ rest ≡ decimal (b - 48) ++ rest
decimal-one b rest digit =
    let bounds = digit-bounds b digit in
    let value : b ≡ 48 + (b - 48) = omega (arith, bounds.0) in
    ap (λ k. k ∷ rest) value ∙ ap (λ ds. ds ++ rest) (sym (decimal_digit (b - 48) (omega (arith, bounds.1))))

-- one digit more
pub decimal-more : (v b : ℕ) (rest : List ℕ) → is_digit b ≡ true → 0 < v → with_digit v b < 2 ^ 64 → decimal v ++ b ∷ rest ≡ decimal (with_digit v b) ++ rest
decimal-more v b rest digit some fits =
    let bounds = digit-bounds b digit in
    let front : with_digit v b / 10 ≡ v = omega (arith, bounds.0, bounds.1) in
    let last : 48 + with_digit v b % 10 ≡ b = omega (arith, bounds.0, bounds.1) in
    sym (append_assoc (decimal v) (b ∷ []) rest)
    ∙ ap (λ ds. ds ++ rest) (sym (decimal_step (with_digit v b) (omega arith) fits ∙ ap₂ (λ w d. decimal w ++ d ∷ []) front last))

index-spelled : (n v : ℕ) (rest : List ℕ) → n ≤ 2 ^ 64 → decimal v ++ rest ≡ decimal (index_from n v rest).0 ++ (index_from n v rest).1
index-spelled n v [] le = refl
index-spelled n v (b ∷ rest) le =
    by (index-spelled n (with_digit v b) rest le) (is_digit b && (nat_lt 0 v && nat_lt (with_digit v b) n)) refl
  where
    by : decimal (with_digit v b) ++ rest ≡ decimal (index_from n (with_digit v b) rest).0 ++ (index_from n (with_digit v b) rest).1 → (c : Bool) → (is_digit b && (nat_lt 0 v && nat_lt (with_digit v b) n)) ≡ c → decimal v ++ b ∷ rest ≡ decimal (if c then index_from n (with_digit v b) rest else (v, b ∷ rest)).0 ++ (if c then index_from n (with_digit v b) rest else (v, b ∷ rest)).1
    by longer true e =
        let parts = and_parts (is_digit b) (nat_lt 0 v && nat_lt (with_digit v b) n) e in
        let bounds = and_parts (nat_lt 0 v) (nat_lt (with_digit v b) n) parts.1 in
        let less = lt-is (with_digit v b) n bounds.1 in
        decimal-more v b rest parts.0 (lt-is 0 v bounds.0) (omega (arith, less, le)) ∙ longer
    by longer false e = refl

pub index-read : (n : ℕ) (rest : List ℕ) → n ≤ 2 ^ 64 → Ensures (λ v r. rest ≡ decimal v ++ r) (read_index n rest)
index-read n [] le = tt
index-read n (b ∷ rest) le =
    ensures-if (λ v r. b ∷ rest ≡ decimal v ++ r) (is_digit b && nat_lt (b - 48) n) (Ok (index_from n (b - 48) rest)) (wrong (b ∷ rest))
    (λ e. decimal-one b rest (and_parts (is_digit b) (nat_lt (b - 48) n) e).0 ∙ index-spelled n (b - 48) rest le) (λ e. tt)

-- ---- levels

one-level : (levels : List Bool) (b : ℕ) (rest : List ℕ) → is_digit b ≡ true → Ensures (λ v r. b ∷ rest ≡ decimal v ++ r) (one_digit levels (b - 48) rest)
one-level levels b rest digit =
    ensures-if (λ v r. b ∷ rest ≡ decimal v ++ r) (is_left levels (b - 48)) (Ok (b - 48, rest)) (wrong rest) (λ e. decimal-one b rest digit) (λ e. tt)

two-levels : (levels : List Bool) (b : ℕ) (rest : List ℕ) → is_digit b ≡ true → Ensures (λ v r. b ∷ rest ≡ decimal v ++ r) (level_from levels (b - 48) rest)
two-levels levels b [] digit = one-level levels b [] digit
two-levels levels b (c ∷ rest) digit =
    ensures-if (λ v r. b ∷ c ∷ rest ≡ decimal v ++ r) (is_digit c && (nat_lt 0 (b - 48) && is_left levels (with_digit (b - 48) c))) (Ok (with_digit (b - 48) c, rest)) (one_digit levels (b - 48) (c ∷ rest))
    (λ e. both (and_parts (is_digit c) (nat_lt 0 (b - 48) && is_left levels (with_digit (b - 48) c)) e)) (λ e. one-level levels b (c ∷ rest) digit)
  where
    both : (is_digit c ≡ true) × ((nat_lt 0 (b - 48) && is_left levels (with_digit (b - 48) c)) ≡ true) → b ∷ c ∷ rest ≡ decimal (with_digit (b - 48) c) ++ rest
    both parts =
        let some = lt-is 0 (b - 48) (and_parts (nat_lt 0 (b - 48)) (is_left levels (with_digit (b - 48) c)) parts.1).0 in
        let one = digit-bounds b digit in
        let two = digit-bounds c parts.0 in
        decimal-one b (c ∷ rest) digit ∙ decimal-more (b - 48) c rest parts.0 some (omega (arith, one.1, two.1))

pub level-read : (levels : List Bool) (rest : List ℕ) → Ensures (λ v r. rest ≡ decimal v ++ r) (read_level levels rest)
level-read levels [] = tt
level-read levels (b ∷ rest) =
    ensures-if (λ v r. b ∷ rest ≡ decimal v ++ r) (is_digit b && begins_level levels (b - 48)) (level_from levels (b - 48) rest) (wrong (b ∷ rest))
    (λ e. two-levels levels b rest (and_parts (is_digit b) (begins_level levels (b - 48)) e).0) (λ e. tt)
