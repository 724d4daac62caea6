-- Reading from the front of bytes: what is there and the bytes after it, or where reading stops.
use Rattle.std.specs.Prelude.{◌≡◌, ℕ, zero, suc, ◌+◌, ◌-◌, ◌*◌, ◌==◌, nat_le, nat_lt, Bool, false, ◌&&◌, ◌||◌, if◌then◌else◌, List, [], ◌∷◌, length, drop, Result, Ok, Err, slice_get, slice_index, unwrap_or}
use Rattle.std.specs.Borrow.{Bor}
use Rattle.core_terms.specs.Answers.{GivesUnless}
use Rattle.core_terms.specs.Answers as answers
use Rattle.core_text.specs.Heads.{shared}
use Rattle.core_text.specs.declared.halt.Halt.{Halt}
use Rattle.core_text.specs.declared.halt.Halt.TheVariants.{Memory, Wrong}

-- a value that is read and the bytes after it, or where reading stops
abbrev pub Reading : Type 0 → Type 0
Reading A = Result (A × List ℕ) Halt

-- nothing that is meant goes on with the first of these bytes
abbrev pub wrong : {A : Type 0} → List ℕ → Result A Halt
wrong rest = Err (Wrong (length rest))

-- goes on after what was read
abbrev pub and_then : {A B : Type 0} → Reading A → (A → List ℕ → Reading B) → Reading B
and_then first next = answers.and_then first (λ p. next p.0 p.1)

-- the bytes after a word, or the first byte with which the word does not go on
abbrev pub past : List ℕ → List ℕ → Result (List ℕ) Halt
past word rest =
    if shared rest word == length word then Ok (drop (length word) rest) else Err (Wrong (length rest - shared rest word))

-- goes on after a word
abbrev pub after : {B : Type 0} → Result (List ℕ) Halt → (List ℕ → Reading B) → Reading B
after word next = answers.and_then word next

-- the first byte, or 0
abbrev pub first : List ℕ → ℕ
first rest = slice_index rest 0

-- whether the bytes begin with the word
abbrev pub begins : List ℕ → List ℕ → Bool
begins word rest = shared rest word == length word

abbrev pub is_digit : ℕ → Bool
is_digit b = nat_le 48 b && nat_le b 57

-- v with one digit more
abbrev pub with_digit : ℕ → ℕ → ℕ
with_digit v b = 10 * v + (b - 48)

-- the digits that go on with v in a number below n
abbrev pub index_from : ℕ → ℕ → List ℕ → ℕ × List ℕ
index_from n v [] = (v, [])
index_from n v (b ∷ rest) =
    if is_digit b && (nat_lt 0 v && nat_lt (with_digit v b) n) then index_from n (with_digit v b) rest else (v, b ∷ rest)

-- a number below n, in decimal
abbrev pub read_index : ℕ → List ℕ → Reading ℕ
read_index n [] = wrong []
read_index n (b ∷ rest) = if is_digit b && nat_lt (b - 48) n then Ok (index_from n (b - 48) rest) else wrong (b ∷ rest)

-- Levels come with a list that says of each of them whether it may be there.
abbrev pub is_left : List Bool → ℕ → Bool
is_left levels n = unwrap_or (slice_get levels n) false

-- one of the k levels from n on is left
abbrev pub some_left : List Bool → ℕ → ℕ → Bool
some_left levels n zero = false
some_left levels n (suc k) = is_left levels n || some_left levels (n + 1) k

-- some level begins with the digit d
abbrev pub begins_level : List Bool → ℕ → Bool
begins_level levels d = is_left levels d || (nat_lt 0 d && some_left levels (10 * d) 10)

-- the level d, which is not followed by one more digit of a level
abbrev pub one_digit : List Bool → ℕ → List ℕ → Reading ℕ
one_digit levels d rest = if is_left levels d then Ok (d, rest) else wrong rest

-- the level that begins with the digit d
abbrev pub level_from : List Bool → ℕ → List ℕ → Reading ℕ
level_from levels d [] = one_digit levels d []
level_from levels d (b ∷ rest) =
    if is_digit b && (nat_lt 0 d && is_left levels (with_digit d b)) then Ok (with_digit d b, rest) else one_digit levels d (b ∷ rest)

-- one of the levels that may be there, in decimal
abbrev pub read_level : List Bool → List ℕ → Reading ℕ
read_level levels [] = wrong []
read_level levels (b ∷ rest) =
    if is_digit b && begins_level levels (b - 48) then level_from levels (b - 48) rest else wrong (b ∷ rest)

-- the places at which nothing rules out that reading stops: only out of memory
abbrev pub IsUnforeseen : Halt → Type 0
IsUnforeseen e = e ≡ Memory

-- the answer of the code stands for what is read, by way of f, unless memory ran out
abbrev pub Reads : {A B : Type 0} → (A → B) → Result (A × Bor (List ℕ)) Halt → Reading B → Type 0
Reads f result meant = GivesUnless IsUnforeseen (λ p. (f p.0, p.1.now)) result meant

-- the code's answer after a word is the meant one
abbrev pub Past : Result (Bor (List ℕ)) Halt → Result (List ℕ) Halt → Type 0
Past (Ok rest) meant = Ok rest.now ≡ meant
Past (Err e) meant = Err e ≡ meant
