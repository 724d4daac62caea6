-- A number that is read is one that may be there. Where a byte is wrong, the bytes before it begin the text of such a number.
use Rattle.std.proofs.Common.{◌≡◌, ℕ, ◌-◌, ◌^◌, ◌<◌, ◌≤◌, Bool, true, false, List, [], ◌∷◌, ◌++◌, refl}
use Rattle.std.specs.Prelude.{◌&&◌, nat_lt, if◌then◌else◌, Ok, Err, decimal}
use Rattle.std.proofs.lemmas.Bool.{and_parts}
use Rattle.core_text.specs.Reading.{Reading, wrong, is_digit, with_digit, index_from, read_index}
use Rattle.core_text.proofs.Completions.{Meets, IsFront, meets-if, meets-wrong, meets-ensures}
use Rattle.core_text.proofs.Outcomes.{Ensures, ensures-if, lt-is}
use Rattle.core_text.proofs.WordsRead.{index-read}

-- nothing is said of what is read
abbrev Any : ℕ → List ℕ → Type 0
Any v r = Unit {0}

both : {A : Type 0} (P Q : A → List ℕ → Type 0) (m : Reading A) → Ensures P m → Ensures Q m → Ensures (λ a r. P a r × Q a r) m
both P Q (Ok p) h k = (h, k)
both P Q (Err e) h k = tt

-- a number below n is read, whose text is at the front
abbrev pub ReadsIndex : ℕ → List ℕ → ℕ → List ℕ → Type 0
ReadsIndex n rest v r = (rest ≡ decimal v ++ r) × (v < n)

-- the text of a number below n
abbrev pub IsIndexText : ℕ → List ℕ → Type 0
IsIndexText n text = (v : ℕ) × (text ≡ decimal v) × (v < n)

index-below : (n v : ℕ) (rest : List ℕ) → v < n → (index_from n v rest).0 < n
index-below n v [] lt = lt
index-below n v (b ∷ rest) lt = by (λ less. index-below n (with_digit v b) rest less) (is_digit b && (nat_lt 0 v && nat_lt (with_digit v b) n)) refl
  where
    by : (with_digit v b < n → (index_from n (with_digit v b) rest).0 < n) → (c : Bool) → (is_digit b && (nat_lt 0 v && nat_lt (with_digit v b) n)) ≡ c → (if c then index_from n (with_digit v b) rest else (v, b ∷ rest)).0 < n
    by longer true e =
        let parts = and_parts (is_digit b) (nat_lt 0 v && nat_lt (with_digit v b) n) e in
        longer (lt-is (with_digit v b) n (and_parts (nat_lt 0 v) (nat_lt (with_digit v b) n) parts.1).1)
    by longer false e = lt

index-small : (n : ℕ) (rest : List ℕ) → Ensures (λ v r. v < n) (read_index n rest)
index-small n [] = tt
index-small n (b ∷ rest) =
    ensures-if (λ v r. v < n) (is_digit b && nat_lt (b - 48) n) (Ok (index_from n (b - 48) rest)) (wrong (b ∷ rest))
    (λ e. index-below n (b - 48) rest (lt-is (b - 48) n (and_parts (is_digit b) (nat_lt (b - 48) n) e).1)) (λ e. tt)

zero-text : (n : ℕ) → 0 < n → IsFront (IsIndexText n) []
zero-text n some = (decimal 0, (0, refl, some))

index-place : (n : ℕ) (rest : List ℕ) → 0 < n → Meets Any (IsIndexText n) rest (read_index n rest)
index-place n [] some = meets-wrong Any (IsIndexText n) [] [] [] refl (zero-text n some)
index-place n (b ∷ rest) some =
    meets-if Any (IsIndexText n) (b ∷ rest) (is_digit b && nat_lt (b - 48) n) (Ok (index_from n (b - 48) rest)) (wrong (b ∷ rest))
    (λ e. tt) (λ e. meets-wrong Any (IsIndexText n) [] (b ∷ rest) (b ∷ rest) refl (zero-text n some))

pub index-meets : (n : ℕ) (rest : List ℕ) → 0 < n → n ≤ 2 ^ 64 → Meets (ReadsIndex n rest) (IsIndexText n) rest (read_index n rest)
index-meets n rest some le =
    meets-ensures Any (ReadsIndex n rest) (IsIndexText n) rest (read_index n rest)
    (both (λ v r. rest ≡ decimal v ++ r) (λ v r. v < n) (read_index n rest) (index-read n rest le) (index-small n rest)) (index-place n rest some)
