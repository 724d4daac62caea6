-- Properties of terms that are read: they may be there, they are low, and no byte is read twice.
use Rattle.std.proofs.Common.{◌≡◌, ℕ, zero, suc, ◌+◌, ◌-◌, ◌<◌, ◌≤◌, Bool, true, false, List, [], ◌∷◌, length, drop, take, refl, arith}
use Rattle.std.specs.Prelude.{◌==◌, ◌&&◌, nat_le, nat_lt, if◌then◌else◌, Ok, Err, Option, Some, None, codes, bytes_eq}
use Rattle.std.proofs.lemmas.Bool.{false≢true}
use Rattle.std.proofs.lemmas.List.{length-drop}
use Rattle.theory.specs.Terms.{Term, Var, Sort, Pi, Lam, App, Let, height, top}
use Rattle.theory.specs.Signatures.{Signature}
use Rattle.core_text.specs.NameRuns.{run_len}
use Rattle.core_text.specs.Reading.{Reading, wrong, first, and_then, begins, is_digit, with_digit, index_from, read_index, read_level, level_from, one_digit, begins_level, is_left}
use Rattle.core_text.specs.TermReading.{most, limited, closed_by, as_term, known, variable_at, sort_at, named, is_application, read_term, term_after, function_at, let_at, product_from, argument_of, after_argument, arguments_from, spine_from, after_first, enclosed_at}
use Rattle.core_text.specs.declared.halt.Halt.TheVariants.{Nested}
use Rattle.core_text.proofs.Outcomes.{Ensures, ensures-then, ensures-if, ensures-after, lt-is, le-is}
use Rattle.core_text.proofs.Over.{IsTermOver, over-more, over-pi, over-lam, over-app, over-let}
use Rattle.core_text.proofs.SymbolsOver.{IsSymbol}

pub record Fits (S : Signature) (own : Bool) (n bound : ℕ) (t : Term) (r : List ℕ) : Type 0 where
  pub over : IsTermOver S own n t
  pub low : height t ≤ 2000
  pub within : length r ≤ bound

pub drop-within : (k n : ℕ) (rest : List ℕ) → length rest ≤ n → length (drop k rest) ≤ n
drop-within k n rest le = omega (arith, length-drop k rest)

-- ---- numbers

abbrev Below : ℕ → ℕ → ℕ → List ℕ → Type 0
Below n bound v r = (v < n) × (length r ≤ bound)

both : (a b : Bool) → (a && b) ≡ true → (a ≡ true) × (b ≡ true)
both true b e = (refl, e)
both false b e = absurd (false≢true e)

index-within : (n bound v : ℕ) (rest : List ℕ) → v < n → length rest ≤ bound → Below n bound (index_from n v rest).0 (index_from n v rest).1
index-within n bound v [] lt le = (lt, le)
index-within n bound v (b ∷ rest) lt le =
    by (λ less. index-within n bound (with_digit v b) rest less (omega arith)) (is_digit b && (nat_lt 0 v && nat_lt (with_digit v b) n)) refl
  where
    by : (with_digit v b < n → Below n bound (index_from n (with_digit v b) rest).0 (index_from n (with_digit v b) rest).1) → (c : Bool) → (is_digit b && (nat_lt 0 v && nat_lt (with_digit v b) n)) ≡ c → Below n bound (if c then index_from n (with_digit v b) rest else (v, b ∷ rest)).0 (if c then index_from n (with_digit v b) rest else (v, b ∷ rest)).1
    by longer true e = longer (lt-is (with_digit v b) n (both (nat_lt 0 v) _ (both (is_digit b) _ e).1).1)
    by longer false e = (lt, le)

read_index-within : (n bound : ℕ) (rest : List ℕ) → length rest ≤ bound → Ensures (Below n bound) (read_index n rest)
read_index-within n bound [] le = tt
read_index-within n bound (b ∷ rest) le =
    ensures-if (Below n bound) (is_digit b && nat_lt (b - 48) n) (Ok (index_from n (b - 48) rest)) (wrong (b ∷ rest))
    (λ e. index-within n bound (b - 48) rest (lt-is (b - 48) n (both (is_digit b) _ e).1) (omega arith)) (λ e. tt)

-- ---- levels

abbrev pub IsLevel : List Bool → ℕ → ℕ → List ℕ → Type 0
IsLevel levels bound v r = (is_left levels v ≡ true) × (length r ≤ bound)

one_digit-within : (levels : List Bool) (bound d : ℕ) (rest : List ℕ) → length rest ≤ bound → Ensures (IsLevel levels bound) (one_digit levels d rest)
one_digit-within levels bound d rest le =
    ensures-if (IsLevel levels bound) (is_left levels d) (Ok (d, rest)) (wrong rest) (λ e. (e, le)) (λ e. tt)

level_from-within : (levels : List Bool) (bound d : ℕ) (rest : List ℕ) → length rest ≤ bound → Ensures (IsLevel levels bound) (level_from levels d rest)
level_from-within levels bound d [] le = one_digit-within levels bound d [] le
level_from-within levels bound d (b ∷ rest) le =
    ensures-if (IsLevel levels bound) (is_digit b && (nat_lt 0 d && is_left levels (with_digit d b))) (Ok (with_digit d b, rest)) (one_digit levels d (b ∷ rest))
    (λ e. ((both (nat_lt 0 d) _ (both (is_digit b) _ e).1).1, omega arith)) (λ e. one_digit-within levels bound d (b ∷ rest) le)

pub read_level-within : (levels : List Bool) (bound : ℕ) (rest : List ℕ) → length rest ≤ bound → Ensures (IsLevel levels bound) (read_level levels rest)
read_level-within levels bound [] le = tt
read_level-within levels bound (b ∷ rest) le =
    ensures-if (IsLevel levels bound) (is_digit b && begins_level levels (b - 48)) (level_from levels (b - 48) rest) (wrong (b ∷ rest))
    (λ e. level_from-within levels bound (b - 48) rest (omega arith)) (λ e. tt)

-- ---- terms

as_term-fits : (S : Signature) (own : Bool) (n bound : ℕ) (form : ℕ → Term) (P : ℕ → List ℕ → Type 0) (m : Reading ℕ) → ((v : ℕ) (r : List ℕ) → P v r → Fits S own n bound (form v) r) → Ensures P m → Ensures (Fits S own n bound) (as_term form m)
as_term-fits S own n bound form P (Ok p) k h = k p.0 p.1 h
as_term-fits S own n bound form P (Err e) k h = tt

variable-fits : (S : Signature) (own : Bool) (n bound : ℕ) (rest : List ℕ) → length rest ≤ bound → Ensures (Fits S own n bound) (variable_at n rest)
variable-fits S own zero bound rest le = tt
variable-fits S own (suc n) bound rest le =
    as_term-fits S own (suc n) bound Var (Below (suc n) bound) (read_index (suc n) (drop 1 rest))
    (λ v r h. record { over = record { symbols = tt; free = omega (arith, h.0) }; low = omega arith; within = h.1 }) (read_index-within (suc n) bound (drop 1 rest) (drop-within 1 bound rest le))

sort-fits : (S : Signature) (own : Bool) (n bound : ℕ) (rest : List ℕ) → length rest ≤ bound → Ensures (Fits S own n bound) (sort_at rest)
sort-fits S own n bound rest le =
    ensures-after (Fits S own n bound) bound (codes " ") rest (λ r. as_term Sort (read_index (top + 1) r)) le
    (λ r within. as_term-fits S own n bound Sort (Below (top + 1) bound) (read_index (top + 1) r)
    (λ v e h. record { over = record { symbols = omega (arith, h.0); free = omega arith }; low = omega arith; within = h.1 }) (read_index-within (top + 1) bound r within))

-- names are looked up as symbols over the signature
abbrev pub AreSymbols : Signature → Bool → (List ℕ → Option Term) → Type 0
AreSymbols S own look = (name : List ℕ) (t : Term) → look name ≡ Some t → IsSymbol S own t

known-fits : (S : Signature) (own : Bool) (n bound : ℕ) (o : Option Term) (start rest : List ℕ) → ((t : Term) → o ≡ Some t → IsSymbol S own t) → length rest ≤ bound → Ensures (Fits S own n bound) (known o start rest)
known-fits S own n bound (Some t) start rest is le =
    let symbol = is t refl in
    record { over = over-more S own n t symbol.over; low = omega (arith, symbol.leaf); within = le }
known-fits S own n bound None start rest is le = tt

named-fits : (S : Signature) (own : Bool) (look : List ℕ → Option Term) → AreSymbols S own look → (n bound k : ℕ) (rest : List ℕ) → length rest ≤ bound → Ensures (Fits S own n bound) (named look k rest)
named-fits S own look are n bound k rest le =
    ensures-if (Fits S own n bound) (bytes_eq (take k rest) (codes "Type")) (sort_at (drop k rest)) (known (look (take k rest)) rest (drop k rest))
    (λ e. sort-fits S own n bound (drop k rest) (drop-within k bound rest le))
    (λ e. known-fits S own n bound (look (take k rest)) rest (drop k rest) (are (take k rest)) (drop-within k bound rest le))

limited-fits : (S : Signature) (own : Bool) (n bound : ℕ) (t : Term) (rest : List ℕ) → IsTermOver S own n t → length rest ≤ bound → Ensures (Fits S own n bound) (limited t rest)
limited-fits S own n bound t rest over le =
    ensures-if (Fits S own n bound) (nat_le (height t) most) (Ok (t, rest)) (Err (Nested (length rest)))
    (λ e. record { over = over; low = le-is (height t) 2000 e; within = le }) (λ e. tt)

closed-fits : (S : Signature) (own : Bool) (n bound : ℕ) (t : Term) (rest : List ℕ) → IsTermOver S own n t → length rest ≤ bound → Ensures (Fits S own n bound) (closed_by t rest)
closed-fits S own n bound t rest over le =
    ensures-after (Fits S own n bound) bound (codes ")") rest (limited t) le (λ r within. limited-fits S own n bound t r over within)

-- terms inside are read so
abbrev Inside : Signature → Bool → ℕ → (ℕ → List ℕ → Reading Term) → Type 0
Inside S own bound inner = (n : ℕ) (rest : List ℕ) → length rest ≤ bound → Ensures (Fits S own n bound) (inner n rest)

module _ (S : Signature) (own : Bool) (bound : ℕ) (inner : ℕ → List ℕ → Reading Term) (inside : Inside S own bound inner) where
  after-fits : (word : List ℕ) (n : ℕ) (rest : List ℕ) → length rest ≤ bound → Ensures (Fits S own n bound) (term_after inner word n rest)
  after-fits word n rest le = ensures-after (Fits S own n bound) bound word rest (inner n) le (λ r within. inside n r within)

  function-fits : (n : ℕ) (rest : List ℕ) → length rest ≤ bound → Ensures (Fits S own n bound) (function_at inner n rest)
  function-fits n rest le =
      ensures-then (Fits S own n bound) (Fits S own n bound) (inner n rest) (λ a r. and_then (term_after inner (codes " . ") (n + 1) r) (λ b end. closed_by (Lam a b) end)) (inside n rest le)
      (λ a r fa. ensures-then (Fits S own (n + 1) bound) (Fits S own n bound) (term_after inner (codes " . ") (n + 1) r) (λ b end. closed_by (Lam a b) end) (after-fits (codes " . ") (n + 1) r fa.within)
      (λ b end fb. closed-fits S own n bound (Lam a b) end (over-lam S own n a b fa.over fb.over) fb.within))

  product-fits : (n : ℕ) (a : Term) (rest : List ℕ) → IsTermOver S own n a → length rest ≤ bound → Ensures (Fits S own n bound) (product_from inner a n rest)
  product-fits n a rest over le =
      ensures-then (Fits S own (n + 1) bound) (Fits S own n bound) (term_after inner (codes "-> ") (n + 1) rest) (λ b end. closed_by (Pi a b) end) (after-fits (codes "-> ") (n + 1) rest le)
      (λ b end fb. closed-fits S own n bound (Pi a b) end (over-pi S own n a b over fb.over) fb.within)

  let-fits : (n : ℕ) (rest : List ℕ) → length rest ≤ bound → Ensures (Fits S own n bound) (let_at inner n rest)
  let-fits n rest le =
      ensures-then (Fits S own n bound) (Fits S own n bound) (inner n rest)
      (λ a r1. and_then (term_after inner (codes " = ") n r1) (λ t r2. and_then (term_after inner (codes " . ") (n + 1) r2) (λ b end. closed_by (Let a t b) end))) (inside n rest le)
      (λ a r1 fa. ensures-then (Fits S own n bound) (Fits S own n bound) (term_after inner (codes " = ") n r1)
      (λ t r2. and_then (term_after inner (codes " . ") (n + 1) r2) (λ b end. closed_by (Let a t b) end)) (after-fits (codes " = ") n r1 fa.within)
      (λ t r2 ft. ensures-then (Fits S own (n + 1) bound) (Fits S own n bound) (term_after inner (codes " . ") (n + 1) r2) (λ b end. closed_by (Let a t b) end) (after-fits (codes " . ") (n + 1) r2 ft.within)
      (λ b end fb. closed-fits S own n bound (Let a t b) end (over-let S own n a t b fa.over ft.over fb.over) fb.within)))

  argument-fits : (n : ℕ) (f : Term) (rest : List ℕ) → IsTermOver S own n f → length rest ≤ bound → Ensures (Fits S own n bound) (argument_of inner f n rest)
  argument-fits n f rest over le =
      ensures-then (Fits S own n bound) (Fits S own n bound) (inner n rest) (λ a r. limited (App f a) r) (inside n rest le)
      (λ a r fa. limited-fits S own n bound (App f a) r (over-app S own n f a over fa.over) fa.within)

  arguments-fit : (n k : ℕ) (f : Term) (rest : List ℕ) → IsTermOver S own n f → length rest ≤ bound → Ensures (Fits S own n bound) (arguments_from inner k f n rest)
  arguments-fit n zero f rest over le = tt
  arguments-fit n (suc k) f rest over le =
      ensures-then (Fits S own n bound) (Fits S own n bound) (argument_of inner f n rest) (after_argument inner (λ t end. arguments_from inner k t n end)) (argument-fits n f rest over le)
      (λ t r ft. ensures-if (Fits S own n bound) (first r == 32) (arguments_from inner k t n (drop 1 r)) (closed_by t r)
      (λ e. arguments-fit n k t (drop 1 r) ft.over (drop-within 1 bound r ft.within))
      (λ e. closed-fits S own n bound t r ft.over ft.within))

  spine-fits : (n : ℕ) (f : Term) (rest : List ℕ) → IsTermOver S own n f → length rest ≤ bound → Ensures (Fits S own n bound) (spine_from inner f n rest)
  spine-fits n f rest over le =
      ensures-if (Fits S own n bound) (is_application f) (wrong rest) (arguments_from inner most f n rest)
      (λ e. tt) (λ e. arguments-fit n most f rest over le)

  first-fits : (n : ℕ) (a : Term) (rest : List ℕ) → IsTermOver S own n a → length rest ≤ bound → Ensures (Fits S own n bound) (after_first inner a n rest)
  first-fits n a rest over le =
      ensures-after (Fits S own n bound) bound (codes " ") rest (λ r. if first r == 45 then product_from inner a n r else spine_from inner a n r) le
      (λ r within. ensures-if (Fits S own n bound) (first r == 45) (product_from inner a n r) (spine_from inner a n r)
      (λ e. product-fits n a r over within) (λ e. spine-fits n a r over within))

  enclosed-fits : (n : ℕ) (rest : List ℕ) → length rest ≤ bound → Ensures (Fits S own n bound) (enclosed_at inner n rest)
  enclosed-fits n rest le =
      ensures-if (Fits S own n bound) (first rest == 92) (function_at inner n (drop 1 rest))
      (if begins (codes "let ") rest then let_at inner n (drop 4 rest) else and_then (inner n rest) (λ a r. after_first inner a n r))
      (λ e. function-fits n (drop 1 rest) (drop-within 1 bound rest le))
      (λ e. ensures-if (Fits S own n bound) (begins (codes "let ") rest) (let_at inner n (drop 4 rest)) (and_then (inner n rest) (λ a r. after_first inner a n r))
      (λ e. let-fits n (drop 4 rest) (drop-within 4 bound rest le))
      (λ e. ensures-then (Fits S own n bound) (Fits S own n bound) (inner n rest) (λ a r. after_first inner a n r) (inside n rest le) (λ a r fa. first-fits n a r fa.over fa.within)))

pub term-fits : (S : Signature) (own : Bool) (look : List ℕ → Option Term) → AreSymbols S own look → (room n bound : ℕ) (rest : List ℕ) → length rest ≤ bound → Ensures (Fits S own n bound) (read_term look room n rest)
term-fits S own look are zero n bound rest le = tt
term-fits S own look are (suc room) n bound rest le =
    ensures-if (Fits S own n bound) (first rest == 40) (enclosed_at (read_term look room) n (drop 1 rest))
    (if first rest == 37 then variable_at n rest else named look (run_len rest) rest)
    (λ e. enclosed-fits S own bound (read_term look room) (λ m r within. term-fits S own look are room m bound r within) n (drop 1 rest) (drop-within 1 bound rest le))
    (λ e. ensures-if (Fits S own n bound) (first rest == 37) (variable_at n rest) (named look (run_len rest) rest)
    (λ e. variable-fits S own n bound rest le)
    (λ e. named-fits S own look are n bound (run_len rest) rest le))
