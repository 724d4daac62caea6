-- Texts that agree are read alike: numbers and levels.
use Rattle.std.proofs.Common.{◌≡◌, inr, ℕ, ◌-◌, Bool, true, false, List, [], ◌∷◌, drop, take, refl, sym, ap, ◌∙◌, subst}
use Rattle.std.specs.Prelude.{◌&&◌, nat_lt, if◌then◌else◌, Ok, Err}
use Rattle.theory.specs.Terms.{Term}
use Rattle.core_text.specs.Reading.{Reading, wrong, and_then, is_digit, with_digit, index_from, read_index, is_left, begins_level, one_digit, level_from, read_level}
use Rattle.core_text.specs.TermReading.{as_term}
use Rattle.core_text.proofs.Agreement.{by_character, Reread, Alike, alike-same, alike-then}
use Rattle.core_text.proofs.Characters.{Same, one-same, none-same}
use Rattle.core_text.proofs.WordsAgree.{reread-shift, alike-here}

pub led-same : (b : ℕ) (rest y : List ℕ) → Same (b ∷ rest) y → y ≡ b ∷ drop 1 y
led-same b rest y same = by y (one-same (b ∷ rest) y same)
  where
    by : (x : List ℕ) → take 1 (b ∷ rest) ≡ take 1 x → x ≡ b ∷ drop 1 x
    by [] e = absurd (cc)
    by (c ∷ x) e = let here : b ≡ c = cc in ap (λ d. d ∷ x) (sym here)

-- a reading that the first byte decides, which is passed over or refused
pub alike-led : {A : Type 0} (test : ℕ → Bool) (G : ℕ → List ℕ → Reading A) (R : List ℕ → Reading A) → R [] ≡ wrong [] → ((b : ℕ) (y : List ℕ) → R (b ∷ y) ≡ (if test b then G b y else wrong (b ∷ y))) → ((b : ℕ) → Alike true (G b)) → Alike true R
alike-led test G R none some alike = record { reread = at }
  where
    by : (b : ℕ) (rest : List ℕ) (c : Bool) → test b ≡ c → Reread true R (b ∷ rest) (if c then G b rest else wrong (b ∷ rest))
    by b rest true e =
        reread-shift true (G b) R (b ∷ []) rest (G b rest) (λ y. some b y ∙ ap (λ c. if c then G b y else wrong (b ∷ y)) e) ((alike b).reread rest)
    by b rest false e = record {
      front = [];
      back = b ∷ rest;
      is = refl;
      size = refl;
      refused = by_character (λ y same. subst (λ x. R x ≡ wrong x) (sym (led-same b rest y same)) (some b (drop 1 y) ∙ ap (λ c. if c then G b (drop 1 y) else wrong (b ∷ drop 1 y)) e));
    }

    at : (rest : List ℕ) → Reread true R rest (R rest)
    at [] =
        subst (Reread true R []) (sym none)
        (record { front = []; back = []; is = refl; size = refl; refused = by_character (λ y same. subst (λ x. R x ≡ wrong x) (sym (none-same y same)) none) })
    at (b ∷ rest) = subst (Reread true R (b ∷ rest)) (sym (some b rest)) (by b rest (test b) refl)

-- ---- numbers

abbrev indexed : ℕ → ℕ → List ℕ → Reading ℕ
indexed n v x = Ok (index_from n v x)

index-small : (n v : ℕ) (rest : List ℕ) → Reread true (indexed n v) rest (indexed n v rest)
index-small n v [] = record { front = []; is = refl; again = λ y same. subst (λ x. indexed n v x ≡ Ok (v, x)) (sym (none-same y (same refl))) refl }
index-small n v (b ∷ rest) = by (index-small n (with_digit v b) rest) (is_digit b && (nat_lt 0 v && nat_lt (with_digit v b) n)) refl
  where
    step : Bool → List ℕ → Reading ℕ
    step c y = Ok (if c then index_from n (with_digit v b) y else (v, b ∷ y))

    by : Reread true (indexed n (with_digit v b)) rest (indexed n (with_digit v b) rest) → (c : Bool) → (is_digit b && (nat_lt 0 v && nat_lt (with_digit v b) n)) ≡ c → Reread true (indexed n v) (b ∷ rest) (step c rest)
    by longer true e = reread-shift true (indexed n (with_digit v b)) (indexed n v) (b ∷ []) rest (indexed n (with_digit v b) rest) (λ y. ap (λ c. step c y) e) longer
    by longer false e = record {
      front = [];
      is = refl;
      again = λ y same. subst (λ x. indexed n v x ≡ Ok (v, x)) (sym (led-same b rest y (same refl))) (ap (λ c. step c (drop 1 y)) e);
    }

pub alike-index : (n : ℕ) → Alike true (read_index n)
alike-index n =
    alike-led (λ b. is_digit b && nat_lt (b - 48) n) (λ b x. indexed n (b - 48) x) (read_index n) refl (λ b y. refl)
    (λ b. record { reread = index-small n (b - 48) })

-- ---- levels

module _ (levels : List Bool) (d : ℕ) where
  digit-read : (y : List ℕ) → is_left levels d ≡ true → one_digit levels d y ≡ Ok (d, y)
  digit-read y e = ap (λ c. if c then Ok (d, y) else wrong y) e

  digit-wrong : (y : List ℕ) → is_left levels d ≡ false → one_digit levels d y ≡ wrong y
  digit-wrong y e = ap (λ c. if c then Ok (d, y) else wrong y) e

  -- where one digit is read
  one-reread : (rest : List ℕ) → ((y : List ℕ) → Same rest y → level_from levels d y ≡ one_digit levels d y) → Reread true (level_from levels d) rest (one_digit levels d rest)
  one-reread rest same = by (is_left levels d) refl
    where
      by : (c : Bool) → is_left levels d ≡ c → Reread true (level_from levels d) rest (if c then Ok (d, rest) else wrong rest)
      by true e = record { front = []; is = refl; again = λ y k. same y (k refl) ∙ digit-read y e }
      by false e = record { front = []; back = rest; is = refl; size = refl; refused = by_character (λ y k. same y k ∙ digit-wrong y e) }

  level-reread : (rest : List ℕ) → Reread true (level_from levels d) rest (level_from levels d rest)
  level-reread [] = one-reread [] (λ y same. subst (λ x. level_from levels d x ≡ one_digit levels d x) (sym (none-same y same)) refl)
  level-reread (b ∷ rest) = by (is_digit b && (nat_lt 0 d && is_left levels (with_digit d b))) refl
    where
      by : (c : Bool) → (is_digit b && (nat_lt 0 d && is_left levels (with_digit d b))) ≡ c → Reread true (level_from levels d) (b ∷ rest) (if c then Ok (with_digit d b, rest) else one_digit levels d (b ∷ rest))
      by true e = record { front = b ∷ []; is = refl; again = λ y k. ap (λ c. if c then Ok (with_digit d b, y) else one_digit levels d (b ∷ y)) e }
      by false e =
          one-reread (b ∷ rest)
          (λ y same. subst (λ x. level_from levels d x ≡ one_digit levels d x) (sym (led-same b rest y same)) (ap (λ c. if c then Ok (with_digit d b, drop 1 y) else one_digit levels d (b ∷ drop 1 y)) e))

pub alike-level : (levels : List Bool) → Alike true (read_level levels)
alike-level levels =
    alike-led (λ b. is_digit b && begins_level levels (b - 48)) (λ b x. level_from levels (b - 48) x) (read_level levels) refl (λ b y. refl)
    (λ b. record { reread = level-reread levels (b - 48) })

-- ---- numbers as terms

pub alike-as : (form : ℕ → Term) (f : List ℕ → Reading ℕ) → Alike true f → Alike true (λ x. as_term form (f x))
alike-as form f alike =
    alike-same true (λ x. and_then (f x) (λ v r. Ok (form v, r))) (λ x. as_term form (f x)) (λ x. by (f x))
    (alike-then true f (λ v r. Ok (form v, r)) alike (λ v. alike-here true (form v)) (λ v r. inr refl) (λ v r no. absurd (cc)))
  where
    by : (m : Reading ℕ) → and_then m (λ v r. Ok (form v, r)) ≡ as_term form m
    by (Ok p) = refl
    by (Err e) = refl
