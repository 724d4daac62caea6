-- Texts that agree are read alike: what is read depends on its own bytes and the one character after it, and where reading
-- is wrong, it is so at the same place of every text that agrees before the place and has the same character or name there.
use Rattle.std.proofs.Common.{◌≡◌, ◌⊎◌, inl, inr, ℕ, ◌<◌, ◌≤◌, Bool, true, false, List, [], ◌∷◌, ◌++◌, length, refl, sym, ap, ◌∙◌, subst, append_assoc, length-append, arith}
use Rattle.std.specs.Prelude.{Ok, Err}
use Rattle.core_text.specs.NameRuns.{run_len}
use Rattle.core_text.specs.Places.{first_character}
use Rattle.core_text.specs.Reading.{Reading, wrong, first, and_then}
use Rattle.core_text.specs.declared.halt.Halt.TheVariants.{Memory, Nested, Wrong}
use Rattle.core_text.proofs.Characters.{Same, SameName, low-same, same-named}

-- ---- texts that agree with one that is read or refused

-- a refusal at the front, by the character or by the name that is there
pub data Refused {A : Type 0} (f : List ℕ → Reading A) (z : List ℕ) : Type 0 where
  by_character : ((y : List ℕ) → Same z y → f y ≡ wrong y) → Refused f z
  by_name : 0 < run_len z → ((y : List ℕ) → SameName z y → f y ≡ wrong y) → Refused f z

-- A reading gives the same value after the same bytes; where `ahead` says so, before the same character only.
pub record Passed {A : Type 0} (ahead : Bool) (f : List ℕ → Reading A) (rest : List ℕ) (a : A) (r : List ℕ) : Type 0 where
  pub front : List ℕ
  pub is : rest ≡ front ++ r
  pub again : (y : List ℕ) → (ahead ≡ true → Same r y) → f (front ++ y) ≡ Ok (a, y)

-- after the same bytes a refusal is one again
pub record Stopped {A : Type 0} (f : List ℕ → Reading A) (rest : List ℕ) (left : ℕ) : Type 0 where
  pub front : List ℕ
  pub back : List ℕ
  pub is : rest ≡ front ++ back
  pub size : length back ≡ left
  pub refused : Refused (λ y. f (front ++ y)) back

abbrev pub Reread : {A : Type 0} → Bool → (List ℕ → Reading A) → List ℕ → Reading A → Type 0
Reread ahead f rest (Ok p) = Passed ahead f rest p.0 p.1
Reread ahead f rest (Err (Wrong left)) = Stopped f rest left
Reread ahead f rest (Err (Nested left)) = Unit {0}
Reread ahead f rest (Err Memory) = Unit {0}

-- f reads every text as each text that agrees with it
pub record Alike {A : Type 0} (ahead : Bool) (f : List ℕ → Reading A) : Type 0 where
  pub reread : (rest : List ℕ) → Reread ahead f rest (f rest)

-- no byte is passed over
abbrev pub StaysAt : {A : Type 0} → List ℕ → Reading A → Type 0
StaysAt rest (Ok p) = length p.1 ≡ length rest
StaysAt rest (Err (Wrong left)) = left ≡ length rest
StaysAt rest (Err (Nested left)) = Unit {0}
StaysAt rest (Err Memory) = Unit {0}

-- the first byte is a character, or no byte is passed over
abbrev pub StartsAt : {A : Type 0} → List ℕ → Reading A → Type 0
StartsAt rest m = (first rest < 128) ⊎ StaysAt rest m

-- a byte at least is passed over
abbrev pub MovesAt : {A : Type 0} → List ℕ → Reading A → Type 0
MovesAt rest (Ok p) = length p.1 < length rest
MovesAt rest (Err e) = Unit {0}

-- ---- refusals

pub refused-map : {A B : Type 0} (f : List ℕ → Reading A) (g : List ℕ → Reading B) (z : List ℕ) → ((y : List ℕ) → Same z y → f y ≡ wrong y → g y ≡ wrong y) → Refused f z → Refused g z
refused-map f g z go (by_character k) = by_character (λ y same. go y same (k y same))
refused-map f g z go (by_name some k) = by_name some (λ y same. go y (same-named z y some same).character (k y same))

-- where reading is wrong at its first byte
pub stopped-here : {A : Type 0} (ahead : Bool) (f : List ℕ → Reading A) (rest : List ℕ) (m : Reading A) → m ≡ wrong rest → Refused f rest → Reread ahead f rest m
stopped-here ahead f rest m is refused =
    subst (Reread ahead f rest) (sym is) (record { front = []; back = rest; is = refl; size = refl; refused = refused })

-- ---- equal answers of two functions

pub reread-same : {A : Type 0} (ahead : Bool) (f g : List ℕ → Reading A) (rest : List ℕ) (m : Reading A) → ((x : List ℕ) → f x ≡ g x) → Reread ahead f rest m → Reread ahead g rest m
reread-same ahead f g rest (Ok p) same t = record {
  front = t.front;
  is = t.is;
  again = λ y k. sym (same (t.front ++ y)) ∙ t.again y k;
}
reread-same ahead f g rest (Err (Wrong left)) same t = record {
  front = t.front;
  back = t.back;
  is = t.is;
  size = t.size;
  refused = refused-map (λ y. f (t.front ++ y)) (λ y. g (t.front ++ y)) t.back (λ y k e. sym (same (t.front ++ y)) ∙ e) t.refused;
}
reread-same ahead f g rest (Err (Nested left)) same t = tt
reread-same ahead f g rest (Err Memory) same t = tt

pub alike-same : {A : Type 0} (ahead : Bool) (f g : List ℕ → Reading A) → ((x : List ℕ) → f x ≡ g x) → Alike ahead f → Alike ahead g
alike-same ahead f g same alike = record {
  reread = λ rest. subst (Reread ahead g rest) (same rest) (reread-same ahead f g rest (f rest) same (alike.reread rest));
}

-- no more bytes are left than there were
pub reread-within : {A : Type 0} (ahead : Bool) (f : List ℕ → Reading A) (rest : List ℕ) (a : A) (r : List ℕ) → Passed ahead f rest a r → length r ≤ length rest
reread-within ahead f rest a r t = omega (arith, ap length t.is, length-append t.front r)

pub stopped-within : {A : Type 0} (f : List ℕ → Reading A) (rest : List ℕ) (left : ℕ) → Stopped f rest left → left ≤ length rest
stopped-within f rest left t = omega (arith, ap length t.is, length-append t.front t.back, t.size)

-- ---- one part after another

-- Where what comes after passes over a character or nothing, the character before it is the same too.
pub same-ahead : (ahead : Bool) (r v s y : List ℕ) → r ≡ v ++ s → (first r < 128) ⊎ (length s ≡ length r) → (ahead ≡ false → length s < length r) → (ahead ≡ true → Same s y) → Same r (v ++ y)
same-ahead true r [] s y is starts moves same = ap first_character is ∙ same refl
same-ahead false r [] s y is starts moves same = let less = moves refl in absurd (omega (arith, ap length is))
same-ahead ahead r (b ∷ v) s y is (inl low) moves same = ap first_character is ∙ low-same b v s y (subst (λ x. x < 128) (ap first is) low)
same-ahead ahead r (b ∷ v) s y is (inr stays) moves same = absurd (omega (arith, ap length is, length-append (b ∷ v) s))

-- The bytes that are read of r are those that the part before it needs: where `needs` says so, it needs the character there.
abbrev Joins : {B : Type 0} → Bool → Bool → List ℕ → Reading B → Type 0
Joins needs ahead r (Ok q) = (v y : List ℕ) → r ≡ v ++ q.1 → (ahead ≡ true → Same q.1 y) → needs ≡ true → Same r (v ++ y)
Joins needs ahead r (Err (Wrong left)) = (v s y : List ℕ) → r ≡ v ++ s → length s ≡ left → Same s y → needs ≡ true → Same r (v ++ y)
Joins needs ahead r (Err (Nested left)) = Unit {0}
Joins needs ahead r (Err Memory) = Unit {0}

reread-join : {A B : Type 0} (needs ahead : Bool) (g : List ℕ → Reading A) (h : A → List ℕ → Reading B) (rest : List ℕ) → Reread needs g rest (g rest)
    → ((a : A) (r : List ℕ) → g rest ≡ Ok (a, r) → Reread ahead (h a) r (h a r) × Joins needs ahead r (h a r))
    → Reread ahead (λ x. and_then (g x) h) rest (and_then (g rest) h)
reread-join needs ahead g h rest first_part next = by (g rest) refl first_part
  where
    on : (a : _) (r : List ℕ) → Passed needs g rest a r → (m : Reading _) → Reread ahead (h a) r m → Joins needs ahead r m → Reread ahead (λ x. and_then (g x) h) rest m
    on a r t (Ok q) u joins = record {
      front = t.front ++ u.front;
      is = t.is ∙ (ap (λ s. t.front ++ s) u.is ∙ sym (append_assoc t.front u.front q.1));
      again = λ y same.
          ap (λ m. and_then m h) (ap g (append_assoc t.front u.front y) ∙ t.again (u.front ++ y) (joins u.front y u.is same))
          ∙ u.again y same;
    }
    on a r t (Err (Wrong left)) u joins = record {
      front = t.front ++ u.front;
      back = u.back;
      is = t.is ∙ (ap (λ s. t.front ++ s) u.is ∙ sym (append_assoc t.front u.front u.back));
      size = u.size;
      refused = refused-map (λ y. h a (u.front ++ y)) (λ y. and_then (g ((t.front ++ u.front) ++ y)) h) u.back
          (λ y same e. ap (λ m. and_then m h) (ap g (append_assoc t.front u.front y) ∙ t.again (u.front ++ y) (joins u.front u.back y u.is u.size same)) ∙ e)
          u.refused;
    }
    on a r t (Err (Nested left)) u joins = tt
    on a r t (Err Memory) u joins = tt

    by : (m : Reading _) → g rest ≡ m → Reread needs g rest m → Reread ahead (λ x. and_then (g x) h) rest (and_then m h)
    by (Ok p) e t = let k = next p.0 p.1 e in on p.0 p.1 t (h p.0 p.1) k.0 k.1
    by (Err (Wrong left)) e t = record {
      front = t.front;
      back = t.back;
      is = t.is;
      size = t.size;
      refused = refused-map (λ y. g (t.front ++ y)) (λ y. and_then (g (t.front ++ y)) h) t.back (λ y same f. ap (λ m. and_then m h) f) t.refused;
    }
    by (Err (Nested left)) e t = tt
    by (Err Memory) e t = tt

pub reread-then : {A B : Type 0} (ahead : Bool) (g : List ℕ → Reading A) (h : A → List ℕ → Reading B) (rest : List ℕ) → Reread true g rest (g rest)
    → ((a : A) (r : List ℕ) → g rest ≡ Ok (a, r) → Reread ahead (h a) r (h a r) × StartsAt r (h a r) × (ahead ≡ false → MovesAt r (h a r)))
    → Reread ahead (λ x. and_then (g x) h) rest (and_then (g rest) h)
reread-then {A} {B} ahead g h rest first_part next =
    reread-join true ahead g h rest first_part (λ a r e. let k = next a r e in (k.0, joins r (h a r) k.1 k.2))
  where
    joins : (r : List ℕ) (m : Reading B) → StartsAt r m → (ahead ≡ false → MovesAt r m) → Joins true ahead r m
    joins r (Ok q) starts moves = λ v y is same needs. same-ahead ahead r v q.1 y is starts moves same
    joins r (Err (Wrong left)) starts moves = λ v s y is size same needs. same-ahead true r v s y is (at s size starts) (λ no. absurd (cc)) (λ so. same)
      where
        at : (s : List ℕ) → length s ≡ left → (first r < 128) ⊎ (left ≡ length r) → (first r < 128) ⊎ (length s ≡ length r)
        at s size (inl low) = inl low
        at s size (inr stays) = inr (size ∙ stays)
    joins r (Err (Nested left)) starts moves = tt
    joins r (Err Memory) starts moves = tt

-- where the first part is known by its own bytes, whatever comes after it
pub reread-next : {A B : Type 0} (ahead : Bool) (g : List ℕ → Reading A) (h : A → List ℕ → Reading B) (rest : List ℕ) → Reread false g rest (g rest)
    → ((a : A) (r : List ℕ) → g rest ≡ Ok (a, r) → Reread ahead (h a) r (h a r))
    → Reread ahead (λ x. and_then (g x) h) rest (and_then (g rest) h)
reread-next {A} {B} ahead g h rest first_part next = reread-join false ahead g h rest first_part (λ a r e. (next a r e, joins r (h a r)))
  where
    joins : (r : List ℕ) (m : Reading B) → Joins false ahead r m
    joins r (Ok q) = λ v y is same needs. absurd (cc)
    joins r (Err (Wrong left)) = λ v s y is size same needs. absurd (cc)
    joins r (Err (Nested left)) = tt
    joins r (Err Memory) = tt

pub alike-then : {A B : Type 0} (ahead : Bool) (g : List ℕ → Reading A) (h : A → List ℕ → Reading B) → Alike true g → ((a : A) → Alike ahead (h a)) → ((a : A) (r : List ℕ) → StartsAt r (h a r)) → ((a : A) (r : List ℕ) → ahead ≡ false → MovesAt r (h a r)) → Alike ahead (λ x. and_then (g x) h)
alike-then ahead g h first_part next starts moves = record {
  reread = λ rest. reread-then ahead g h rest (first_part.reread rest) (λ a r e. ((next a).reread r, starts a r, moves a r));
}
