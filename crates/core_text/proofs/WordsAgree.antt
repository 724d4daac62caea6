-- Texts that agree are read alike: words, and tests of the first byte.
use Rattle.std.proofs.Common.{◌≡◌, ◌⊎◌, inl, inr, ℕ, suc, ◌+◌, ◌-◌, ◌<◌, Bool, true, false, List, [], ◌∷◌, ◌++◌, length, drop, take, refl, sym, ap, ap₂, ◌∙◌, subst, append_assoc, length-append, arith}
use Rattle.std.specs.Prelude.{◌==◌, if◌then◌else◌, Result, Ok, Err}
use Rattle.std.proofs.lemmas.Bool.Decides.{nat_tests}
use Rattle.core_text.specs.Heads.{shared}
use Rattle.core_text.specs.Reading.{Reading, wrong, first, after, past}
use Rattle.core_text.specs.declared.halt.Halt.{Halt}
use Rattle.core_text.specs.declared.halt.Halt.TheVariants.{Memory, Nested, Wrong}
use Rattle.core_text.proofs.Agreement.{by_character, Reread, Alike, StaysAt, StartsAt, MovesAt, refused-map, reread-within}
use Rattle.core_text.proofs.Characters.{Same, one-same, first-same, none-one}
use Rattle.core_text.proofs.NumbersBack.{past-word}
use Rattle.core_text.proofs.WordsRead.{first-is}

-- ---- after known bytes

-- after the bytes v, g reads as f does
pub reread-shift : {A : Type 0} (ahead : Bool) (f g : List ℕ → Reading A) (v rest : List ℕ) (m : Reading A) → ((y : List ℕ) → g (v ++ y) ≡ f y) → Reread ahead f rest m → Reread ahead g (v ++ rest) m
reread-shift ahead f g v rest (Ok p) same t = record {
  front = v ++ t.front;
  is = ap (λ s. v ++ s) t.is ∙ sym (append_assoc v t.front p.1);
  again = λ y k. ap g (append_assoc v t.front y) ∙ (same (t.front ++ y) ∙ t.again y k);
}
reread-shift ahead f g v rest (Err (Wrong left)) same t = record {
  front = v ++ t.front;
  back = t.back;
  is = ap (λ s. v ++ s) t.is ∙ sym (append_assoc v t.front t.back);
  size = t.size;
  refused = refused-map (λ y. f (t.front ++ y)) (λ y. g ((v ++ t.front) ++ y)) t.back (λ y k e. ap g (append_assoc v t.front y) ∙ (same (t.front ++ y) ∙ e)) t.refused;
}
reread-shift ahead f g v rest (Err (Nested left)) same t = tt
reread-shift ahead f g v rest (Err Memory) same t = tt

-- g reads as f does each text that agrees so far
pub reread-local : {A : Type 0} (ahead : Bool) (f g : List ℕ → Reading A) (rest : List ℕ) (m : Reading A) → ((v r y : List ℕ) → rest ≡ v ++ r → Same r y ⊎ (0 < length v) → g (v ++ y) ≡ f (v ++ y)) → (ahead ≡ false → MovesAt rest m) → Reread ahead f rest m → Reread ahead g rest m
reread-local true f g rest (Ok p) same moves t = record {
  front = t.front;
  is = t.is;
  again = λ y k. same t.front p.1 y t.is (inl (k refl)) ∙ t.again y k;
}
reread-local false f g rest (Ok p) same moves t =
    let less = moves refl in
    record { front = t.front; is = t.is; again = λ y k. same t.front p.1 y t.is (inr (omega (arith, ap length t.is, length-append t.front p.1))) ∙ t.again y k }
reread-local ahead f g rest (Err (Wrong left)) same moves t = record {
  front = t.front;
  back = t.back;
  is = t.is;
  size = t.size;
  refused = refused-map (λ y. f (t.front ++ y)) (λ y. g (t.front ++ y)) t.back (λ y k e. same t.front t.back y t.is (inl k) ∙ e) t.refused;
}
reread-local ahead f g rest (Err (Nested left)) same moves t = tt
reread-local ahead f g rest (Err Memory) same moves t = tt

-- ---- the first byte

pub first-keeps : (rest v r y : List ℕ) → rest ≡ v ++ r → Same r y ⊎ (0 < length v) → first (v ++ y) ≡ first rest
first-keeps rest [] r y is (inl same) = sym (first-same r y same) ∙ ap first (sym is)
first-keeps rest [] r y is (inr some) = absurd (omega arith)
first-keeps rest (b ∷ v) r y is how = ap first (sym is)

-- by a test of the first byte
pub reread-first : {A : Type 0} (ahead : Bool) (c : ℕ) (f g : List ℕ → Reading A) (rest : List ℕ) → ((first rest == c) ≡ true → Reread ahead f rest (f rest)) → ((first rest == c) ≡ false → Reread ahead g rest (g rest)) → (ahead ≡ false → MovesAt rest (f rest)) → (ahead ≡ false → MovesAt rest (g rest)) → Reread ahead (λ x. if first x == c then f x else g x) rest (if first rest == c then f rest else g rest)
reread-first ahead c f g rest one two moves more = by (first rest == c) refl
  where
    keeps : (b : Bool) → (first rest == c) ≡ b → (v r y : List ℕ) → rest ≡ v ++ r → Same r y ⊎ (0 < length v) → (first (v ++ y) == c) ≡ b
    keeps b e v r y is how = ap (λ x. x == c) (first-keeps rest v r y is how) ∙ e

    by : (b : Bool) → (first rest == c) ≡ b → Reread ahead (λ x. if first x == c then f x else g x) rest (if b then f rest else g rest)
    by true e = reread-local ahead f (λ x. if first x == c then f x else g x) rest (f rest) (λ v r y is how. ap (λ b. if b then f (v ++ y) else g (v ++ y)) (keeps true e v r y is how)) moves (one e)
    by false e = reread-local ahead g (λ x. if first x == c then f x else g x) rest (g rest) (λ v r y is how. ap (λ b. if b then f (v ++ y) else g (v ++ y)) (keeps false e v r y is how)) more (two e)

equal-same : (n : ℕ) → (n == n) ≡ true
equal-same n = grind (arith, nat_tests)

-- a reading that goes on after a byte, where that byte is the first one
pub reread-byte : {A : Type 0} (ahead : Bool) (c : ℕ) (f g : List ℕ → Reading A) (rest : List ℕ) → 0 < c → ((r : List ℕ) → rest ≡ c ∷ r → Reread ahead f r (f r)) → ((first rest == c) ≡ false → Reread ahead g rest (g rest)) → (ahead ≡ false → MovesAt rest (g rest)) → Reread ahead (λ x. if first x == c then f (drop 1 x) else g x) rest (if first rest == c then f (drop 1 rest) else g rest)
reread-byte {A = A} ahead c f g rest some one two moves = by (first rest == c) refl
  where
    F : List ℕ → Reading A
    F x = if first x == c then f (drop 1 x) else g x

    keeps : (first rest == c) ≡ false → (v r y : List ℕ) → rest ≡ v ++ r → Same r y ⊎ (0 < length v) → (first (v ++ y) == c) ≡ false
    keeps e v r y is how = ap (λ x. x == c) (first-keeps rest v r y is how) ∙ e

    by : (b : Bool) → (first rest == c) ≡ b → Reread ahead F rest (if b then f (drop 1 rest) else g rest)
    by true e =
        let is = first-is c rest some e in
        subst (λ x. Reread ahead F x (f (drop 1 rest))) (sym is)
        (reread-shift ahead f F (c ∷ []) (drop 1 rest) (f (drop 1 rest)) (λ y. ap (λ b. if b then f y else g (c ∷ y)) (equal-same c)) (one (drop 1 rest) is))
    by false e = reread-local ahead g F rest (g rest) (λ v r y is how. ap (λ b. if b then f (drop 1 (v ++ y)) else g (v ++ y)) (keeps e v r y is how)) moves (two e)

-- ---- words

-- the word is at the front, or the bytes leave it before its end, which their next byte shows
pub data WordAt (word rest : List ℕ) : Type 0 where
  is_there : (r : List ℕ) → rest ≡ word ++ r → WordAt word rest
  leaves : (front back : List ℕ) → rest ≡ front ++ back → shared rest word ≡ length front → length front < length word → ((y : List ℕ) → take 1 back ≡ take 1 y → shared (front ++ y) word ≡ length front) → WordAt word rest

pub word-at : (word rest : List ℕ) → WordAt word rest
word-at [] rest = is_there rest refl
word-at (b ∷ word) [] = leaves [] [] refl refl (omega arith) (λ y same. ap (λ x. shared x (b ∷ word)) (none-one y same))
word-at (b ∷ word) (x ∷ rest) = by (x == b) refl (word-at word rest)
  where
    more : (n m : ℕ) → n ≡ m → 1 + n ≡ suc m
    more n m e = omega arith

    other : (x == b) ≡ false → (y : List ℕ) → take 1 (x ∷ rest) ≡ take 1 y → shared y (b ∷ word) ≡ 0
    other e [] same = absurd (cc)
    other e (c ∷ y) same =
        let here : x ≡ c = cc in
        ap (λ t. if t then 1 + shared y word else 0) (ap (λ d. d == b) (sym here) ∙ e)

    by : (t : Bool) → (x == b) ≡ t → WordAt word rest → WordAt (b ∷ word) (x ∷ rest)
    by true e (is_there r is) = let here : x ≡ b = grind (arith, nat_tests) in is_there r (ap₂ ◌∷◌ here is)
    by true e (leaves front back is size less k) =
        leaves (x ∷ front) back (ap (λ s. x ∷ s) is)
        (ap (λ t. if t then 1 + shared rest word else 0) e ∙ more (shared rest word) (length front) size) (omega arith)
        (λ y same. ap (λ t. if t then 1 + shared (front ++ y) word else 0) e ∙ more (shared (front ++ y) word) (length front) (k y same))
    by false e how = leaves [] (x ∷ rest) refl (ap (λ t. if t then 1 + shared rest word else 0) e) (omega arith) (λ y same. other e y same)

-- a word that is left before its end is refused there
left-at : (word v y : List ℕ) → shared (v ++ y) word ≡ length v → length v < length word → past word (v ++ y) ≡ Err (Wrong (length y))
left-at word v y is less =
    let short : (shared (v ++ y) word == length word) ≡ false = grind (arith, nat_tests) in
    let left : length (v ++ y) - shared (v ++ y) word ≡ length y = omega (arith, length-append v y) in
    ap (λ b. if b then Ok (drop (length word) (v ++ y)) else Err (Wrong (length (v ++ y) - shared (v ++ y) word))) short ∙ ap (λ n. Err (Wrong n)) left

pub reread-word : {A : Type 0} (ahead : Bool) (word : List ℕ) (f : List ℕ → Reading A) (rest : List ℕ) → ((r : List ℕ) → rest ≡ word ++ r → Reread ahead f r (f r)) → Reread ahead (λ x. after (past word x) f) rest (after (past word rest) f)
reread-word {A = A} ahead word f rest next = by (word-at word rest)
  where
    F : List ℕ → Reading A
    F x = after (past word x) f

    by : WordAt word rest → Reread ahead F rest (F rest)
    by (is_there r is) =
        subst (λ x. Reread ahead F x (F x)) (sym is)
        (subst (λ m. Reread ahead F (word ++ r) (after m f)) (sym (past-word word r))
        (reread-shift ahead f F word r (f r) (λ y. ap (λ m. after m f) (past-word word y)) (next r is)))
    by (leaves front back is size less k) =
        let at : past word rest ≡ Err (Wrong (length back)) = ap (past word) is ∙ left-at word front back (ap (λ x. shared x word) (sym is) ∙ size) less in
        subst (λ m. Reread ahead F rest (after m f)) (sym at)
        (record {
          front = front;
          back = back;
          is = is;
          size = refl;
          refused = by_character (λ y same. ap (λ m. after m f) (left-at word front y (k y (one-same back y same)) less));
        })

pub alike-word : {A : Type 0} (ahead : Bool) (word : List ℕ) (f : List ℕ → Reading A) → Alike ahead f → Alike ahead (λ rest. after (past word rest) f)
alike-word ahead word f alike = record { reread = λ rest. reread-word ahead word f rest (λ r is. alike.reread r) }

-- a reading that begins with a word begins with a character
pub part-starts : {A : Type 0} (b : ℕ) (word : List ℕ) (K : Result (List ℕ) Halt → Reading A) (rest : List ℕ) → b < 128 → ((e : Halt) → K (Err e) ≡ Err e) → StartsAt rest (K (past (b ∷ word) rest))
part-starts b word K [] low stops = inl (omega arith)
part-starts b word K (x ∷ rest) low stops = by (x == b) refl
  where
    by : (t : Bool) → (x == b) ≡ t → StartsAt (x ∷ rest) (K (past (b ∷ word) (x ∷ rest)))
    by true e = let here : x ≡ b = grind (arith, nat_tests) in inl (omega arith)
    by false e =
        inr (subst (StaysAt (x ∷ rest)) (sym (ap K (left-at (b ∷ word) [] (x ∷ rest) (ap (λ t. if t then 1 + shared rest word else 0) e) (omega arith)) ∙ stops (Wrong (length (x ∷ rest))))) refl)

pub word-starts : {A : Type 0} (b : ℕ) (word : List ℕ) (f : List ℕ → Reading A) (rest : List ℕ) → b < 128 → StartsAt rest (after (past (b ∷ word) rest) f)
word-starts b word f rest low = part-starts b word (λ m. after m f) rest low (λ e. refl)

-- and passes over it
pub word-moves : {A : Type 0} (ahead : Bool) (b : ℕ) (word : List ℕ) (f : List ℕ → Reading A) (rest : List ℕ) → ((r : List ℕ) → Reread ahead f r (f r)) → MovesAt rest (after (past (b ∷ word) rest) f)
word-moves ahead b word f rest next = by (word-at (b ∷ word) rest)
  where
    moved : (r : List ℕ) → length r < length rest → (m : Reading _) → Reread ahead f r m → MovesAt rest m
    moved r less (Ok p) t = let within = reread-within ahead f r p.0 p.1 t in omega arith
    moved r less (Err e) t = tt

    by : WordAt (b ∷ word) rest → MovesAt rest (after (past (b ∷ word) rest) f)
    by (is_there r is) =
        let at : past (b ∷ word) rest ≡ Ok r = ap (past (b ∷ word)) is ∙ past-word (b ∷ word) r in
        subst (λ m. MovesAt rest (after m f)) (sym at) (moved r (omega (arith, ap length is, length-append (b ∷ word) r)) (f r) (next r))
    by (leaves front back is size less k) =
        let at : past (b ∷ word) rest ≡ Err (Wrong (length back)) = ap (past (b ∷ word)) is ∙ left-at (b ∷ word) front back (ap (λ x. shared x (b ∷ word)) (sym is) ∙ size) less in
        subst (λ m. MovesAt rest (after m f)) (sym at) tt

-- ---- answers that do not depend on the text

pub alike-here : {A : Type 0} (ahead : Bool) (a : A) → Alike ahead (λ rest. Ok (a, rest))
alike-here ahead a = record { reread = λ rest. record { front = []; is = refl; again = λ y k. refl } }

pub alike-wrong : {A : Type 0} (ahead : Bool) → Alike {A = A} ahead (λ rest. wrong rest)
alike-wrong ahead = record {
  reread = λ rest. record { front = []; back = rest; is = refl; size = refl; refused = by_character (λ y same. refl) };
}

pub alike-nested : {A : Type 0} (ahead : Bool) (size : List ℕ → ℕ) → Alike {A = A} ahead (λ rest. Err (Nested (size rest)))
alike-nested ahead size = record { reread = λ rest. tt }

pub alike-if : {A : Type 0} (ahead b : Bool) (f g : List ℕ → Reading A) → Alike ahead f → Alike ahead g → Alike ahead (λ rest. if b then f rest else g rest)
alike-if ahead true f g one two = one
alike-if ahead false f g one two = two
