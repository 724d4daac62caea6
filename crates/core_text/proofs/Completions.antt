-- Properties of a value that is read and, where a byte is wrong, of the bytes before it: with more after them they are a text that is
-- meant.
use Rattle.std.proofs.Common.{◌≡◌, ℕ, suc, ◌+◌, ◌-◌, Bool, true, false, List, [], ◌∷◌, ◌++◌, length, drop, take, refl, sym, ap, ap₂, ◌∙◌, subst, append_assoc, append-nil, arith}
use Rattle.std.specs.Prelude.{◌==◌, if◌then◌else◌, Ok, Err}
use Rattle.std.proofs.lemmas.Bool.Decides.{nat_tests}
use Rattle.std.proofs.lemmas.List.{length-drop, take-append-drop}
use Rattle.core_text.specs.Heads.{shared}
use Rattle.core_text.specs.Reading.{Reading, wrong, and_then, after, past}
use Rattle.core_text.specs.declared.halt.Halt.TheVariants.{Memory, Nested, Wrong}
use Rattle.core_text.proofs.Outcomes.{Ensures}
use Rattle.core_text.proofs.WordsRead.{word-is}

-- The bytes before the place, with more after them, are a text with the property P: `left` bytes are left at the place.
pub record Begun (P : List ℕ → Type 0) (rest : List ℕ) (left : ℕ) : Type 0 where
  pub front : List ℕ
  pub back : List ℕ
  pub more : List ℕ
  pub is : rest ≡ front ++ back
  pub size : length back ≡ left
  pub whole : P (front ++ more)

-- a property of a value that is read, and one of the bytes before the place where reading is wrong
abbrev pub Meets : {A : Type 0} → (A → List ℕ → Type 0) → (List ℕ → Type 0) → List ℕ → Reading A → Type 0
Meets P Q rest (Ok p) = P p.0 p.1
Meets P Q rest (Err (Wrong left)) = Begun Q rest left
Meets P Q rest (Err (Nested left)) = Begun Q rest left
Meets P Q rest (Err Memory) = Unit {0}

-- ---- fronts of texts

-- with more after it, the front is a text with the property P
abbrev pub IsFront : (List ℕ → Type 0) → List ℕ → Type 0
IsFront P front = (more : List ℕ) × P (front ++ more)

pub front-of : (P : List ℕ → Type 0) (front more text : List ℕ) → front ++ more ≡ text → P text → IsFront P front
front-of P front more text is whole = (more, subst P (sym is) whole)

-- the whole text is one
pub whole-front : (P : List ℕ → Type 0) (text : List ℕ) → P text → IsFront P text
whole-front P text whole = front-of P text [] text (append-nil text) whole

-- less of a front is a front too
pub front-less : (P : List ℕ → Type 0) (front more : List ℕ) → IsFront P (front ++ more) → IsFront P front
front-less P front more f = (more ++ f.0, subst P (append_assoc front more f.0) f.1)

-- ---- the bytes before a place

-- at the place, after a front
pub begun-at : (Q : List ℕ → Type 0) (text rest whole : List ℕ) (left : ℕ) → whole ≡ text ++ rest → length rest ≡ left → IsFront Q text → Begun Q whole left
begun-at Q text rest whole left at size f = record {
  front = text;
  back = rest;
  more = f.0;
  is = at;
  size = size;
  whole = f.1;
}

regrouped : (text front more last : List ℕ) → (text ++ (front ++ more)) ++ last ≡ (text ++ front) ++ (more ++ last)
regrouped text front more last = simp append_assoc

-- with a text before them, where that text and any with the property U are the front of one with the property V
pub begun-past : (U V : List ℕ → Type 0) (text rest whole : List ℕ) (left : ℕ) → whole ≡ text ++ rest → ((x : List ℕ) → U x → IsFront V (text ++ x)) → Begun U rest left → Begun V whole left
begun-past U V text rest whole left at over b = by (over (b.front ++ b.more) b.whole)
  where
    by : IsFront V (text ++ (b.front ++ b.more)) → Begun V whole left
    by f = record {
      front = text ++ b.front;
      back = b.back;
      more = b.more ++ f.0;
      is = at ∙ (ap (λ s. text ++ s) b.is ∙ sym (append_assoc text b.front b.back));
      size = b.size;
      whole = subst V (regrouped text b.front b.more f.0) f.1;
    }

-- a word and the bytes share their first ones
shared-same : (rest word : List ℕ) → take (shared rest word) rest ≡ take (shared rest word) word
shared-same [] word = refl
shared-same (x ∷ rest) [] = refl
shared-same (x ∷ rest) (b ∷ word) = by (shared-same rest word) (x == b) refl
  where
    by : take (shared rest word) rest ≡ take (shared rest word) word → (c : Bool) → (x == b) ≡ c → take (if c then 1 + shared rest word else 0) (x ∷ rest) ≡ take (if c then 1 + shared rest word else 0) (b ∷ word)
    by others true e =
        let here : x ≡ b = grind (arith, nat_tests) in
        let more : 1 + shared rest word ≡ suc (shared rest word) = omega arith in
        ap (λ k. take k (x ∷ rest)) more ∙ (ap₂ ◌∷◌ here others ∙ ap (λ k. take k (b ∷ word)) (sym more))
    by others false e = refl

-- at the first byte with which a word does not go on, where the text before the word, followed by the word, is a front
pub begun-word : (V : List ℕ → Type 0) (text word rest whole : List ℕ) → whole ≡ text ++ rest → IsFront V (text ++ word) → Begun V whole (length rest - shared rest word)
begun-word V text word rest whole at f =
    let k = shared rest word in
    begun-at V (text ++ take k word) (drop k rest) whole (length rest - k)
    (at ∙ (ap (λ s. text ++ s) (sym (take-append-drop k rest) ∙ ap (λ s. s ++ drop k rest) (shared-same rest word)) ∙ sym (append_assoc text (take k word) (drop k rest))))
    (length-drop k rest)
    (front-less V (text ++ take k word) (drop k word)
    (subst (IsFront V) (ap (λ s. text ++ s) (sym (take-append-drop k word)) ∙ sym (append_assoc text (take k word) (drop k word))) f))

-- ---- reading, and then more

pub meets-wrong : {A : Type 0} (Q : A → List ℕ → Type 0) (V : List ℕ → Type 0) (text rest whole : List ℕ) → whole ≡ text ++ rest → IsFront V text → Meets Q V whole (wrong rest)
meets-wrong Q V text rest whole at f = begun-at V text rest whole (length rest) at refl f

-- where what comes next would be too deep
pub meets-deep : {A : Type 0} (Q : A → List ℕ → Type 0) (V : List ℕ → Type 0) (text rest whole : List ℕ) → whole ≡ text ++ rest → IsFront V text → Meets Q V whole (Err (Nested (length rest)))
meets-deep Q V text rest whole at f = begun-at V text rest whole (length rest) at refl f

pub meets-if : {A : Type 0} (Q : A → List ℕ → Type 0) (V : List ℕ → Type 0) (whole : List ℕ) (b : Bool) (x y : Reading A) → (b ≡ true → Meets Q V whole x) → (b ≡ false → Meets Q V whole y) → Meets Q V whole (if b then x else y)
meets-if Q V whole true x y first second = first refl
meets-if Q V whole false x y first second = second refl

-- another property of the value that is read, at the same place
pub meets-ensures : {A : Type 0} (P Q : A → List ℕ → Type 0) (V : List ℕ → Type 0) (whole : List ℕ) (m : Reading A) → Ensures Q m → Meets P V whole m → Meets Q V whole m
meets-ensures P Q V whole (Ok p) so h = so
meets-ensures P Q V whole (Err (Wrong left)) so h = h
meets-ensures P Q V whole (Err Memory) so h = tt
meets-ensures P Q V whole (Err (Nested left)) so h = h

-- A part is read after a text, and then more. Where the part is wrong, its text is one with the property U, and after `text`
-- that is the front of one with the property V.
pub meets-then : {A B : Type 0} (P : A → List ℕ → Type 0) (Q : B → List ℕ → Type 0) (U V : List ℕ → Type 0) (text rest whole : List ℕ) (m : Reading A) (next : A → List ℕ → Reading B) → whole ≡ text ++ rest → ((x : List ℕ) → U x → IsFront V (text ++ x)) → Meets P U rest m → ((a : A) (r : List ℕ) → P a r → Meets Q V whole (next a r)) → Meets Q V whole (and_then m next)
meets-then P Q U V text rest whole (Ok p) next at over h k = k p.0 p.1 h
meets-then P Q U V text rest whole (Err (Wrong left)) next at over h k = begun-past U V text rest whole left at over h
meets-then P Q U V text rest whole (Err Memory) next at over h k = tt
meets-then P Q U V text rest whole (Err (Nested left)) next at over h k = begun-past U V text rest whole left at over h

-- a part is read first, and then more, as parts of one whole
pub meets-on : {A B : Type 0} (P : A → List ℕ → Type 0) (Q : B → List ℕ → Type 0) (V : List ℕ → Type 0) (whole : List ℕ) (m : Reading A) (next : A → List ℕ → Reading B) → Meets P V whole m → ((a : A) (r : List ℕ) → P a r → Meets Q V whole (next a r)) → Meets Q V whole (and_then m next)
meets-on P Q V whole (Ok p) next h k = k p.0 p.1 h
meets-on P Q V whole (Err (Wrong left)) next h k = h
meets-on P Q V whole (Err Memory) next h k = tt
meets-on P Q V whole (Err (Nested left)) next h k = h

-- A word comes after a text, and then more is read.
pub meets-word : {B : Type 0} (Q : B → List ℕ → Type 0) (V : List ℕ → Type 0) (text word rest whole : List ℕ) (next : List ℕ → Reading B) → whole ≡ text ++ rest → IsFront V (text ++ word) → ((r : List ℕ) → rest ≡ word ++ r → Meets Q V whole (next r)) → Meets Q V whole (after (past word rest) next)
meets-word Q V text word rest whole next at f k = by (shared rest word == length word) refl
  where
    by : (b : Bool) → (shared rest word == length word) ≡ b → Meets Q V whole (after (if b then Ok (drop (length word) rest) else Err (Wrong (length rest - shared rest word))) next)
    by true e = k (drop (length word) rest) (word-is word rest e)
    by false e = begun-word V text word rest whole at f

-- A part is read after a word that comes after a text, and then more.
pub meets-after : {A B : Type 0} (P : List ℕ → A → List ℕ → Type 0) (Q : B → List ℕ → Type 0) (U V : List ℕ → Type 0) (text word rest whole : List ℕ) (inner : List ℕ → Reading A) (next : A → List ℕ → Reading B) → whole ≡ text ++ rest → IsFront V (text ++ word) → ((x : List ℕ) → U x → IsFront V (text ++ (word ++ x))) → ((r : List ℕ) → Meets (P r) U r (inner r)) → ((a : A) (r s : List ℕ) → rest ≡ word ++ r → P r a s → Meets Q V whole (next a s)) → Meets Q V whole (and_then (after (past word rest) inner) next)
meets-after P Q U V text word rest whole inner next at f over reads k = by (shared rest word == length word) refl
  where
    by : (b : Bool) → (shared rest word == length word) ≡ b → Meets Q V whole (and_then (after (if b then Ok (drop (length word) rest) else Err (Wrong (length rest - shared rest word))) inner) next)
    by true e =
        let r = drop (length word) rest in
        let is = word-is word rest e in
        meets-then (P r) Q U V (text ++ word) r whole (inner r) next (at ∙ (ap (λ s. text ++ s) is ∙ sym (append_assoc text word r)))
        (λ x u. subst (IsFront V) (sym (append_assoc text word x)) (over x u)) (reads r) (λ a s so. k a r s is so)
    by false e = begun-word V text word rest whole at f
