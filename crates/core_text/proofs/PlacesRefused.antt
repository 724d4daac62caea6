-- Where a text is refused, each text that agrees with it before that place, and has the same character or name there, is refused at
-- the same place too; or a family is there that shows no record.
use Rattle.std.proofs.Common.{◌≡◌, ◌⊎◌, inl, inr, ℕ, ◌+◌, ◌-◌, ◌<◌, ◌≤◌, Bool, true, false, List, [], ◌∷◌, ◌++◌, length, drop, take, refl, sym, ap, ◌∙◌, subst, append_assoc, append-nil, length-append, arith}
use Rattle.std.specs.Prelude.{◌==◌, not, if◌then◌else◌, Ok, Err, Result, Option, Some, None}
use Rattle.std.proofs.lemmas.List.{take-append-drop, length-take-le, take_at, drop_at}
use Rattle.theory.specs.Signatures.{Signature}
use Rattle.core_sig.specs.Raw.{RawFamily}
use Rattle.core_text.specs.EntryReading.{after_notes, shows_entry, shown_by, entry_at, next_entry, with_offset, entry_from}
use Rattle.core_text.specs.LineReading.{line_at}
use Rattle.core_text.specs.NameRuns.{run_len}
use Rattle.core_text.specs.Places.{first_character, first_name, IsWrongCharacter, IsWrongName}
use Rattle.core_text.specs.RawEntries.{RawEntry, RawFamilyOf, RawEliminator, RawAxiomK, RawDefinition, shows_record}
use Rattle.core_text.specs.Reading.{Reading, wrong, after}
use Rattle.core_text.specs.declared.halt.Halt.TheVariants.{Memory, Nested, Wrong}
use Rattle.core_text.specs.declared.stop.CoreTextStop.{CoreTextStop}
use Rattle.core_text.specs.declared.stop.CoreTextStop.TheVariants.{NotCoreText}
use Rattle.core_text.proofs.Agreement.{Refused, by_character, by_name, Reread, refused-map}
use Rattle.core_text.proofs.Characters.{Same, one-same, none-same, none-one}
use Rattle.core_text.proofs.LinesAgree.{alike-line}

-- ---- notes

-- The lines that begin with `#` are passed over before the same byte, or the last of them has no end.
pub data NotesAt (inside : Bool) (rest : List ℕ) : Type 0 where
  passed : (v r : List ℕ) → rest ≡ v ++ r → after_notes inside rest ≡ Ok r → ((y : List ℕ) → take 1 r ≡ take 1 y → after_notes inside (v ++ y) ≡ Ok y) → NotesAt inside rest
  unended : after_notes inside rest ≡ Err (Wrong 0) → NotesAt inside rest

notes-at : (inside : Bool) (rest : List ℕ) → NotesAt inside rest
notes-at false [] = passed [] [] refl refl (λ y same. subst (λ x. after_notes false x ≡ Ok x) (sym (none-one y same)) refl)
notes-at true [] = unended refl
notes-at false (b ∷ rest) = by (b == 35) refl (notes-at true rest)
  where
    here : (b == 35) ≡ false → (y : List ℕ) → take 1 (b ∷ rest) ≡ take 1 y → after_notes false y ≡ Ok y
    here e [] same = refl
    here e (c ∷ y) same =
        let is : b ≡ c = cc in
        ap (λ t. if t then after_notes true y else Ok (c ∷ y)) (ap (λ x. x == 35) (sym is) ∙ e)

    by : (t : Bool) → (b == 35) ≡ t → NotesAt true rest → NotesAt false (b ∷ rest)
    by true e (passed v r is at again) =
        passed (b ∷ v) r (ap (λ s. b ∷ s) is) (ap (λ t. if t then after_notes true rest else Ok (b ∷ rest)) e ∙ at)
        (λ y same. ap (λ t. if t then after_notes true (v ++ y) else Ok (b ∷ (v ++ y))) e ∙ again y same)
    by true e (unended at) = unended (ap (λ t. if t then after_notes true rest else Ok (b ∷ rest)) e ∙ at)
    by false e how = passed [] (b ∷ rest) refl (ap (λ t. if t then after_notes true rest else Ok (b ∷ rest)) e) (here e)
notes-at true (b ∷ rest) = by (notes-at (not (b == 10)) rest)
  where
    by : NotesAt (not (b == 10)) rest → NotesAt true (b ∷ rest)
    by (passed v r is at again) = passed (b ∷ v) r (ap (λ s. b ∷ s) is) at again
    by (unended at) = unended at

-- ---- entries

-- the line is that of a family that shows no record
abbrev pub ReadsNoRecord : Signature → List ℕ → Type 0
ReadsNoRecord S rest =
    (raw : RawFamily) × (past : List ℕ) × (line_at S [] rest ≡ Ok (RawFamilyOf raw, past)) × (shows_record (length S.entries) raw ≡ false)

-- the rest of a text is refused
pub data EntryRefused (S : Signature) (rest : List ℕ) (left : ℕ) : Type 0 where
  refused_at : (front back : List ℕ) → rest ≡ front ++ back → length back ≡ left → Refused (λ y. next_entry S (front ++ y)) back → EntryRefused S rest left
  no_record : (front back : List ℕ) → rest ≡ front ++ back → length back ≡ left → ReadsNoRecord S back → EntryRefused S rest left

one-keeps : (w z y : List ℕ) → Same z y → take 1 (w ++ z) ≡ take 1 (w ++ y)
one-keeps [] z y same = one-same z y same
one-keeps (b ∷ w) z y same = refl

-- after the notes a line is refused
entry-wrong : (S : Signature) (b : ℕ) (r x y : List ℕ) → take 1 (b ∷ r) ≡ take 1 x → line_at S [] x ≡ wrong y → entry_at S x ≡ wrong y
entry-wrong S b r [] y same e = absurd (cc)
entry-wrong S b r (c ∷ x) y same e = ap (shown_by (length S.entries) (c ∷ x)) e

-- a line that shows no entry is that of a family
family-hides : (n : ℕ) (e : RawEntry) → shows_entry n e ≡ false → (raw : RawFamily) × (e ≡ RawFamilyOf raw) × (shows_record n raw ≡ false)
family-hides n (RawFamilyOf raw) off = (raw, refl, off)
family-hides n (RawEliminator g m) off = absurd (cc)
family-hides n (RawAxiomK i m) off = absurd (cc)
family-hides n (RawDefinition name type body) off = absurd (cc)

abbrev shown_if : RawEntry → List ℕ → List ℕ → Bool → Reading (Option RawEntry)
shown_if e end line c = if c then Ok (Some e, end) else wrong line

entry-refused : (S : Signature) (rest : List ℕ) (left : ℕ) → next_entry S rest ≡ Err (Wrong left) → EntryRefused S rest left
entry-refused S rest left e = by (notes-at false rest)
  where
    size-is : (k : ℕ) (m : Reading (Option RawEntry)) → m ≡ Err (Wrong k) → m ≡ Err (Wrong left) → k ≡ left
    size-is k m is stops = cc

    no-entry : (m : Reading (Option RawEntry)) → m ≡ Ok (None, []) → m ≡ Err (Wrong left) → ⊥
    no-entry m is stops = absurd (cc)

    on : (v : List ℕ) (b : ℕ) (r : List ℕ) → rest ≡ v ++ b ∷ r → ((y : List ℕ) → take 1 (b ∷ r) ≡ take 1 y → after_notes false (v ++ y) ≡ Ok y) → (m : Reading RawEntry) → line_at S [] (b ∷ r) ≡ m → Reread true (line_at S []) (b ∷ r) m → shown_by (length S.entries) (b ∷ r) m ≡ Err (Wrong left) → EntryRefused S rest left
    on v b r is again (Ok p) line t shown = at (shows_entry (length S.entries) p.0) refl shown
      where
        at : (c : Bool) → shows_entry (length S.entries) p.0 ≡ c → shown_if p.0 p.1 (b ∷ r) c ≡ Err (Wrong left) → EntryRefused S rest left
        at true f stops = absurd (cc)
        at false f stops =
            let hides = family-hides (length S.entries) p.0 f in
            no_record v (b ∷ r) is (size-is (length (b ∷ r)) (wrong (b ∷ r)) refl stops) (hides.0, p.1, line ∙ ap (λ x. Ok (x, p.1)) hides.1, hides.2)
    on v b r is again (Err (Wrong k)) line t shown =
        refused_at (v ++ t.front) t.back (is ∙ (ap (λ s. v ++ s) t.is ∙ sym (append_assoc v t.front t.back))) (t.size ∙ size-is k (Err (Wrong k)) refl shown)
        (refused-map (λ y. line_at S [] (t.front ++ y)) (λ y. next_entry S ((v ++ t.front) ++ y)) t.back
        (λ y same f.
        let one : take 1 (b ∷ r) ≡ take 1 (t.front ++ y) = ap (take 1) t.is ∙ one-keeps t.front t.back y same in
        ap (next_entry S) (append_assoc v t.front y)
        ∙ (ap (λ m. after m (entry_at S)) (again (t.front ++ y) one) ∙ entry-wrong S b r (t.front ++ y) y one f)) t.refused)
    on v b r is again (Err (Nested k)) line t shown = absurd (cc)
    on v b r is again (Err Memory) line t shown = absurd (cc)

    by : NotesAt false rest → EntryRefused S rest left
    by (passed v [] is at again) = absurd (no-entry (next_entry S rest) (ap (λ m. after m (entry_at S)) at) e)
    by (passed v (b ∷ r) is at again) =
        on v b r is again (line_at S [] (b ∷ r)) refl ((alike-line S []).reread (b ∷ r)) (ap (λ m. after m (entry_at S)) (sym at) ∙ e)
    by (unended at) =
        let stops : next_entry S rest ≡ Err (Wrong 0) = ap (λ m. after m (entry_at S)) at in
        refused_at rest [] (sym (append-nil rest)) (size-is 0 (next_entry S rest) stops e)
        (by_character (λ y same. subst (λ x. next_entry S (rest ++ x) ≡ wrong x) (sym (none-same y same)) (ap (next_entry S) (append-nil rest) ∙ stops)))

-- ---- offsets

-- the text before a place and after it
record Cut (S : Signature) (text : List ℕ) (from p : ℕ) (front back : List ℕ) : Type 0 where
  before : take p text ≡ take from text ++ front
  past : drop p text ≡ back

cut : (S : Signature) (text : List ℕ) (from p : ℕ) (front back : List ℕ) → from ≤ length text → drop from text ≡ front ++ back → p ≡ length text - length back → Cut S text from p front back
cut S text from p front back le is place =
    let start = take from text ++ front in
    let whole : text ≡ start ++ back =
    sym (take-append-drop from text) ∙ (ap (λ s. take from text ++ s) is ∙ sym (append_assoc (take from text) front back)) in
    let size : length start ≡ p = omega (arith, ap length whole, length-append start back, place) in
    record { before = ap (take p) whole ∙ take_at start back p size; past = ap (drop p) whole ∙ drop_at start back p size }

-- another text that agrees is refused there
again-at : (S : Signature) (text other : List ℕ) (from p : ℕ) (front back : List ℕ) → from ≤ length text → p ≤ length text → Cut S text from p front back → take p other ≡ take p text → next_entry S (front ++ drop p other) ≡ wrong (drop p other) → entry_from S other from ≡ Err (NotCoreText p)
again-at S text other from p front back le within c same e =
    let y = drop p other in
    let start = take from text in
    let whole : other ≡ start ++ (front ++ y) = sym (take-append-drop p other) ∙ (ap (λ s. s ++ y) (same ∙ c.before) ∙ append_assoc start front y) in
    let rest : drop from other ≡ front ++ y = ap (drop from) whole ∙ drop_at start (front ++ y) from (length-take-le from text le) in
    let size : length (take p other) ≡ p = ap length same ∙ length-take-le p text within in
    let all : length other ≡ p + length y = ap length (sym (take-append-drop p other)) ∙ (length-append (take p other) y ∙ ap (λ k. k + length y) size) in
    let place : length other - length y ≡ p = omega (arith, all) in
    ap (λ r. with_offset (length other) (next_entry S r)) rest
    ∙ (ap (with_offset (length other)) e ∙ ap (λ k. Err (NotCoreText k)) place)

place-refused : (S : Signature) (text : List ℕ) (from p : ℕ) → from ≤ length text → p ≤ length text → (left : ℕ) → p ≡ length text - left → EntryRefused S (drop from text) left → IsWrongCharacter S text from p ⊎ IsWrongName S text from p ⊎ ReadsNoRecord S (drop p text)
place-refused S text from p le within left place (refused_at front back is size refused) =
    by (cut S text from p front back le is (place ∙ ap (λ k. length text - k) (sym size))) refused
  where
    by : Cut S text from p front back → Refused (λ y. next_entry S (front ++ y)) back → IsWrongCharacter S text from p ⊎ IsWrongName S text from p ⊎ ReadsNoRecord S (drop p text)
    by c (by_character k) =
        inl (λ other same character. again-at S text other from p front back le within c same (k (drop p other) (sym (character ∙ ap first_character c.past))))
    by c (by_name some k) =
        inr (inl (
          subst (λ z. 0 < run_len z) (sym c.past) some,
          λ other same name. again-at S text other from p front back le within c same (k (drop p other) (sym (name ∙ ap first_name c.past))),
        ))
place-refused S text from p le within left place (no_record front back is size reads) =
    let c = cut S text from p front back le is (place ∙ ap (λ k. length text - k) (sym size)) in
    inr (inr (subst (ReadsNoRecord S) (sym c.past) reads))

-- a refusal at an offset is one with so many bytes left
record Left (S : Signature) (text : List ℕ) (from p : ℕ) : Type 0 where
  left : ℕ
  place : p ≡ length text - left
  refused : EntryRefused S (drop from text) left

left-of : (S : Signature) (text : List ℕ) (from p : ℕ) → entry_from S text from ≡ Err (NotCoreText p) → Left S text from p
left-of S text from p e = by (next_entry S (drop from text)) refl e
  where
    place-is : (left : ℕ) (m : Result (Option (RawEntry × ℕ)) CoreTextStop) → m ≡ Err (NotCoreText (length text - left)) → m ≡ Err (NotCoreText p) → p ≡ length text - left
    place-is left m is stops = cc

    by : (m : Reading (Option RawEntry)) → next_entry S (drop from text) ≡ m → with_offset (length text) m ≡ Err (NotCoreText p) → Left S text from p
    by (Ok q) is stops = absurd (cc)
    by (Err Memory) is stops = absurd (cc)
    by (Err (Nested left)) is stops = absurd (cc)
    by (Err (Wrong left)) is stops = record {
      left = left;
      place = place-is left (with_offset (length text) (Err (Wrong left))) refl stops;
      refused = entry-refused S (drop from text) left is;
    }

pub places-refused : (S : Signature) (text : List ℕ) (from p : ℕ) → from ≤ length text → entry_from S text from ≡ Err (NotCoreText p) → from ≤ p → p ≤ length text → IsWrongCharacter S text from p ⊎ IsWrongName S text from p ⊎ ReadsNoRecord S (drop p text)
places-refused S text from p le e past within = let l = left-of S text from p e in place-refused S text from p le within l.left l.place l.refused
