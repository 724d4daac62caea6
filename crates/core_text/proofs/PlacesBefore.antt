-- A core file goes on with the bytes before the place of a refusal.
use Rattle.std.proofs.Common.{◌≡◌, ℕ, ◌+◌, ◌-◌, ◌<◌, ◌≤◌, ◌^◌, Bool, true, false, List, [], ◌∷◌, ◌++◌, length, drop, take, refl, sym, ap, ap₂, ◌∙◌, subst, append_assoc, append-nil, arith, inl, inr}
use Rattle.std.specs.Prelude.{◌⊎◌, ◌==◌, ◌&&◌, not, if◌then◌else◌, Option, None, Result, Ok, Err, Some, codes}
use Rattle.std.proofs.lemmas.Bool.{and_parts}
use Rattle.std.proofs.lemmas.Bool.Decides.{nat_tests}
use Rattle.std.proofs.lemmas.List.{length-append, length-drop, length-take-le, take-append-drop}
use Rattle.std.proofs.Math.Seq.{take-append_seam, drop-append_seam}
use Rattle.theory.specs.Terms.{Sort}
use Rattle.theory.specs.Signatures.{Signature}
use Rattle.core_text.specs.EntryReading.{after_notes, shows_entry, shown_by, entry_at, with_offset, entry_from}
use Rattle.core_text.specs.LineLaws.{AreNotes, no_note, note}
use Rattle.core_text.specs.LineReading.{definition_at, eliminator_at, axiom_k_line, family_at, line_at}
use Rattle.core_text.specs.Lines.{is_in_line}
use Rattle.core_text.specs.Places.{IsReached, GoesOn, NoneLeft, of_family, of_eliminators, of_axiom_k}
use Rattle.core_text.specs.RawEntries.{RawEntry, RawFamilyOf, RawDefinition}
use Rattle.core_text.specs.Reading.{Reading, wrong, first, after, past, begins}
use Rattle.core_text.specs.Spellings.{raw_line, IsEntryOver}
use Rattle.core_text.specs.declared.halt.Halt.{Halt}
use Rattle.core_text.specs.declared.halt.Halt.TheVariants.{Memory, Nested as TooDeep, Wrong}
use Rattle.core_text.specs.declared.stop.CoreTextStop.{CoreTextStop}
use Rattle.core_text.specs.declared.stop.CoreTextStop.TheVariants.{Memory as Exhausted, Nested, NotCoreText}
use Rattle.core_text.proofs.Completions.{Meets, IsFront, meets-if, meets-word}
use Rattle.core_text.proofs.FamiliesGoOn.{family-meets}
use Rattle.core_text.proofs.FreshNames.{fresh, letters-for, fresh-name}
use Rattle.core_text.proofs.LinesGoOn as spent
use Rattle.core_text.proofs.LinesGoOn.{Goes, Read, line-front, definition-meets, eliminator-front, eliminator-meets, axiom-front, axiom-meets}
use Rattle.core_text.proofs.Over.{over-sort}
use Rattle.core_text.proofs.LinesRead.{notes-read}

-- ---- a line

-- there is always an entry more
some-line : (S : Signature) → (raw : RawEntry) × IsEntryOver S raw
some-line S = let k = letters-for S [] [] in (RawDefinition (fresh k) (Sort 0) (Sort 0), (fresh-name S [] [], over-sort S false 0, over-sort S false 0))

definition-front : (S : Signature) → IsFront (Goes S) (codes "def ")
definition-front S =
    let k = letters-for S [] [] in
    line-front S (codes "def ") _ (RawDefinition (fresh k) (Sort 0) (Sort 0)) refl (fresh-name S [] [], over-sort S false 0, over-sort S false 0)

data-front : (S : Signature) → IsFront (Goes S) (codes "data ")
data-front S =
    let k = letters-for S [] [] in
    line-front S (codes "data ") _ (RawFamilyOf (record { name = fresh k; parameters = []; type = Sort 0; constructors = [] })) refl
    (record { name = fresh-name S [] []; parameters = tt; type = over-sort S false 0; constructors = tt })

-- after a word, from what is read there
word-meets : (S : Signature) (word rest : List ℕ) (next : List ℕ → Reading RawEntry) → IsFront (Goes S) word → ((r : List ℕ) → length r ≤ length rest → Meets (Read S (word ++ r)) (Goes S) (word ++ r) (next r)) → Meets (Read S rest) (Goes S) rest (after (past word rest) next)
word-meets S word rest next f k =
    meets-word (Read S rest) (Goes S) [] word rest rest next refl f
    (λ r is. subst (λ w. Meets (Read S w) (Goes S) w (next r)) (sym is) (k r (omega (arith, ap length is, length-append word r))))

pub line-meets : (S : Signature) (rest : List ℕ) → length rest < 2 ^ 32 → Meets (Read S rest) (Goes S) rest (line_at S [] rest)
line-meets S rest short =
    meets-if (Read S rest) (Goes S) rest (begins (codes "de") rest) (after (past (codes "def ") rest) (definition_at S [])) _
    (λ e. word-meets S (codes "def ") rest (definition_at S []) (definition-front S) (λ r le. definition-meets S r))
    (λ e. meets-if (Read S rest) (Goes S) rest (first rest == 101) (after (past (codes "elim ") rest) (eliminator_at S)) _
    (λ e. word-meets S (codes "elim ") rest (eliminator_at S) (eliminator-front S) (λ r le. eliminator-meets S r))
    (λ e. meets-if (Read S rest) (Goes S) rest (S.has_k && (first rest == 97)) (after (past (codes "axiomk ") rest) (axiom_k_line S)) _
    (λ e. let has_k = (and_parts S.has_k (first rest == 97) e).0 in word-meets S (codes "axiomk ") rest (axiom_k_line S) (axiom-front S has_k) (λ r le. axiom-meets S has_k r))
    (λ e. word-meets S (codes "data ") rest (family_at S []) (data-front S) (λ r le. family-meets S r (omega (arith, short, le))))))

-- ---- notes

-- lines of notes, of which the last one lacks its end
record Unfinished (rest : List ℕ) : Type 0 where
  are : AreNotes (rest ++ codes "\n")

-- an unfinished line after its `#`
record UnfinishedInside (rest : List ℕ) : Type 0 where
  text : List ℕ
  others : List ℕ
  in_line : is_in_line text ≡ true
  are : AreNotes others
  is : rest ++ codes "\n" ≡ text ++ (10 ∷ others)

abbrev IsUnfinished : Bool → List ℕ → Type 0
IsUnfinished false rest = Unfinished rest
IsUnfinished true rest = UnfinishedInside rest

halt-is : {A : Type 0} {e f : Halt} → ◌≡◌ {A = Result A Halt} (Err e) (Err f) → e ≡ f
halt-is same = cc

notes-stop : (inside : Bool) (rest : List ℕ) (h : Halt) → after_notes inside rest ≡ Err h → (h ≡ Wrong 0) × IsUnfinished inside rest
notes-stop false [] h e = absurd (cc)
notes-stop true [] h e = (sym (halt-is e), record { text = []; others = []; in_line = refl; are = no_note; is = refl })
notes-stop false (b ∷ rest) h e = by (notes-stop true rest h) (b == 35) refl e
  where
    by : (after_notes true rest ≡ Err h → (h ≡ Wrong 0) × UnfinishedInside rest) → (c : Bool) → (b == 35) ≡ c → (if c then after_notes true rest else Ok (b ∷ rest)) ≡ Err h → (h ≡ Wrong 0) × Unfinished (b ∷ rest)
    by others true same is =
        let more = others is in
        let u = more.1 in
        let here : b ≡ 35 = grind (arith, nat_tests) in
        (more.0, record { are = subst AreNotes (ap₂ ◌∷◌ (sym here) (sym u.is)) (note u.text u.others u.in_line u.are) })
    by others false same is = absurd (cc)
notes-stop true (b ∷ rest) h e = by (notes-stop false rest h) (notes-stop true rest h) (b == 10) refl e
  where
    by : (after_notes false rest ≡ Err h → (h ≡ Wrong 0) × Unfinished rest) → (after_notes true rest ≡ Err h → (h ≡ Wrong 0) × UnfinishedInside rest) → (c : Bool) → (b == 10) ≡ c → after_notes (not c) rest ≡ Err h → (h ≡ Wrong 0) × UnfinishedInside (b ∷ rest)
    by ends goes true same is =
        let more = ends is in
        let u = more.1 in
        let here : b ≡ 10 = grind (arith, nat_tests) in
        (more.0, record { text = []; others = rest ++ codes "\n"; in_line = refl; are = u.are; is = ap (λ x. x ∷ (rest ++ codes "\n")) here })
    by ends goes false same is =
        let more = goes is in
        let u = more.1 in (
          more.0,
          record {
            text = b ∷ u.text;
            others = u.others;
            in_line = ap₂ (λ x y. not x && y) same u.in_line;
            are = u.are;
            is = ap (λ s. b ∷ s) u.is;
          },
        )

-- ---- the bytes before the place

goes-with : (S : Signature) (notes front more : List ℕ) → AreNotes notes → Goes S (front ++ more) → GoesOn S (notes ++ front) ⊎ NoneLeft S (notes ++ front)
goes-with S notes front more are (inl line) =
    inl (record { more = more; notes = notes; entry = line.0; are_notes = are; over = line.2; line = append_assoc notes front more ∙ ap (λ s. notes ++ s) line.1 })
goes-with S notes front more are (inr (spent.of_family g family none is)) =
    inr (of_family g family none (record { more = more; notes = notes; are_notes = are; line = append_assoc notes front more ∙ ap (λ s. notes ++ s) is }))
goes-with S notes front more are (inr (spent.of_eliminators none is)) =
    inr (of_eliminators none (record { more = more; notes = notes; are_notes = are; line = append_assoc notes front more ∙ ap (λ s. notes ++ s) is }))
goes-with S notes front more are (inr (spent.of_axiom_k has_k none is)) =
    inr (of_axiom_k has_k none (record { more = more; notes = notes; are_notes = are; line = append_assoc notes front more ∙ ap (λ s. notes ++ s) is }))

-- a line after bytes that are notes, or are so with a line feed
goes-past : (S : Signature) (bytes more : List ℕ) → AreNotes (bytes ++ more) → GoesOn S bytes
goes-past S bytes more are =
    let some = some-line S in
    record { more = more ++ raw_line S some.0; notes = bytes ++ more; entry = some.0; are_notes = are; over = some.1; line = sym (append_assoc bytes more (raw_line S some.0)) }

-- refused at p, as no core text or as too deep
abbrev IsRefused : ℕ → Result (Option (RawEntry × ℕ)) CoreTextStop → Type 0
IsRefused p r = (r ≡ Err (NotCoreText p)) ⊎ (r ≡ Err (Nested p))

not-ok : (o : Option (RawEntry × ℕ)) (p : ℕ) → IsRefused p (Ok o) → ⊥
not-ok o p (inl e) = absurd (cc)
not-ok o p (inr e) = absurd (cc)

not-memory : (p : ℕ) → IsRefused p (Err Exhausted) → ⊥
not-memory p (inl e) = absurd (cc)
not-memory p (inr e) = absurd (cc)

-- the offset of a wrong byte
wrong-place : (p q : ℕ) → IsRefused q (Err (NotCoreText p)) → p ≡ q
wrong-place p q (inl e) = place-is e
  where
    place-is : ◌≡◌ {A = Result (Option (RawEntry × ℕ)) CoreTextStop} (Err (NotCoreText p)) (Err (NotCoreText q)) → p ≡ q
    place-is e = cc
wrong-place p q (inr e) = absurd (cc)

-- and of a term that is too deep
deep-place : (p q : ℕ) → IsRefused q (Err (Nested p)) → p ≡ q
deep-place p q (inl e) = absurd (cc)
deep-place p q (inr e) = place-is e
  where
    place-is : ◌≡◌ {A = Result (Option (RawEntry × ℕ)) CoreTextStop} (Err (Nested p)) (Err (Nested q)) → p ≡ q
    place-is e = cc

module _ (S : Signature) (text : List ℕ) (from : ℕ) (le : from ≤ length text) where
  -- where the text after its first bytes is a front, followed by what is at the place
  at-place : (front back : List ℕ) (p : ℕ) → drop from text ≡ front ++ back → length text - length back ≡ p → GoesOn S front ⊎ NoneLeft S front → IsReached S text from p
  at-place front back p is place goes = record {
    past = omega (arith, sizes, place, size);
    within = omega (arith, place);
    before = subst (λ bytes. GoesOn S bytes ⊎ NoneLeft S bytes) (sym bytes) goes;
  }
    where
      whole : text ≡ (take from text ++ front) ++ back
      whole = sym (take-append-drop from text) ∙ (ap (λ s. take from text ++ s) is ∙ sym (append_assoc (take from text) front back))

      size : length (take from text) ≡ from
      size = length-take-le from text le

      sizes : length text ≡ length (take from text) + length front + length back
      sizes = ap length whole ∙ (length-append (take from text ++ front) back ∙ ap (λ n. n + length back) (length-append (take from text) front))

      bytes : drop from (take p text) ≡ front
      bytes =
          ap (λ k. drop from (take k text)) (sym place ∙ place-size)
          ∙ (ap (λ t. drop from (take (length (take from text ++ front)) t)) whole
          ∙ (ap (drop from) (take-append_seam (take from text ++ front) back)
          ∙ (ap (λ k. drop k (take from text ++ front)) (sym size) ∙ drop-append_seam (take from text) front)))
        where
          place-size : length text - length back ≡ length (take from text ++ front)
          place-size = omega (arith, sizes, length-append (take from text) front)

  at-line : (notes rest : List ℕ) (p : ℕ) → AreNotes notes → drop from text ≡ notes ++ rest → (m : Reading RawEntry) → Meets (Read S rest) (Goes S) rest m → IsRefused p (with_offset (length text) (shown_by (length S.entries) rest m)) → IsReached S text from p
  at-line notes rest p are is (Ok (raw, r)) h e = by (shows_entry (length S.entries) raw) e
    where
      by : (b : Bool) → IsRefused p (with_offset (length text) (if b then Ok (Some raw, r) else wrong rest)) → IsReached S text from p
      by true same = absurd (not-ok _ p same)
      by false same = at-place notes rest p is (wrong-place _ p same) (inl (goes-past S notes [] (subst AreNotes (sym (append-nil notes)) are)))
  at-line notes rest p are is (Err (Wrong left)) h e =
      at-place (notes ++ h.front) h.back p (is ∙ (ap (λ s. notes ++ s) h.is ∙ sym (append_assoc notes h.front h.back))) (ap (λ k. length text - k) h.size ∙ wrong-place _ p e) (goes-with S notes h.front h.more are h.whole)
  at-line notes rest p are is (Err (TooDeep left)) h e =
      at-place (notes ++ h.front) h.back p (is ∙ (ap (λ s. notes ++ s) h.is ∙ sym (append_assoc notes h.front h.back))) (ap (λ k. length text - k) h.size ∙ deep-place _ p e) (goes-with S notes h.front h.more are h.whole)
  at-line notes rest p are is (Err Memory) h e = absurd (not-memory p e)

  at-entry : (notes rest : List ℕ) (p : ℕ) → length text < 2 ^ 32 → AreNotes notes → drop from text ≡ notes ++ rest → IsRefused p (with_offset (length text) (entry_at S rest)) → IsReached S text from p
  at-entry notes [] p short are is e = absurd (not-ok None p e)
  at-entry notes (b ∷ rest) p short are is e =
      at-line notes (b ∷ rest) p are is (line_at S [] (b ∷ rest))
      (line-meets S (b ∷ rest) (omega (arith, short, length-drop from text, ap length is, length-append notes (b ∷ rest)))) e

  reached : (p : ℕ) → length text < 2 ^ 32 → IsRefused p (entry_from S text from) → IsReached S text from p
  reached p short e = by (after_notes false (drop from text)) refl e
    where
      by : (m : Result (List ℕ) Halt) → after_notes false (drop from text) ≡ m → IsRefused p (with_offset (length text) (after m (entry_at S))) → IsReached S text from p
      by (Ok rest) notes same = let before = notes-read false (drop from text) rest notes in at-entry before.notes rest p short before.are before.is same
      by (Err h) notes same =
          let stop = notes-stop false (drop from text) h notes in
          let u = stop.1 in
          at-place (drop from text) [] p (sym (append-nil (drop from text)))
          (wrong-place _ p (subst (λ x. IsRefused p (with_offset (length text) (after (Err x) (entry_at S)))) stop.0 same)) (inl (goes-past S (drop from text) (codes "\n") u.are))

  pub place-reached : (p : ℕ) → length text < 2 ^ 32 → entry_from S text from ≡ Err (NotCoreText p) → IsReached S text from p
  place-reached p short e = reached p short (inl e)

  pub deep-place-reached : (p : ℕ) → length text < 2 ^ 32 → entry_from S text from ≡ Err (Nested p) → IsReached S text from p
  deep-place-reached p short e = reached p short (inr e)
