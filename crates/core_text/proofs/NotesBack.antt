-- Lines that begin with `#` are passed over, and the end of the text is read as no entry.
use Rattle.std.proofs.Common.{◌≡◌, ℕ, Bool, true, false, List, [], ◌∷◌, ◌++◌, length, drop, refl, sym, ap, ap₂, ◌∙◌, subst, append_assoc, append-nil}
use Rattle.std.specs.Prelude.{not, ◌==◌, if◌then◌else◌, Result, Ok, Err, Some, None}
use Rattle.std.proofs.lemmas.Bool.{and_parts}
use Rattle.theory.specs.Signatures.{Signature}
use Rattle.core_text.specs.EntryReading.{after_notes, shows_entry, shown_by, entry_at, next_entry, with_offset}
use Rattle.core_text.specs.LineLaws.{AreNotes, no_note, note, NotesArePassedOver, EndsAreRead}
use Rattle.core_text.specs.LineReading.{line_at}
use Rattle.core_text.specs.Lines.{is_in_line}
use Rattle.core_text.specs.RawEntries.{RawEntry}
use Rattle.core_text.specs.Reading.{Reading, wrong, after}
use Rattle.core_text.specs.declared.halt.Halt.{Halt}
use Rattle.core_text.proofs.LinesRead.{notes-read}
use Rattle.core_text.proofs.NumbersBack.{drop-word}

-- ---- notes

note-ends : (text rest : List ℕ) → is_in_line text ≡ true → after_notes true (text ++ (10 ∷ rest)) ≡ after_notes false rest
note-ends [] rest in_line = refl
note-ends (b ∷ text) rest in_line =
    let parts = and_parts (not (b == 10)) (is_in_line text) in_line in
    ap (λ inside. after_notes inside (text ++ (10 ∷ rest))) parts.0 ∙ note-ends text rest parts.1

notes-pass : {notes : List ℕ} → AreNotes notes → (rest : List ℕ) → after_notes false (notes ++ rest) ≡ after_notes false rest
notes-pass no_note rest = refl
notes-pass (note text others in_line are) rest =
    ap (after_notes true) (append_assoc text (10 ∷ others) rest)
    ∙ (note-ends text (others ++ rest) in_line ∙ notes-pass are rest)

pub notes-are-passed-over : NotesArePassedOver
notes-are-passed-over S before notes rest are =
    ap (λ r. with_offset (length (before ++ (notes ++ rest))) (next_entry S r)) (drop-word before (notes ++ rest))
    ∙ (ap (λ m. with_offset (length (before ++ (notes ++ rest))) (after m (entry_at S))) (notes-pass are rest)
    ∙ ap₂ (λ text r. with_offset (length text) (next_entry S r)) (sym (append_assoc before notes rest)) (sym (drop-word (before ++ notes) rest)))

-- ---- the end

shown-some : (n size : ℕ) (rest : List ℕ) (m : Reading RawEntry) → with_offset size (shown_by n rest m) ≡ Ok None → ⊥
shown-some n size rest (Ok p) e = by (shows_entry n p.0) e
  where
    by : (b : Bool) → with_offset size (if b then Ok (Some p.0, p.1) else wrong rest) ≡ Ok None → ⊥
    by true e = absurd (cc)
    by false e = absurd (cc)
shown-some n size rest (Err h) e = absurd (cc)

at-end : (S : Signature) (size : ℕ) (rest : List ℕ) → with_offset size (entry_at S rest) ≡ Ok None → rest ≡ []
at-end S size [] e = refl
at-end S size (b ∷ rest) e = absurd (shown-some (length S.entries) size (b ∷ rest) (line_at S [] (b ∷ rest)) e)

only-notes : (S : Signature) (text : List ℕ) (size : ℕ) → with_offset size (next_entry S text) ≡ Ok None → AreNotes text
only-notes S text size e = by (after_notes false text) refl e
  where
    by : (m : Result (List ℕ) Halt) → after_notes false text ≡ m → with_offset size (after m (entry_at S)) ≡ Ok None → AreNotes text
    by (Ok rest) notes same =
        let before = notes-read false text rest notes in
        subst AreNotes (sym (before.is ∙ (ap (λ r. before.notes ++ r) (at-end S size rest same) ∙ append-nil before.notes))) before.are
    by (Err h) notes same = absurd (cc)

no-entry : (S : Signature) (text : List ℕ) (size : ℕ) → AreNotes text → with_offset size (next_entry S text) ≡ Ok None
no-entry S text size are =
    ap (λ r. with_offset size (next_entry S r)) (sym (append-nil text)) ∙ ap (λ m. with_offset size (after m (entry_at S))) (notes-pass are [])

pub ends-are-read : EndsAreRead
ends-are-read S text from = (only-notes S (drop from text) (length text), no-entry S (drop from text) (length text))
