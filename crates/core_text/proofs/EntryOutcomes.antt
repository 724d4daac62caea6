-- Properties of an entry that is read.
use Rattle.std.proofs.Common.{◌≡◌, ℕ, ◌-◌, ◌<◌, ◌≤◌, Bool, true, false, List, [], ◌∷◌, length, drop, refl, ap, subst, arith}
use Rattle.std.specs.Prelude.{◌==◌, not, if◌then◌else◌, Result, Ok, Err, Option, Some, None}
use Rattle.std.proofs.lemmas.List.{length-drop}
use Rattle.theory.specs.Signatures.{Signature}
use Rattle.core_text.specs.EntryReading.{after_notes, shows_entry, shown_by, entry_at, next_entry, with_offset}
use Rattle.core_text.specs.LineReading.{line_at}
use Rattle.core_text.specs.RawEntries.{RawEntry}
use Rattle.core_text.specs.ReadLaws.{IsReadEntry, WhatIsRead}
use Rattle.core_text.specs.Reading.{Reading, wrong, after}
use Rattle.core_text.specs.declared.halt.Halt.{Halt}
use Rattle.core_text.specs.declared.stop.CoreTextStop.{CoreTextStop}
use Rattle.core_text.proofs.Outcomes.{Ensures, ensures-if}
use Rattle.core_text.proofs.LineOutcomes.{Good, line-fits}

notes-shorter : (inside : Bool) (rest r : List ℕ) → after_notes inside rest ≡ Ok r → length r ≤ length rest
notes-shorter false [] r e = let is : r ≡ [] = cc in rw is (omega arith)
notes-shorter true [] r e = absurd (cc)
notes-shorter false (b ∷ rest) r e = by (notes-shorter true rest r) (b == 35) e
  where
    by : (after_notes true rest ≡ Ok r → length r ≤ length rest) → (c : Bool) → (if c then after_notes true rest else Ok (b ∷ rest)) ≡ Ok r → length r ≤ length (b ∷ rest)
    by others true is = let less = others is in omega arith
    by others false is = let same : r ≡ b ∷ rest = cc in rw same (omega arith)
notes-shorter true (b ∷ rest) r e = let less = notes-shorter (not (b == 10)) rest r e in omega arith

-- an entry is read and at least one byte, or nothing
abbrev Next : Signature → ℕ → Option RawEntry → List ℕ → Type 0
Next S size None r = Unit {0}
Next S size (Some e) r = IsReadEntry S e × (length r < size)

shown-fits : (S : Signature) (n : ℕ) (b : ℕ) (rest : List ℕ) (m : Reading RawEntry) → Ensures (Good S (length rest)) m → Ensures (Next S (length (b ∷ rest))) (shown_by n (b ∷ rest) m)
shown-fits S n b rest (Ok p) good =
    ensures-if (Next S (length (b ∷ rest))) (shows_entry n p.0) (Ok (Some p.0, p.1)) (wrong (b ∷ rest)) (λ e. (good.0, omega (arith, good.1))) (λ e. tt)
shown-fits S n b rest (Err e) good = tt

entry-fits : (S : Signature) (rest : List ℕ) → Ensures (Next S (length rest)) (entry_at S rest)
entry-fits S [] = tt
entry-fits S (b ∷ rest) =
    shown-fits S (length S.entries) b rest (line_at S [] (b ∷ rest)) (line-fits S (length rest) (b ∷ rest) (omega arith))

more-bytes : (S : Signature) (m n : ℕ) (r : Reading (Option RawEntry)) → m ≤ n → Ensures (Next S m) r → Ensures (Next S n) r
more-bytes S m n (Ok (None, r)) le fits = tt
more-bytes S m n (Ok (Some e, r)) le fits = (fits.0, omega (arith, fits.1))
more-bytes S m n (Err e) le fits = tt

next-fits : (S : Signature) (rest : List ℕ) → Ensures (Next S (length rest)) (next_entry S rest)
next-fits S rest = by (after_notes false rest) refl
  where
    by : (m : Result (List ℕ) Halt) → after_notes false rest ≡ m → Ensures (Next S (length rest)) (after m (entry_at S))
    by (Ok r) e = more-bytes S (length r) (length rest) (entry_at S r) (notes-shorter false rest r e) (entry-fits S r)
    by (Err h) e = tt

pub what-is-read : WhatIsRead
what-is-read S text from e to within is = by (next_entry S (drop from text)) (next-fits S (drop from text)) is
  where
    by : (m : Reading (Option RawEntry)) → Ensures (Next S (length (drop from text))) m → with_offset (length text) m ≡ Ok (Some (e, to)) → IsReadEntry S e × (from < to) × (to ≤ length text)
    by (Ok (None, r)) fits same = absurd (cc)
    by (Ok (Some f, r)) fits same =
        let pair : (f, length text - length r) ≡ (e, to) = pair-is same in
        let last : length text - length r ≡ to = ap (λ p. p.1) pair in
        let long = length-drop from text in
        (subst (IsReadEntry S) (ap (λ p. p.0) pair) fits.0, omega (arith, fits.1), omega arith)
      where
        pair-is : {a b : RawEntry × ℕ} → ◌≡◌ {A = Result (Option (RawEntry × ℕ)) CoreTextStop} (Ok (Some a)) (Ok (Some b)) → a ≡ b
        pair-is eq = cc
    by (Err h) fits same = absurd (cc)
