-- The place of a refusal is the first one from which no core file over the entries so far goes on.
use Rattle.std.proofs.Common.{◌≡◌, ◌⊎◌, inl, inr, ℕ, ◌<◌, ◌^◌, false, List, [], length, drop, subst, arith}
use Rattle.std.specs.Prelude.{Ok}
use Rattle.std.proofs.lemmas.List.{length-drop}
use Rattle.theory.specs.Signatures.{Signature}
use Rattle.core_text.specs.LineReading.{line_at}
use Rattle.core_text.specs.Places.{IsWrongCharacter, IsWrongName, IsNoRecord, PlacesAreFirst, NestedPlacesAreReached}
use Rattle.core_text.specs.RawEntries.{RawFamilyOf, shows_record}
use Rattle.core_text.specs.Reading.{Reading}
use Rattle.core_text.specs.RawEntries.{RawEntry}
use Rattle.core_text.proofs.Completions.{Meets}
use Rattle.core_text.proofs.LinesGoOn.{Goes, Read}
use Rattle.core_text.proofs.PlacesBefore.{line-meets, place-reached, deep-place-reached}
use Rattle.core_text.proofs.PlacesRefused.{ReadsNoRecord, places-refused}

-- the line of a family that shows no record
no-record : (S : Signature) (rest : List ℕ) → length rest < 2 ^ 32 → ReadsNoRecord S rest → IsNoRecord S rest
no-record S rest short none = by (line_at S [] rest) (line-meets S rest short) (none.2, none.3)
  where
    by : (m : Reading RawEntry) → Meets (Read S rest) (Goes S) rest m → (m ≡ Ok (RawFamilyOf none.0, none.1)) × (shows_record (length S.entries) none.0 ≡ false) → IsNoRecord S rest
    by m read is = of (subst (Meets (Read S rest) (Goes S) rest) is.0 read) is.1
      where
        of : Read S rest (RawFamilyOf none.0) none.1 → shows_record (length S.entries) none.0 ≡ false → IsNoRecord S rest
        of line shows = record { raw = none.0; past = none.1; over = line.1; line = line.0; none = shows }

pub places-are-first : PlacesAreFirst
places-are-first S text from p short le e =
    let reached = place-reached S text from le p short e in
    record { reached = reached; refused = by (places-refused S text from p le e reached.past reached.within) }
  where
    by : IsWrongCharacter S text from p ⊎ IsWrongName S text from p ⊎ ReadsNoRecord S (drop p text) → IsWrongCharacter S text from p ⊎ IsWrongName S text from p ⊎ IsNoRecord S (drop p text)
    by (inl character) = inl character
    by (inr (inl name)) = inr (inl name)
    by (inr (inr none)) = inr (inr (no-record S (drop p text) (omega (arith, short, length-drop p text)) none))

pub nested-places-are-reached : NestedPlacesAreReached
nested-places-are-reached S text from p short le e = deep-place-reached S text from le p short e
