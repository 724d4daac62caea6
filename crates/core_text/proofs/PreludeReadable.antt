-- The names of the prelude are plain.
use Rattle.std.proofs.Common.{◌≡◌, ℕ, zero, suc, ◌+◌, ◌/◌, ◌%◌, ◌<◌, ◌≤◌, Bool, true, false, cond, List, [], ◌∷◌, ◌++◌, map, flat_map, refl, ap, ap₂, ◌∙◌, arith}
use Rattle.std.specs.Prelude.{◌==◌, ◌||◌, nat_lt, if◌then◌else◌, Some, None, option_and_then, All, bytes_eq, codes}
use Rattle.std.specs.List.{list_any, range_with_len}
use Rattle.std.specs.Option.{is_some}
use Rattle.std.specs.Str.{is_utf8, chars}
use Rattle.std.proofs.lemmas.Bool.Decides.{nat_tests}
use Rattle.std.proofs.lemmas.List.{length-append}
use Rattle.std.proofs.lemmas.List.Elements.{All-nil, All-cons, All-append, All-head, All-tail}
use Rattle.std.proofs.lemmas.List.Folds.{list_any-append}
use Rattle.unicode_ident.proofs.Computing.{unicode_ident}
use Rattle.theory.specs.Terms.{top}
use Rattle.theory.specs.Families.{Family}
use Rattle.theory.specs.Signatures.{Entry, FamilyOf, names_of}
use Rattle.theory.specs.Prelude.{level_text, empty_family, equality_family, unit_family, pair_family, at_levels}
use Rattle.theory.proofs.Lists.{both, only}
use Rattle.core_text.specs.NameRuns.{are_name_chars}
use Rattle.core_text.specs.ReadableNames.{IsReadableName, HasReadableFamily, PreludeHasReadableNames}
use Rattle.core_text.specs.SymbolLookup.{number_at_end, before_end}
use Rattle.core_text.proofs.SymbolForms.{level-is, level-at-end}
use Rattle.core_text.proofs.WholeRuns.{chars-join, number-chars}

-- ---- a word, a point and a level

dotted-plain : (before : List ℕ) (i : ℕ) → i < top → are_name_chars (before ++ 46 ∷ []) ≡ true → bytes_eq ((before ++ 46 ∷ []) ++ level_text i) (codes "Type") ≡ false → bytes_eq ((before ++ 46 ∷ []) ++ level_text i) (codes "let") ≡ false → before_end (codes "!elim.") (before ++ 46 ∷ []) ≡ None → before_end (codes "!k.") (before ++ 46 ∷ []) ≡ None → IsReadableName ((before ++ 46 ∷ []) ++ level_text i)
dotted-plain before i lt word no_sort no_let no_elim no_k =
    let text = level-is i (omega arith) in
    let number : number_at_end ((before ++ 46 ∷ []) ++ level_text i) ≡ Some (before ++ 46 ∷ [], i) = level-at-end before 46 i refl (omega arith) in
    record {
      chars = chars-join (before ++ 46 ∷ []) (level_text i) word (ap are_name_chars text ∙ number-chars i (omega arith));
      some = omega (arith, length-append (before ++ 46 ∷ []) (level_text i), length-append before (46 ∷ []));
      no_sort = no_sort;
      no_let = no_let;
      no_eliminator =
          ap (λ o. is_some (option_and_then (λ p. option_and_then (λ family. if list_any (λ b. b == 33) family then None else Some p.1) (before_end (codes "!elim.") p.0)) o)) number
          ∙ ap (λ o. is_some (option_and_then (λ family. if list_any (λ b. b == 33) family then None else Some i) o)) no_elim;
      no_axiom_k =
          ap (λ o. is_some (option_and_then (λ p. option_and_then (λ equality. option_and_then (λ q. if bytes_eq q.0 (codes "Eq.") then Some p.1 else None) (number_at_end equality)) (before_end (codes "!k.") p.0)) o)) number
          ∙ ap (λ o. is_some (option_and_then (λ equality. option_and_then (λ q. if bytes_eq q.0 (codes "Eq.") then Some i else None) (number_at_end equality)) o)) no_k;
    }

words : (are_name_chars (codes "Empty") ≡ true) × (are_name_chars (codes "Eq.") ≡ true) × (are_name_chars (codes "refl.") ≡ true) × (are_name_chars (codes "Unit.") ≡ true) × (are_name_chars (codes "unit.") ≡ true) × (are_name_chars (codes "Pair.") ≡ true) × (are_name_chars (codes "pair.") ≡ true)
unfolding is_utf8 chars unicode_ident lib.Utf8.encode
words = (refl, refl, refl, refl, refl, refl, refl)

no-mark : (i : ℕ) → list_any (λ b. b == 33) (level_text i) ≡ false
no-mark i = by (nat_lt i 10)
  where
    other : (d : ℕ) → (48 + d == 33) ≡ false
    other d = grind (arith, nat_tests)

    by : (c : Bool) → list_any (λ b. b == 33) (cond c ((48 + i) ∷ []) ((48 + i / 10) ∷ (48 + i % 10) ∷ [])) ≡ false
    by true = ap (λ b. b || false) (other i)
    by false = ap₂ (λ b c. b || (c || false)) (other (i / 10)) (other (i % 10))

word-no-mark : (word : List ℕ) (i : ℕ) → list_any (λ b. b == 33) word ≡ false → list_any (λ b. b == 33) (word ++ level_text i) ≡ false
word-no-mark word i none = list_any-append (λ b. b == 33) word (level_text i) ∙ ap₂ (λ a b. a || b) none (no-mark i)

-- ---- entries

record IsPlainEntry (e : Entry) : Type 0 where
  names : All IsReadableName (names_of e)
  family : HasReadableFamily e

empty-plain : IsPlainEntry (FamilyOf empty_family)
empty-plain = record {
  names = only IsReadableName (codes "Empty") (record { chars = words.0; some = omega arith; no_sort = refl; no_let = refl; no_eliminator = refl; no_axiom_k = refl });
  family = refl;
}

equality-plain : (i : ℕ) → i < top → IsPlainEntry (FamilyOf (equality_family i))
equality-plain i lt = record {
  names = both IsReadableName (codes "Eq." ++ level_text i) (codes "refl." ++ level_text i) (dotted-plain (codes "Eq") i lt words.1 refl refl refl refl) (dotted-plain (codes "refl") i lt words.2 refl refl refl refl);
  family = word-no-mark (codes "Eq.") i refl;
}

unit-plain : (i : ℕ) → i < top → IsPlainEntry (FamilyOf (unit_family i))
unit-plain i lt = record {
  names = both IsReadableName (codes "Unit." ++ level_text i) (codes "unit." ++ level_text i) (dotted-plain (codes "Unit") i lt words.3 refl refl refl refl) (dotted-plain (codes "unit") i lt words.4 refl refl refl refl);
  family = word-no-mark (codes "Unit.") i refl;
}

pair-plain : (i : ℕ) → i < top → IsPlainEntry (FamilyOf (pair_family i))
pair-plain i lt = record {
  names = both IsReadableName (codes "Pair." ++ level_text i) (codes "pair." ++ level_text i) (dotted-plain (codes "Pair") i lt words.5 refl refl refl refl) (dotted-plain (codes "pair") i lt words.6 refl refl refl refl);
  family = word-no-mark (codes "Pair.") i refl;
}

levels-plain : (f : ℕ → Family) → ((i : ℕ) → i < top → IsPlainEntry (FamilyOf (f i))) → (from n : ℕ) → from + n ≤ top → All IsPlainEntry (map (λ i. FamilyOf (f i)) (range_with_len from n))
levels-plain f each from zero le = All-nil IsPlainEntry
levels-plain f each from (suc n) le =
    All-cons IsPlainEntry (FamilyOf (f from)) (map (λ i. FamilyOf (f i)) (range_with_len (from + 1) n)) (each from (omega arith)) (levels-plain f each (from + 1) n (omega arith))

-- ---- all of them

names-plain : (es : List Entry) → All IsPlainEntry es → All IsReadableName (flat_map names_of es)
names-plain [] all = All-nil IsReadableName
names-plain (e ∷ es) all =
    All-append IsReadableName (names_of e) (flat_map names_of es) (All-head IsPlainEntry e es all).names (names-plain es (All-tail IsPlainEntry e es all))

families-plain : (es : List Entry) → All IsPlainEntry es → All HasReadableFamily es
families-plain [] all = All-nil HasReadableFamily
families-plain (e ∷ es) all =
    All-cons HasReadableFamily e es (All-head IsPlainEntry e es all).family (families-plain es (All-tail IsPlainEntry e es all))

entries-plain : All IsPlainEntry (FamilyOf empty_family ∷ (at_levels equality_family ++ (at_levels unit_family ++ at_levels pair_family)))
entries-plain =
    All-cons IsPlainEntry (FamilyOf empty_family) (at_levels equality_family ++ (at_levels unit_family ++ at_levels pair_family)) empty-plain
    (All-append IsPlainEntry (at_levels equality_family) (at_levels unit_family ++ at_levels pair_family) (levels-plain equality_family equality-plain 0 top (omega arith))
    (All-append IsPlainEntry (at_levels unit_family) (at_levels pair_family) (levels-plain unit_family unit-plain 0 top (omega arith)) (levels-plain pair_family pair-plain 0 top (omega arith))))

pub prelude-readable : PreludeHasReadableNames
prelude-readable k = record {
  readable = names-plain (FamilyOf empty_family ∷ (at_levels equality_family ++ (at_levels unit_family ++ at_levels pair_family))) entries-plain;
  families = families-plain (FamilyOf empty_family ∷ (at_levels equality_family ++ (at_levels unit_family ++ at_levels pair_family))) entries-plain;
}
