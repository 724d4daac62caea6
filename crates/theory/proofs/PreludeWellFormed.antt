-- The prelude is a well-formed signature, and the numbers of its entries.
use Rattle.std.proofs.Common.{◌≡◌, ◌≢◌, ℕ, zero, suc, ◌+◌, ◌*◌, ◌<◌, Bool, List, [], ◌∷◌, ◌++◌, map, length, slice_get, Some, All, AllPairs, flat_map, arith, ap, codes, length-append, append-nil, sym, ◌∙◌, ap₂, subst, ◌≤◌}
use Rattle.std.proofs.lemmas.Option.{slice_get_within, get_or_from_slice_get, slice_get-get_or}
use Rattle.std.specs.List.{range_with_len}
use Rattle.std.proofs.lemmas.List.Elements.{All-cons, All-nil, All-append}
use Rattle.std.proofs.lemmas.List.FromFn.{length-map-range_with_len, get_or-map-range_with_len}
use Rattle.std.proofs.lemmas.Grind.{flat_map-append}
use Rattle.std.proofs.lemmas.List.Folds.{flat_map-map}
use Rattle.theory.specs.Terms.{top}
use Rattle.theory.specs.Families.{Family}
use Rattle.theory.specs.Signatures.{Signature, Entry, FamilyOf, names_of}
use Rattle.theory.specs.WellFormed.{first_entries, IsFamily, IsEntry, family, IsWellFormed}
use Rattle.theory.specs.Prelude.{empty_family, equality_family, unit_family, pair_family, prelude}
use Rattle.theory.proofs.Lists.{slice_get-longer, slice_get-append_right}
use Rattle.theory.proofs.PreludeFamilies.{empty_is_family, equality_is_family, unit_is_family, pair_is_family}
use Rattle.theory.proofs.PreludeNames.{names_at, all_different}

-- the entries of one family for n levels, and those of a prelude with n levels; the prelude has `top`
abbrev pub levels : (ℕ → Family) → ℕ → List Entry
levels f n = map (λ i. FamilyOf (f i)) (range_with_len 0 n)

abbrev pub entries_to : ℕ → List Entry
entries_to n = FamilyOf empty_family ∷ (levels equality_family n ++ (levels unit_family n ++ levels pair_family n))

-- an entry that is well formed over every signature
abbrev IsAlwaysEntry : Entry → Type 0
IsAlwaysEntry e = (S : Signature) → IsEntry S e

levels_always : (f : ℕ → Family) → ((S : Signature) (i : ℕ) → i < top → IsFamily S (f i)) → (from n : ℕ) → from + n ≤ top
    → All IsAlwaysEntry (map (λ i. FamilyOf (f i)) (range_with_len from n))
levels_always f h from zero e = All-nil IsAlwaysEntry
levels_always f h from (suc n) e =
    All-cons IsAlwaysEntry (FamilyOf (f from)) (map (λ i. FamilyOf (f i)) (range_with_len (from + 1) n))
    (λ S. family (h S from (omega arith))) (levels_always f h (from + 1) n (omega arith))

always : (n : ℕ) → n ≤ top → All IsAlwaysEntry (entries_to n)
always n h =
    let eqs = levels equality_family n in
    let units = levels unit_family n in
    let pairs = levels pair_family n in
    All-cons IsAlwaysEntry (FamilyOf empty_family) (eqs ++ (units ++ pairs)) (λ S. family (empty_is_family S))
    (All-append IsAlwaysEntry eqs (units ++ pairs) (levels_always equality_family equality_is_family 0 n (omega arith))
    (All-append IsAlwaysEntry units pairs (levels_always unit_family unit_is_family 0 n (omega arith)) (levels_always pair_family pair_is_family 0 n (omega arith))))

names-levels : (n : ℕ) → flat_map names_of (entries_to n)
    ≡ (codes "Empty" ∷ []) ++ (names_at (codes "Eq.") (codes "refl.") n ++ (names_at (codes "Unit.") (codes "unit.") n ++ names_at (codes "Pair.") (codes "pair.") n))
names-levels n =
    let eqs = levels equality_family n in
    let units = levels unit_family n in
    let pairs = levels pair_family n in
    let of : (f : ℕ → Family) → flat_map names_of (levels f n) ≡ flat_map (λ i. names_of (FamilyOf (f i))) (range_with_len 0 n) =
    λ f. flat_map-map names_of (λ i. FamilyOf (f i)) (range_with_len 0 n) in
    ap (λ names. codes "Empty" ∷ names)
    (flat_map-append names_of eqs (units ++ pairs) ∙ ap₂ ◌++◌ (of equality_family) (flat_map-append names_of units pairs ∙ ap₂ ◌++◌ (of unit_family) (of pair_family)))

prelude_distinct : (n : ℕ) → AllPairs (λ x y. x ≢ y) (flat_map names_of (entries_to n))
prelude_distinct n = subst (AllPairs (λ x y. x ≢ y)) (sym (names-levels n)) (all_different n)

pub prelude_is_well_formed : (k : Bool) → IsWellFormed (prelude k)
prelude_is_well_formed k = record {
  distinct = prelude_distinct top;
  each = λ n e at.
      let within = slice_get_within (entries_to top) n e at in
      subst (λ x. IsEntry (first_entries (prelude k) n) x) (get_or_from_slice_get (entries_to top) n e e at) (always top (omega arith) n e within (first_entries (prelude k) n));
}

levels_at : (f : ℕ → Family) (n i : ℕ) (rest : List Entry) → i < n → slice_get (levels f n ++ rest) i ≡ Some (FamilyOf (f i))
levels_at f n i rest h =
    let long : length (levels f n) ≡ n = length-map-range_with_len (λ i. FamilyOf (f i)) 0 n in
    let d : Entry = FamilyOf empty_family in
    slice_get-longer (levels f n) rest i (FamilyOf (f i))
    (slice_get-get_or (levels f n) i d (omega arith) ∙ ap Some (get_or-map-range_with_len (λ i. FamilyOf (f i)) 0 n i i d h (omega arith)))

behind_levels : (f : ℕ → Family) (n i : ℕ) (rest : List Entry) → slice_get (levels f n ++ rest) (n + i) ≡ slice_get rest i
behind_levels f n i rest =
    let long : length (levels f n) ≡ n = length-map-range_with_len (λ i. FamilyOf (f i)) 0 n in
    subst (λ m. slice_get (levels f n ++ rest) (m + i) ≡ slice_get rest i) long (slice_get-append_right (levels f n) rest i)

pub equality_at : (n i : ℕ) → i < n → slice_get (entries_to n) (suc i) ≡ Some (FamilyOf (equality_family i))
equality_at n i h = levels_at equality_family n i (levels unit_family n ++ levels pair_family n) h

pub unit_at : (n i : ℕ) → i < n → slice_get (entries_to n) (n + 1 + i) ≡ Some (FamilyOf (unit_family i))
unit_at n i h =
    let e : n + 1 + i ≡ suc (n + i) = omega arith in
    rw e (behind_levels equality_family n i (levels unit_family n ++ levels pair_family n) ∙ levels_at unit_family n i (levels pair_family n) h)

pub pair_at : (n i : ℕ) → i < n → slice_get (entries_to n) (2 * n + 1 + i) ≡ Some (FamilyOf (pair_family i))
pair_at n i h =
    let e : 2 * n + 1 + i ≡ suc (n + (n + i)) = omega arith in
    rw e (behind_levels equality_family n (n + i) (levels unit_family n ++ levels pair_family n)
    ∙ (behind_levels unit_family n i (levels pair_family n) ∙ (ap (λ xs. slice_get xs i) (sym (append-nil (levels pair_family n))) ∙ levels_at pair_family n i [] h)))

pub length_to : (n : ℕ) → length (entries_to n) ≡ 3 * n + 1
length_to n =
    let long : (f : ℕ → Family) → length (levels f n) ≡ n = λ f. length-map-range_with_len (λ i. FamilyOf (f i)) 0 n in
    let a = length-append (levels equality_family n) (levels unit_family n ++ levels pair_family n) in
    let b = length-append (levels unit_family n) (levels pair_family n) in
    let u = long equality_family in
    let v = long unit_family in
    let w = long pair_family in
    omega arith
