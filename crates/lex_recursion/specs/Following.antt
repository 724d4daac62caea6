-- Which positions of a telescope follow a position that admits recursion: there the rest of the telescope admits recursion once more,
-- with the positions that the first recursion goes over held fixed.
use Rattle.std.specs.Prelude.{◌≡◌, ◌≢◌, ℕ, ◌<◌, true, false, ◌||◌, cond, Option, Some, None, option_and_then, List, ◌++◌, flat_map, length, map, slice_get, All, AllPairs}
use Rattle.theory.specs.Terms.{Term, Fam}
use Rattle.theory.specs.Telescopes.{applied}
use Rattle.theory.specs.Families.{Family}
use Rattle.theory.specs.Signatures.{Signature, FamilyOf, IsEntryAt}
use Rattle.core_terms.specs.Levels.{variable}
use Rattle.tele_eq.specs.Levels.{is_among}
use Rattle.case_trees.specs.Problems.{Member, member_of}
use Rattle.tree_translation.specs.structural_rec.Positions.{Admission, admission_from, fixed_positions, have_position, mentions, positions_of}
use Rattle.tree_translation.specs.structural_rec.Orders.{unless_among}

-- The positions of the rest that stay fixed under recursion at k, where the type at k has the parameters ps: those outside the first
-- positions that ps mention, closed under those that their types mention.
pub data IsFixedBehind (tele : List Term) (first : List ℕ) (k : ℕ) (ps : List Term) : ℕ → Type 0 where
  of_parameter : {i : ℕ} → have_position k i ps ≡ true → is_among i first ≡ false → IsFixedBehind tele first k ps i
  of_type : {n i : ℕ} → IsFixedBehind tele first k ps n → mentions tele n i ≡ true → is_among i first ≡ false → IsFixedBehind tele first k ps i

-- they are those that stay fixed under recursion at k alone, without the first positions, in the order of the telescope
abbrev pub fixed_behind : (tele : List Term) (first : List ℕ) (k : ℕ) (ps : List Term) → List ℕ
fixed_behind tele first k ps = flat_map (unless_among first) (fixed_positions tele k ps)

-- Position k follows the first positions: it is not among them, and its type is syntactically `D ps is`, where the indices are different
-- variables of the rest before k, none of which is fixed. The type of each mentions the first positions, the fixed ones of the rest and
-- indices alone, and of the indices only those before it in `is`. In its admission the first positions are fixed.
pub record Follows (S : Signature) (tele : List Term) (first : List ℕ) (k : ℕ) (a : Admission) : Type 0 where
  pub outside : is_among k first ≡ false
  pub family : Family
  pub parameters : List Term
  pub known : IsEntryAt S a.number (FamilyOf family)
  pub type : slice_get tele k ≡ Some (applied (Fam a.number) (parameters ++ map (variable k) a.indices))
  pub parameter_count : length parameters ≡ length family.parameters
  pub index_count : length a.indices ≡ length family.indices
  pub before : All (λ i. i < k) a.indices
  pub different : AllPairs (λ i n. i ≢ n) a.indices
  pub fixed : a.fixed ≡ first ++ fixed_behind tele first k parameters
  pub apart : (i : ℕ) → is_among i a.indices ≡ true → is_among i a.fixed ≡ false
  pub index_types : (i n : ℕ) → is_among i a.indices ≡ true → mentions tele i n ≡ true → (is_among n a.fixed || is_among n a.indices) ≡ true
  pub index_order : AllPairs (λ i n. mentions tele i n ≡ false) a.indices

-- ---- how they are found

-- the admission where the type at k is a family with these arguments
abbrev pub following_with : (tele : List Term) (first : List ℕ) (k : ℕ) → Member → Option Admission
following_with tele first k m =
    option_and_then (admission_from tele m.n (first ++ fixed_behind tele first k m.parameters)) (positions_of k m.indices)

-- the admission of position k with the type t
abbrev pub following_of : (S : Signature) (tele : List Term) (first : List ℕ) (k : ℕ) → Term → Option Admission
following_of S tele first k t = option_and_then (following_with tele first k) (member_of S t)

-- the admission at position k, if it follows the first positions
abbrev pub following : (S : Signature) (tele : List Term) (first : List ℕ) (k : ℕ) → Option Admission
following S tele first k = cond (is_among k first) None (option_and_then (following_of S tele first k) (slice_get tele k))
