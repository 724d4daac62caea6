-- Which positions of a telescope admit recursion. Positions count from the outermost type on; at position j, the variable at
-- an earlier position i is `variable j i`.
use Rattle.std.specs.Prelude.{◌≡◌, ◌≢◌, ℕ, zero, suc, ◌+◌, ◌-◌, ◌<◌, Bool, true, false, ◌&&◌, ◌||◌, not, ◌==◌, nat_lt, cond, Option, Some, None, option_map, option_and_then, List, [], ◌∷◌, ◌++◌, length, map, take, drop, slice_get, All, AllPairs}
use Rattle.std.specs.List.{list_any}
use Rattle.theory.specs.Terms.{Term, Var, Fam}
use Rattle.theory.specs.Spines.{head_of, spine_of}
use Rattle.theory.specs.Telescopes.{applied}
use Rattle.theory.specs.Families.{Family}
use Rattle.theory.specs.Signatures.{Signature, FamilyOf, IsEntryAt}
use Rattle.core_terms.specs.Levels.{variable}
use Rattle.kernel_reduce.specs.Entries.{family_at}
use Rattle.tele_eq.specs.Dependences.{has_variable}
use Rattle.tele_eq.specs.Levels.{is_among}

-- ---- mentions in types

-- whether terms at position j mention the variable at i, before it
abbrev pub have_position : (j i : ℕ) → List Term → Bool
have_position j i terms = nat_lt i j && list_any (has_variable (j - (i + 1))) terms

abbrev pub in_type : (n : ℕ) → Option Term → Bool
in_type n None = false
in_type n (Some type) = has_variable n type

-- whether the type at k mentions the variable at i
abbrev pub mentions : (tele : List Term) (k i : ℕ) → Bool
mentions tele k i = nat_lt i k && in_type (k - (i + 1)) (slice_get tele k)

-- The positions that stay fixed under recursion at j, where the type at j has the parameters ps: those that ps mention, closed
-- under those that their types mention.
pub data IsFixed (tele : List Term) (j : ℕ) (ps : List Term) : ℕ → Type 0 where
  parameter : {i : ℕ} → have_position j i ps ≡ true → IsFixed tele j ps i
  behind : {k i : ℕ} → IsFixed tele j ps k → mentions tele k i ≡ true → IsFixed tele j ps i

-- position i before the fixed positions that are found after it, where the parameters or the types of these mention it
abbrev pub with_fixed : (tele : List Term) (j : ℕ) (ps : List Term) (i : ℕ) (found : List ℕ) → List ℕ
with_fixed tele j ps i found = cond (have_position j i ps || list_any (λ k. mentions tele k i) found) (i ∷ found) found

-- the fixed positions below `at`, before those that are found already
abbrev pub fixed_below : (tele : List Term) (j : ℕ) (ps : List Term) (at : ℕ) (found : List ℕ) → List ℕ
fixed_below tele j ps zero found = found
fixed_below tele j ps (suc at) found = fixed_below tele j ps at (with_fixed tele j ps at found)

-- the fixed positions, in the order of the telescope
abbrev pub fixed_positions : (tele : List Term) (j : ℕ) (ps : List Term) → List ℕ
fixed_positions tele j ps = fixed_below tele j ps j []

-- ---- admitting positions

-- An admission of recursion at a position: the number of the family of its type, the fixed positions in the order of the telescope, and
-- the positions of the indices in the order of the family.
pub record Admission : Type 0 where
  pub number : ℕ
  pub fixed : List ℕ
  pub indices : List ℕ

-- Position j admits recursion: its type is syntactically `D ps is`, where the indices are different variables before j, none of which is
-- fixed. The type of each mentions fixed positions and indices alone, and of the indices only those before it in `is`.
pub record Admits (S : Signature) (tele : List Term) (j : ℕ) (a : Admission) : Type 0 where
  pub family : Family
  pub parameters : List Term
  pub known : IsEntryAt S a.number (FamilyOf family)
  pub type : slice_get tele j ≡ Some (applied (Fam a.number) (parameters ++ map (variable j) a.indices))
  pub parameter_count : length parameters ≡ length family.parameters
  pub index_count : length a.indices ≡ length family.indices
  pub before : All (λ i. i < j) a.indices
  pub different : AllPairs (λ i k. i ≢ k) a.indices
  pub fixed : a.fixed ≡ fixed_positions tele j parameters
  pub apart : (i : ℕ) → is_among i a.indices ≡ true → is_among i a.fixed ≡ false
  pub index_types : (i k : ℕ) → is_among i a.indices ≡ true → mentions tele i k ≡ true → (is_among k a.fixed || is_among k a.indices) ≡ true
  pub index_order : AllPairs (λ i k. mentions tele i k ≡ false) a.indices

-- ---- how they are found

-- the position of a term at j, if it is a variable before j
abbrev pub position_of : (j : ℕ) → Term → Option ℕ
position_of j (Var v) = cond (nat_lt v j) (Some (j - (v + 1))) None
position_of j _ = None

-- the positions of terms at j, if each is a variable before j
abbrev pub positions_of : (j : ℕ) → List Term → Option (List ℕ)
positions_of j [] = Some []
positions_of j (t ∷ terms) =
    option_and_then (λ i. option_map (λ others. i ∷ others) (positions_of j terms)) (position_of j t)

abbrev pub are_different : List ℕ → Bool
are_different [] = true
are_different (i ∷ positions) = not (is_among i positions) && are_different positions

-- among the first k positions, the type at i mentions fixed ones and indices alone
abbrev pub mentions_only : (tele : List Term) (fixed indices : List ℕ) (i k : ℕ) → Bool
mentions_only tele fixed indices i zero = true
mentions_only tele fixed indices i (suc k) =
    (not (mentions tele i k) || (is_among k fixed || is_among k indices)) && mentions_only tele fixed indices i k

-- none of these indices is fixed, and their types mention fixed positions and indices alone
abbrev pub are_independent : (tele : List Term) (fixed indices : List ℕ) → List ℕ → Bool
are_independent tele fixed indices [] = true
are_independent tele fixed indices (i ∷ others) =
    (not (is_among i fixed) && mentions_only tele fixed indices i i) && are_independent tele fixed indices others

-- no type of an index mentions a later index
abbrev pub are_in_order : (tele : List Term) → List ℕ → Bool
are_in_order tele [] = true
are_in_order tele (i ∷ later) = not (list_any (mentions tele i) later) && are_in_order tele later

abbrev pub admission_from : (tele : List Term) (n : ℕ) (fixed indices : List ℕ) → Option Admission
admission_from tele n fixed indices =
    cond ((are_different indices && are_in_order tele indices) && are_independent tele fixed indices indices)
    (Some (record { number = n; fixed = fixed; indices = indices }))
    None

-- the admission where the type at j is family n at these parameters and indices
abbrev pub admission_at : (tele : List Term) (j n : ℕ) (ps is : List Term) → Option Admission
admission_at tele j n ps is =
    option_and_then (admission_from tele n (fixed_positions tele j ps)) (positions_of j is)

abbrev pub admission_with : (tele : List Term) (j n : ℕ) (spine : List Term) → Family → Option Admission
admission_with tele j n spine f =
    let count = length f.parameters in
    cond (length spine == count + length f.indices)
    (admission_at tele j n (take count spine) (drop count spine))
    None

abbrev pub family_number : Term → Option ℕ
family_number (Fam n) = Some n
family_number _ = None

abbrev pub admission_in : (S : Signature) (tele : List Term) (j : ℕ) (spine : List Term) → ℕ → Option Admission
admission_in S tele j spine n = option_and_then (admission_with tele j n spine) (family_at S n)

-- the admission of position j with the type t
abbrev pub admission_of : (S : Signature) (tele : List Term) (j : ℕ) → Term → Option Admission
admission_of S tele j t = option_and_then (admission_in S tele j (spine_of t)) (family_number (head_of t))

-- the admission at position j, if it admits recursion
abbrev pub admission : (S : Signature) (tele : List Term) (j : ℕ) → Option Admission
admission S tele j = option_and_then (admission_of S tele j) (slice_get tele j)
