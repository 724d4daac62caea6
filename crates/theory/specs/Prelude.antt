-- The prelude: the families Empty, then Eq.i, then Unit.i, then Pair.i, each for the levels i from 0 to top - 1.
use Rattle.std.specs.Prelude.{ℕ, ◌+◌, ◌*◌, Bool, List, ◌∷◌, ◌++◌, map}
use Rattle.std.specs.List.{range_with_len}
use Rattle.theory.specs.Terms.{top}
use Rattle.theory.specs.Families.{Family}
use Rattle.theory.specs.Signatures.{Entry, FamilyOf, Signature}
pub use Rattle.theory.specs.PreludeFamilies.{level_text, empty_family, equality_family, unit_family, pair_family}

-- one entry for each level from 0 to top - 1
abbrev pub at_levels : (ℕ → Family) → List Entry
at_levels family = map (λ i. FamilyOf (family i)) (range_with_len 0 top)

-- the entry numbers of the families Empty, Unit.i and Pair.i; that of Eq.i is `equality i`
abbrev pub empty_type : ℕ
empty_type = 0

abbrev pub unit_type : ℕ → ℕ
unit_type i = top + 1 + i

abbrev pub pair_type : ℕ → ℕ
pair_type i = 2 * top + 1 + i

abbrev pub prelude : Bool → Signature
prelude k = record {
  entries = FamilyOf empty_family ∷ at_levels equality_family ++ at_levels unit_family ++ at_levels pair_family;
  has_k = k;
}
