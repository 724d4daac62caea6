-- The laws of the prelude: it is well formed, and the numbers of its entries.
use Rattle.std.specs.Prelude.{◌≡◌, ℕ, ◌+◌, ◌*◌, ◌<◌, Bool, length}
use Rattle.theory.specs.Terms.{top}
use Rattle.theory.specs.Signatures.{FamilyOf, IsEntryAt, equality}
use Rattle.theory.specs.WellFormed.{IsWellFormed}
use Rattle.theory.specs.Prelude.{empty_family, equality_family, unit_family, pair_family, empty_type, unit_type, pair_type, prelude}

-- the prelude is a well-formed signature, with K and without
abbrev pub PreludeIsWellFormed : Type 0
PreludeIsWellFormed = (k : Bool) → IsWellFormed (prelude k)

-- entry 0 is Empty
abbrev pub EmptyIsEntry : Type 0
EmptyIsEntry = (k : Bool) → IsEntryAt (prelude k) empty_type (FamilyOf empty_family)

-- entry `equality i` is Eq.i
abbrev pub EqualityIsEntry : Type 0
EqualityIsEntry = (k : Bool) (i : ℕ) → i < top → IsEntryAt (prelude k) (equality i) (FamilyOf (equality_family i))

-- entry `unit_type i` is Unit.i
abbrev pub UnitIsEntry : Type 0
UnitIsEntry = (k : Bool) (i : ℕ) → i < top → IsEntryAt (prelude k) (unit_type i) (FamilyOf (unit_family i))

-- entry `pair_type i` is Pair.i
abbrev pub PairIsEntry : Type 0
PairIsEntry = (k : Bool) (i : ℕ) → i < top → IsEntryAt (prelude k) (pair_type i) (FamilyOf (pair_family i))

-- there are no other entries
abbrev pub PreludeLength : Type 0
PreludeLength = (k : Bool) → length (prelude k).entries ≡ 3 * top + 1
