-- At a tag the packed family has the constructors of the tag's member, and no others.
use Rattle.std.specs.Prelude.{◌≡◌, Ok, Some, false, ℕ, ◌+◌, length, slice_get, All}
use Rattle.theory.specs.Families.{mentions}
use Rattle.theory.specs.Terms.{Term, Pi}
use Rattle.core_sig.specs.Raw.{MutualRaw, RawConstructor}
use Rattle.mutual_pack.specs.declared.members.Members.{Members}
use Rattle.mutual_pack.specs.MutualFamilies.{Packed, all_constructors}
use Rattle.mutual_pack.specs.Members.{whole_member}
use Rattle.mutual_pack.specs.Packing.{members_of, pack, tagged}

-- the number of arguments of a constructor's type, and the result behind them
abbrev pub argument_count : Term → ℕ
argument_count (Pi a b) = argument_count b + 1
argument_count t = 0

abbrev pub result_of : Term → Term
result_of (Pi a b) = result_of b
result_of t = t

-- a written constructor builds member k at the parameters
abbrev pub BuildsMember : Members → (k : ℕ) → RawConstructor → Type 0
BuildsMember g k c = whole_member g (argument_count c.type) (result_of c.type) ≡ Some k

-- a constructor of the packed family builds it at the parameters and tag k
abbrev pub BuildsAtTag : Members → (k : ℕ) → RawConstructor → Type 0
BuildsAtTag g k c = result_of c.type ≡ tagged g k (g.params + argument_count c.type)

-- the same constructor, with as many arguments, builds the packed family at the tag of the member that it is written for, and at no other
pub record IsAtItsTag (g : Members) (written packed : RawConstructor) : Type 0 where
  pub name : packed.name ≡ written.name
  pub arguments : argument_count packed.type ≡ argument_count written.type
  pub there : (k : ℕ) → BuildsMember g k written → BuildsAtTag g k packed
  pub only : (k : ℕ) → BuildsAtTag g k packed → BuildsMember g k written

-- where no written type mentions the number that the packed family gets, its constructors are the written ones, each at its tag
abbrev pub ConstructorsAreAtTheirTags : Type 0
ConstructorsAreAtTheirTags =
    (base : ℕ) (d : MutualRaw) (packed : Packed) → pack base d ≡ Ok packed → All (λ c. mentions (base + 1) c.type ≡ false) (all_constructors d.members)
    → (length packed.family.constructors ≡ length (all_constructors d.members))
    × ((n : ℕ) (written made : RawConstructor) → slice_get (all_constructors d.members) n ≡ Some written → slice_get packed.family.constructors n ≡ Some made
    → IsAtItsTag (members_of base d) written made)
