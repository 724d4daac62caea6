-- The packed family stands for the members: none of them is left in the types of constructors, and over a signature in which each member is
-- its definition these types convert to the written ones.
use Rattle.std.specs.Prelude.{◌≡◌, Ok, ℕ, ◌+◌, ◌≤◌, ◌<◌, ◌&&◌, ◌||◌, not, Bool, true, false, cond, is_some, length, slice_get, All}
use Rattle.theory.specs.Families.{mentions}
use Rattle.theory.specs.Terms.{Term, Pi, top}
use Rattle.theory.specs.Signatures.{Signature, HasClosedBodies}
use Rattle.theory.specs.Conversion.{Converts}
use Rattle.core_sig.specs.KindTests.{inner_count}
use Rattle.core_sig.specs.Settling.{renumbered}
use Rattle.core_sig.specs.Raw.{MutualRaw}
use Rattle.mutual_pack.specs.declared.members.Members.{Members}
use Rattle.mutual_pack.specs.Inductions.{level_in}
use Rattle.mutual_pack.specs.MutualFamilies.{Packed, all_constructors}
use Rattle.mutual_pack.specs.Members.{is_member, mentions_member}
use Rattle.mutual_pack.specs.Packing.{members_of, pack, packed_type}

-- the level leaves room for two levels above it, one for the motives of an induction and one for the choice among them
abbrev pub LevelIsLow : Type 0
LevelIsLow = (base : ℕ) (d : MutualRaw) (packed : Packed) → pack base d ≡ Ok packed → level_in packed.family.type + 2 ≤ top

-- no member is left in the type of a constructor
abbrev pub NoMemberIsLeft : Type 0
NoMemberIsLeft =
    (base : ℕ) (d : MutualRaw) (packed : Packed) → pack base d ≡ Ok packed
    → All (λ c. mentions_member (members_of base d) c.type ≡ false) packed.family.constructors

-- the type of an argument after `at` others ends in family number n with p parameters and one index, and does not mention it elsewhere; or
-- it does not mention it at all
abbrev pub is_recursive_or_lacks : (n p at : ℕ) → Term → Bool
is_recursive_or_lacks n p at t = is_some (inner_count n p 1 at t) || not (mentions n t)

-- all argument types of a constructor's type after `at` arguments do
abbrev pub has_positive_arguments : (n p at : ℕ) → Term → Bool
has_positive_arguments n p at (Pi a b) = is_recursive_or_lacks n p at a && has_positive_arguments n p (at + 1) b
has_positive_arguments n p at t = true

-- where no written type mentions the number that the packed family gets, this family is positive
abbrev pub PackedIsPositive : Type 0
PackedIsPositive =
    (base : ℕ) (d : MutualRaw) (packed : Packed) → pack base d ≡ Ok packed → All (λ c. mentions (base + 1) c.type ≡ false) (all_constructors d.members)
    → All (λ c. has_positive_arguments (base + 1) (length d.parameters) 0 c.type ≡ true) packed.family.constructors

-- the number of a constant, where the definitions of the members follow the tag family and the packed family
abbrev pub defined_number : Members → ℕ → ℕ
defined_number g c = cond (is_member g c) (c + 2) c

-- the signature has the definitions of the members, after the tag family and the packed family
pub record HasMembers (S : Signature) (base : ℕ) (packed : Packed) : Type 0 where
  pub bodies : HasClosedBodies S
  pub entries : (k : ℕ) → k < length packed.members → slice_get packed.members k ≡ slice_get S.entries (base + 2 + k)

-- The type of each constructor as packed converts to the written one, where the members are their definitions.
abbrev pub MembersUnfold : Type 0
MembersUnfold =
    (S : Signature) (base : ℕ) (d : MutualRaw) (packed : Packed) → pack base d ≡ Ok packed → HasMembers S base packed
    → All (λ c. Converts S (renumbered (defined_number (members_of base d)) c.type) (packed_type (members_of base d) 0 c.type)) (all_constructors d.members)
