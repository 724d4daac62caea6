-- The equations of induction hold by conversion.
use Rattle.std.specs.Prelude.{◌≡◌, Ok, ℕ, ◌+◌, ◌<◌, false, map, length, All}
use Rattle.theory.specs.Terms.{Term}
use Rattle.theory.specs.Telescopes.{Telescope, products}
use Rattle.theory.specs.Families.{Family, mentions, family_type, constructor_type}
use Rattle.theory.specs.Signatures.{Signature, FamilyOf, IsEntryAt}
use Rattle.theory.specs.Conversion.{Converts}
use Rattle.core_sig.specs.FamilyShapes.{family_shape}
use Rattle.case_below_gen.specs.CourseLaws.{IsRegular}
use Rattle.core_sig.specs.Raw.{MutualRaw}
use Rattle.mutual_pack.specs.Equations.{inductions_in, constructor_number, induction_equation}
use Rattle.mutual_pack.specs.InductionLaws.{HasInductions}
use Rattle.mutual_pack.specs.Inductions.{packed_number}
use Rattle.mutual_pack.specs.MutualFamilies.{Packed, all_constructors}
use Rattle.mutual_pack.specs.Packing.{pack}

-- The signature has the packed family, with the parameters and the types that are given, and the inductions of the members.
pub record HasPackedInductions (S : Signature) (packed : Packed) (f : Family) (analysis : ℕ) : Type 0 where
  pub family : IsEntryAt S (packed_number packed) (FamilyOf f)
  pub regular : IsRegular (family_shape (packed_number packed) f)
  pub parameters : f.parameters ≡ packed.family.parameters
  pub type : family_type f ≡ products packed.family.parameters packed.family.type
  pub constructors : map (constructor_type (packed_number packed) f) f.constructors ≡ map (λ c. products packed.family.parameters c.type) packed.family.constructors
  pub inductions : HasInductions S packed (family_shape (packed_number packed) f) analysis (inductions_in S packed.members)

-- Both sides of the equation of each constructor convert, as one of each member, where no written type mentions the number that the
-- packed family gets.
abbrev pub SidesConvert : Type 0
SidesConvert =
    (S : Signature) (base : ℕ) (d : MutualRaw) (packed : Packed) (f : Family) (analysis : ℕ) → pack base d ≡ Ok packed
    → All (λ c. mentions (base + 1) c.type ≡ false) (all_constructors d.members) → HasPackedInductions S packed f analysis
    → (member con : ℕ) (sides : Telescope × Term × Term) → member < length packed.members → constructor_number packed.owners member con < length f.constructors
    → induction_equation S packed f member con ≡ Ok sides → Converts S sides.1 sides.2
