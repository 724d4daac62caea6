-- The equations of induction are scoped.
use Rattle.std.specs.Prelude.{◌≡◌, Ok, ℕ, ◌+◌, ◌<◌, false, length, All}
use Rattle.theory.specs.Terms.{Term}
use Rattle.theory.specs.Telescopes.{Telescope}
use Rattle.theory.specs.Families.{Family, mentions}
use Rattle.theory.specs.Signatures.{Signature}
use Rattle.theory.specs.SignatureScopes.{IsScoped, IsScopedSignature, IsScopedTelescope}
use Rattle.core_sig.specs.Raw.{MutualRaw}
use Rattle.mutual_pack.specs.EquationLaws.{HasPackedInductions}
use Rattle.mutual_pack.specs.Equations.{constructor_number, induction_equation}
use Rattle.mutual_pack.specs.MutualFamilies.{Packed, all_constructors}
use Rattle.mutual_pack.specs.PackedEntries.{HasPacked}
use Rattle.mutual_pack.specs.Packing.{pack}

-- the types of variables, and two sides over these
pub record AreScopedSides (S : Signature) (sides : Telescope × Term × Term) : Type 0 where
  pub variables : IsScopedTelescope S 0 sides.0
  pub left : IsScoped S (length sides.0) sides.1
  pub right : IsScoped S (length sides.0) sides.2

-- The variables and both sides of each equation are scoped over a scoped signature, where no written type mentions the number that the
-- packed family gets.
abbrev pub SidesAreScoped : Type 0
SidesAreScoped =
    (S : Signature) (base : ℕ) (d : MutualRaw) (packed : Packed) (f : Family) (analysis : ℕ) → pack base d ≡ Ok packed
    → All (λ c. mentions (base + 1) c.type ≡ false) (all_constructors d.members) → HasPackedInductions S packed f analysis → IsScopedSignature S → HasPacked S packed
    → (member con : ℕ) (sides : Telescope × Term × Term) → member < length packed.members → constructor_number packed.owners member con < length f.constructors
    → induction_equation S packed f member con ≡ Ok sides → AreScopedSides S sides
