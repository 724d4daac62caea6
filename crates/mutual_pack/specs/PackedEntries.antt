-- The packed entries in a signature.
use Rattle.std.specs.Prelude.{ℕ, ◌+◌, ◌<◌, length}
use Rattle.theory.specs.Signatures.{Signature}
use Rattle.theory.specs.SignatureScopes.{IsConstantNumber, IsConstructorNumber, IsFamilyNumber}
use Rattle.mutual_pack.specs.Inductions.{tag_number, packed_number}
use Rattle.mutual_pack.specs.MutualFamilies.{Packed}

-- the signature has the packed family, a tag for each member, and the definitions of the members, with the numbers that are given them
pub record HasPacked (S : Signature) (packed : Packed) : Type 0 where
  pub family : IsFamilyNumber S (packed_number packed)
  pub tags : (k : ℕ) → k < length packed.members → IsConstructorNumber S (tag_number packed.family.type) k
  pub members : (k : ℕ) → k < length packed.members → IsConstantNumber S (tag_number packed.family.type + 2 + k)
