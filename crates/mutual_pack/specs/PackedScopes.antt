-- The packed entries are scoped where the written types are.
use Rattle.std.specs.Prelude.{◌≡◌, Ok, ℕ, ◌+◌, ◌<◌, length, All}
use Rattle.theory.specs.Signatures.{Signature, IsPrefix}
use Rattle.theory.specs.SignatureScopes.{IsConstantNumber, IsConstructorNumber, IsFamilyNumber, IsScoped}
use Rattle.core_sig.specs.Raw.{MutualRaw}
use Rattle.mutual_pack.specs.MutualFamilies.{Packed, all_constructors}
use Rattle.mutual_pack.specs.Packing.{pack}

-- The written types of constructors are scoped over each signature that begins with S and then has a constant for each member.
abbrev pub AreScopedMembers : Signature → MutualRaw → Type 0
AreScopedMembers S d =
    (U : Signature) → IsPrefix S U → ((k : ℕ) → k < length d.members → IsConstantNumber U (length S.entries + k))
    → All (λ c. IsScoped U (length d.parameters) c.type) (all_constructors d.members)

-- the signature has the tag family as entry `base`, with a constructor for each member, and then the packed family
pub record HasPackedFamilies (T : Signature) (base members : ℕ) : Type 0 where
  pub family : IsFamilyNumber T (base + 1)
  pub tags : (k : ℕ) → k < members → IsConstructorNumber T base k

-- The types of constructors of the packed family are scoped over each signature that begins with S and has these.
abbrev pub PackedIsScoped : Type 0
PackedIsScoped =
    (S T : Signature) (d : MutualRaw) (packed : Packed) → pack (length S.entries) d ≡ Ok packed → AreScopedMembers S d → IsPrefix S T → HasPackedFamilies T (length S.entries) (length d.members)
    → All (λ c. IsScoped T (length d.parameters) c.type) packed.family.constructors
