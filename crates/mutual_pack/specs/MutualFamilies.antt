-- Families that refer to each other as one family over tags, over plain terms.
use Rattle.std.specs.Prelude.{ℕ, List, map, flat_map}
use Rattle.theory.specs.Signatures.{Entry}
use Rattle.core_sig.specs.Meanings.{entry_of}
use Rattle.core_sig.specs.Raw.{RawConstructor, RawMember, RawFamily, raw_of}
use Rattle.mutual_pack.specs.declared.packed.Packed.{Packed as PackedOfCode}

-- the constructors of all members, in the written order
abbrev pub all_constructors : List RawMember → List RawConstructor
all_constructors members = flat_map (λ m. m.constructors) members

-- The tag family, the packed family and the definition of each member, in the order in which they enter. For each constructor of the
-- packed family, the member that declares it, counted from 0.
pub record Packed : Type 0 where
  pub tag : RawFamily
  pub family : RawFamily
  pub members : List Entry
  pub owners : List ℕ

abbrev pub packed_of : PackedOfCode → Packed
packed_of p = record { tag = raw_of p.tag; family = raw_of p.family; members = map entry_of p.members; owners = p.owners }
