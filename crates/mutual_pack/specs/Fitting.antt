-- The conditions under which numbers fit 32 bits.
use Rattle.std.specs.Prelude.{◌+◌, ◌≤◌, ◌<◌, List, [], ◌∷◌, length}
use Rattle.theory.specs.Terms.{height}
use Rattle.core_sig.specs.Raw.{RawConstructor, RawMember}
use Rattle.core_sig.specs.Shapes.{Shape, HaveFewArguments}
use Rattle.mutual_pack.specs.declared.members.Members.{Members}
use Rattle.mutual_pack.specs.declared.packed_family.PackedFamily.{PackedFamily}
use Rattle.mutual_pack.specs.MutualFamilies.{Packed}

-- the entries have numbers, and so have the variables of the types of constructors
pub record AreNear (g : Members) : Type 0 where
  pub entries : g.first + g.count + 2 < 4294967296
  pub params : g.params + 5000 < 4294967296

abbrev pub HaveLowTypes : List RawConstructor → Type 0
HaveLowTypes [] = Unit {0}
HaveLowTypes (c ∷ constructors) = (height c.type ≤ 2000) × HaveLowTypes constructors

-- the types of all constructors are low
abbrev pub AreLowMembers : List RawMember → Type 0
AreLowMembers [] = Unit {0}
AreLowMembers (m ∷ members) = HaveLowTypes m.constructors × AreLowMembers members

-- a packed family whose members and whose telescope are not too many
pub record IsNear (q : PackedFamily) : Type 0 where
  pub tag : q.tag + 2002 < 4294967296
  pub params : q.params ≤ 2000
  pub members : q.members ≤ 2000
  pub constructors : q.constructors ≤ 2000

-- at most 2,000 parameters, constructors, and arguments in each of these
pub record HasFewParts (f : Shape) : Type 0 where
  pub parameters : length f.parameters ≤ 2000
  pub constructors : length f.constructors ≤ 2000
  pub arguments : HaveFewArguments f.constructors

-- over a family with more, or with more members, the induction is too high
pub record FitsInduction (packed : Packed) (f : Shape) : Type 0 where
  pub family : HasFewParts f
  pub members : length packed.members ≤ 2000
