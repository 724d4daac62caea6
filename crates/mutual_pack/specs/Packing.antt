-- Families that refer to each other as one family S over the tags t1 .. tn of a family T: with the parameters p, member k is S p tk. The
-- refusals come in their order: the tags are not as many as the members, a member's level is not that of the first, a member stands where
-- it may not.
use Rattle.std.specs.Prelude.{◌≡◌, ℕ, ◌+◌, ◌==◌, nat_le, ◌&&◌, Bool, true, false, cond, Option, Some, None, List, [], ◌∷◌, ◌++◌, length, map, Result, Ok, Err}
use Rattle.std.specs.Option.{option_map_or}
use Rattle.theory.specs.Terms.{Term, Sort, Pi, App, Fam, Con, top}
use Rattle.theory.specs.Telescopes.{Telescope, products, functions}
use Rattle.theory.specs.Signatures.{Entry, Definition}
use Rattle.core_terms.specs.Answers.{and_then, is_low, are_low}
use Rattle.core_terms.specs.declared.stop.Stop.{Stop}
use Rattle.core_terms.specs.declared.stop.Stop.TheVariants.{Deep as TooDeep}
use Rattle.core_sig.specs.ByLevels.{family_at}
use Rattle.core_sig.specs.Raw.{RawConstructor, RawFamily, RawMember, MutualRaw}
use Rattle.mutual_pack.specs.declared.members.Members.{Members}
use Rattle.mutual_pack.specs.declared.stop.MutualStop.{MutualStop}
use Rattle.mutual_pack.specs.declared.stop.MutualStop.TheVariants.{Memory, Deep, TagCount, MemberLevel, NotPositive}
use Rattle.mutual_pack.specs.MutualFamilies.{Packed, all_constructors}
use Rattle.mutual_pack.specs.Members.{whole_member, offence_among}

-- ---- terms. T has the number that stood for the first member, and S the next one.

-- S p tk, for a member k that is counted from 0
abbrev pub tagged : Members → (k depth : ℕ) → Term
tagged g k depth = App (family_at (g.first + 1) g.params depth 0 0) (Con g.first k)

-- Mk p becomes S p tk, under so many binders beyond the parameters
abbrev pub packed_end : Members → (under : ℕ) → Term → Term
packed_end g under t = option_map_or (λ k. tagged g k (g.params + under)) (whole_member g under t) t

-- so it does at the end of an argument's type
abbrev pub packed_argument : Members → (under : ℕ) → Term → Term
packed_argument g under (Pi a b) = Pi a (packed_argument g (under + 1) b)
packed_argument g under t = packed_end g under t

-- and in the type of a constructor, in each argument and in the result
abbrev pub packed_type : Members → (under : ℕ) → Term → Term
packed_type g under (Pi a b) = Pi (packed_argument g under a) (packed_type g (under + 1) b)
packed_type g under t = packed_end g under t

-- ---- families

abbrev pub tag_constructor : Members → (name : List ℕ) → RawConstructor
tag_constructor g name = record { name = name; type = Fam g.first }

-- data T : Type 0 { t1 : T ; .. ; tn : T }
abbrev pub tag_family : Members → (name : List ℕ) (tags : List (List ℕ)) → RawFamily
tag_family g name tags = record { name = name; parameters = []; type = Sort 0; constructors = map (tag_constructor g) tags }

abbrev pub packed_constructor : Members → RawConstructor → RawConstructor
packed_constructor g c = record { name = c.name; type = packed_type g 0 c.type }

-- S, with the parameters, of type T -> Type l, and all constructors
abbrev pub packed_family : Members → (l : ℕ) → MutualRaw → RawFamily
packed_family g l d = record {
  name = d.family;
  parameters = d.parameters;
  type = Pi (Fam g.first) (Sort l);
  constructors = map (packed_constructor g) (all_constructors d.members);
}

-- def Mk : (p) -> Type l = \p. S p tk
abbrev pub member_entry : Members → (l : ℕ) → Telescope → (k : ℕ) → RawMember → Entry
member_entry g l parameters k m = Definition m.name (products parameters (Sort l)) (functions parameters (tagged g k g.params))

-- those of the members from k on
abbrev pub member_entries : Members → (l : ℕ) → Telescope → (k : ℕ) → List RawMember → List Entry
member_entries g l parameters k [] = []
member_entries g l parameters k (m ∷ members) = member_entry g l parameters k m ∷ member_entries g l parameters (k + 1) members

-- the member that declares each constructor, for the members from k on
abbrev pub owners_from : (k : ℕ) → List RawMember → List ℕ
owners_from k [] = []
owners_from k (m ∷ members) = map (λ c. k) m.constructors ++ owners_from (k + 1) members

abbrev pub packed_with : Members → (l : ℕ) → MutualRaw → Packed
packed_with g l d = record {
  tag = tag_family g d.tag d.tags;
  family = packed_family g l d;
  members = member_entries g l d.parameters 0 d.members;
  owners = owners_from 0 d.members;
}

-- ---- refusals

-- the type is `Type l`
abbrev pub is_sort : (l : ℕ) → Term → Bool
is_sort l (Sort i) = i == l
is_sort l t = false

-- the first member, of those from `number` on, with another type than `Type l`
abbrev pub other_level : (l number : ℕ) → List RawMember → Option ℕ
other_level l number [] = None
other_level l number (m ∷ members) = cond (is_sort l m.type) (other_level l (number + 1) members) (Some number)

abbrev pub unless_other : (l : ℕ) → Option ℕ → Result ℕ MutualStop
unless_other l None = Ok l
unless_other l (Some number) = Err (MemberLevel number)

-- l, where it leaves room for two levels above it, and the members after the first one have it too
abbrev pub level_with : (l : ℕ) → List RawMember → Result ℕ MutualStop
level_with l members = cond (nat_le (l + 2) top) (unless_other l (other_level l 2 members)) (Err (MemberLevel 1))

-- the common level of members, the first of which has a type and the others follow it
abbrev pub level_from : (type : Term) → List RawMember → Result ℕ MutualStop
level_from (Sort l) members = level_with l members
level_from type members = Err (MemberLevel 1)

abbrev pub common_level : List RawMember → Result ℕ MutualStop
common_level [] = Ok 0
common_level (m ∷ members) = level_from m.type members

abbrev pub unless_offended : Option (ℕ × ℕ) → Result (Unit {0}) MutualStop
unless_offended None = Ok tt
unless_offended (Some o) = Err (NotPositive o.0 o.1)

-- ---- heights

abbrev pub have_low_types : List RawConstructor → Bool
have_low_types constructors = are_low (map (λ c. c.type) constructors)

-- those of all members are
abbrev pub members_have_low_types : List RawMember → Bool
members_have_low_types [] = true
members_have_low_types (m ∷ members) = have_low_types m.constructors && members_have_low_types members

abbrev pub is_low_entry : Entry → Bool
is_low_entry (Definition name type body) = is_low type && is_low body
is_low_entry e = true

abbrev pub are_low_entries : List Entry → Bool
are_low_entries [] = true
are_low_entries (e ∷ entries) = is_low_entry e && are_low_entries entries

abbrev pub is_low_packed : Packed → Bool
is_low_packed p = have_low_types p.family.constructors && are_low_entries p.members

-- what is packed, or Deep where one of its terms is too high
abbrev pub bounded_packed : Packed → Result Packed MutualStop
bounded_packed p = cond (is_low_packed p) (Ok p) (Err Deep)

-- ---- the call

-- the members of a declaration, over `base` entries
abbrev pub members_of : (base : ℕ) → MutualRaw → Members
members_of base d = record { first = base; count = length d.members; params = length d.parameters }

-- the refusals that nothing rules out: only out of memory
abbrev pub IsUnforeseen : MutualStop → Type 0
IsUnforeseen e = e ≡ Memory

-- a refusal of a call on terms
abbrev pub stopped : Stop → MutualStop
stopped TooDeep = Deep
stopped stop = Memory

-- where the members have the level l
abbrev pub pack_at : Members → (l : ℕ) → MutualRaw → Result Packed MutualStop
pack_at g l d = and_then (unless_offended (offence_among g 0 d.members)) (λ _. bounded_packed (packed_with g l d))

-- where the types of constructors are low
abbrev pub pack_low : Members → MutualRaw → Result Packed MutualStop
pack_low g d =
    cond (length d.tags == length d.members) (and_then (common_level d.members) (λ l. pack_at g l d)) (Err TagCount)

-- one family for all members of a declaration, over `base` entries
abbrev pub pack : (base : ℕ) → MutualRaw → Result Packed MutualStop
pack base d = cond (members_have_low_types d.members) (pack_low (members_of base d) d) (Err Deep)
