-- Families that refer to each other as they are packed, why they are not, and which names there are then.
use Rattle.std.proofs.Common.{◌≡◌, ℕ, ◌+◌, ◌==◌, Bool, true, false, cond, Option, Some, None, List, [], ◌∷◌, ◌++◌, length, map, Result, Ok, Err, refl, subst}
use Rattle.theory.specs.Terms.{Term, Sort, Var, Pi, Lam, App, Let, Const, Fam, Con, Elim, AxiomK}
use Rattle.theory.specs.Telescopes.{Telescope}
use Rattle.theory.specs.Families.{Family}
use Rattle.theory.specs.Signatures.{Signature}
use Rattle.core_terms.specs.Answers.{and_then}
use Rattle.core_terms.specs.declared.stop.Stop.{Stop}
use Rattle.core_terms.specs.declared.stop.Stop.TheVariants.{Deep}
use Rattle.core_terms.proofs.Answers.{Splits, and_then-splits}
use Rattle.core_sig.specs.Drafts.{Draft, drafted}
use Rattle.core_sig.specs.FamilyShapes.{family_shape}
use Rattle.core_sig.specs.Raw.{MutualRaw, RawConstructor, RawMember}
use Rattle.core_sig.specs.Shapes.{Shape}
use Rattle.core_text.specs.RawEntries.{RawEntry, RawFamilyOf, RawDefinition, entry_shown}
use Rattle.clause_reports.proofs.Keeping.{Any}
use Rattle.kernel_reduce.specs.Entries.{family_at}
use Rattle.function_session.specs.mutual_families.Entering.{inductions_of, inductions_over, packed_entries}
use Rattle.mutual_pack.specs.Inductions.{analysis_name, induction_entries_from, induction_entry, induction_name, induction_term, induction_type, packed_number, packed_numbers}
use Rattle.mutual_pack.specs.Members.{offence_among}
use Rattle.mutual_pack.specs.MutualFamilies.{Packed, all_constructors}
use Rattle.mutual_pack.specs.Packing.{bounded_packed, common_level, is_low_packed, level_from, member_entries, members_have_low_types, members_of, other_level, pack, pack_at, pack_low, packed_constructor, packed_with, tag_constructor, unless_offended, unless_other}
use Rattle.mutual_pack.specs.declared.members.Members.{Members}
use Rattle.mutual_pack.specs.declared.stop.MutualStop.{MutualStop}
use Rattle.mutual_pack.specs.declared.stop.MutualStop.TheVariants as stop
use Rattle.surface_syntax.specs.word_laws.Words.{Each}

-- ---- what is packed

-- the declaration as one family, whose members have the level l, after the entries of S
abbrev pub packed_at : Signature → MutualRaw → (l : ℕ) → Packed
packed_at S raw l = packed_with (members_of (length S.entries) raw) l raw

abbrev pub IsPackedAt : Signature → MutualRaw → Packed → Type 0
IsPackedAt S raw packed = (l : ℕ) × (packed ≡ packed_at S raw l)

-- the refusal is not out of memory
abbrev pub IsForeseenPacking : MutualStop → Type 0
IsForeseenPacking stop.Memory = ⊥
IsForeseenPacking _ = Unit {0}

either : {A E : Type 0} (P : A → Type 0) (N : E → Type 0) (b : Bool) (x y : Result A E) → Splits P N x → Splits P N y → Splits P N (cond b x y)
either P N true x y h k = h
either P N false x y h k = k

other-splits : (l : ℕ) (o : Option ℕ) → Splits Any IsForeseenPacking (unless_other l o)
other-splits l None = tt
other-splits l (Some n) = tt

level-splits : (type : Term) (members : List RawMember) → Splits Any IsForeseenPacking (level_from type members)
level-splits (Sort l) members =
    either Any IsForeseenPacking _ (unless_other l (other_level l 2 members)) (Err (stop.MemberLevel 1)) (other-splits l (other_level l 2 members)) tt
level-splits (Var n) members = tt
level-splits (Pi a b) members = tt
level-splits (Lam a b) members = tt
level-splits (App a b) members = tt
level-splits (Let a b c) members = tt
level-splits (Const n) members = tt
level-splits (Fam n) members = tt
level-splits (Con n c) members = tt
level-splits (Elim n m) members = tt
level-splits (AxiomK i m) members = tt

common-splits : (members : List RawMember) → Splits Any IsForeseenPacking (common_level members)
common-splits [] = tt
common-splits (m ∷ members) = level-splits m.type members

offended-splits : (o : Option (ℕ × ℕ)) → Splits Any IsForeseenPacking (unless_offended o)
offended-splits None = tt
offended-splits (Some o) = tt

pub packs : (S : Signature) (raw : MutualRaw) → Splits (IsPackedAt S raw) IsForeseenPacking (pack (length S.entries) raw)
packs S raw =
    let g = members_of (length S.entries) raw in
    let P = IsPackedAt S raw in
    let N = IsForeseenPacking in
    either P N (members_have_low_types raw.members) (pack_low g raw) (Err stop.Deep)
    (either P N (length raw.tags == length raw.members) (and_then (common_level raw.members) (λ l. pack_at g l raw)) (Err stop.TagCount)
    (and_then-splits Any P N (common_level raw.members) (λ l. pack_at g l raw) (common-splits raw.members) (λ l u.
    and_then-splits Any P N (unless_offended (offence_among g 0 raw.members)) (λ v. bounded_packed (packed_with g l raw)) (offended-splits (offence_among g 0 raw.members)) (λ v w.
    either P N (is_low_packed (packed_with g l raw)) (Ok (packed_with g l raw)) (Err stop.Deep) (l, refl) tt))) tt) tt

pub packing-foreseen : (S : Signature) (raw : MutualRaw) (e : MutualStop) → pack (length S.entries) raw ≡ Err e → IsForeseenPacking e
packing-foreseen S raw e is = subst (λ r. Splits (IsPackedAt S raw) IsForeseenPacking r) is (packs S raw)

-- ---- names

abbrev pub MemberIs : (List ℕ → Type 0) → RawMember → Type 0
MemberIs W m = W m.name × Each (λ c. W c.name) m.constructors

-- each name that is declared is one of W
pub record NamesAre (W : List ℕ → Type 0) (raw : MutualRaw) : Type 0 where
  pub members : Each (MemberIs W) raw.members
  pub family : W raw.family
  pub tag : W raw.tag
  pub tags : Each W raw.tags

-- all names will do
all-members : (members : List RawMember) → Each (MemberIs Any) members
all-members [] = tt
all-members (m ∷ members) = ((tt, all-of m.constructors), all-members members)
  where
    all-of : (constructors : List RawConstructor) → Each (λ c. Any c.name) constructors
    all-of [] = tt
    all-of (c ∷ constructors) = (tt, all-of constructors)

pub any-names : (raw : MutualRaw) → NamesAre Any raw
any-names raw = record { members = all-members raw.members; family = tt; tag = tt; tags = all-tags raw.tags }
  where
    all-tags : (tags : List (List ℕ)) → Each Any tags
    all-tags [] = tt
    all-tags (t ∷ tags) = (tt, all-tags tags)

-- so is each of an entry, and the number of a family's parameters is one of Few
abbrev pub EntryIs : (List ℕ → Type 0) → (ℕ → Type 0) → RawEntry → Type 0
EntryIs W Few (RawFamilyOf raw) = W raw.name × Few (length raw.parameters) × Each (λ c. W c.name) raw.constructors
EntryIs W Few (RawDefinition name type body) = W name
EntryIs W Few _ = ⊥

module _ (W : List ℕ → Type 0) where
  tags-are : (g : Members) (tags : List (List ℕ)) → Each W tags → Each (λ c. W c.name) (map (tag_constructor g) tags)
  tags-are g [] h = tt
  tags-are g (t ∷ tags) h = (h.0, tags-are g tags h.1)

  joined : (cs ds : List RawConstructor) → Each (λ c. W c.name) cs → Each (λ c. W c.name) ds → Each (λ c. W c.name) (cs ++ ds)
  joined [] ds h k = k
  joined (c ∷ cs) ds h k = (h.0, joined cs ds h.1 k)

  constructors-are : (members : List RawMember) → Each (MemberIs W) members → Each (λ c. W c.name) (all_constructors members)
  constructors-are [] h = tt
  constructors-are (m ∷ members) h = joined m.constructors (all_constructors members) h.0.1 (constructors-are members h.1)

  packed-are : (g : Members) (cs : List RawConstructor) → Each (λ c. W c.name) cs → Each (λ c. W c.name) (map (packed_constructor g) cs)
  packed-are g [] h = tt
  packed-are g (c ∷ cs) h = (h.0, packed-are g cs h.1)

  members-are : (Few : ℕ → Type 0) (g : Members) (l : ℕ) (parameters : Telescope) (k : ℕ) (members : List RawMember) → Each (MemberIs W) members
      → Each (EntryIs W Few) (map (entry_shown 0) (member_entries g l parameters k members))
  members-are Few g l parameters k [] h = tt
  members-are Few g l parameters k (m ∷ members) h = (h.0.0, members-are Few g l parameters (k + 1) members h.1)

  pub entries-are : (Few : ℕ → Type 0) → Few 0 → (S : Signature) (raw : MutualRaw) → NamesAre W raw → Few (length raw.parameters) → (l : ℕ)
      → Each (EntryIs W Few) (packed_entries (packed_at S raw l))
  entries-are Few none S raw h few l =
      let g = members_of (length S.entries) raw in (
        (h.tag, none, tags-are g raw.tags h.tags),
        ((h.family, few, packed-are g (all_constructors raw.members) (constructors-are raw.members h.members)), members-are Few g l raw.parameters 0 raw.members h.members),
      )

  -- ---- inductions

  inductions-are : (D : Draft → Type 0) (N : Stop → Type 0) → N Deep
      → ((member : List ℕ) → W member → (base : ℕ) (names : List (List ℕ)) (type term : Term) → Splits D N (drafted (induction_name member) base names type term))
      → (base : ℕ) (packed : Packed) (f : Shape) (g : Members) (l : ℕ) (parameters : Telescope) (k : ℕ) (members : List RawMember) → Each (MemberIs W) members
      → Splits (Each D) N (induction_entries_from base packed f k (member_entries g l parameters k members))
  inductions-are D N deep made base packed f g l parameters k [] h = tt
  inductions-are D N deep made base packed f g l parameters k (m ∷ members) h =
      and_then-splits D (Each D) N (induction_entry base packed f k m.name) _
      (made m.name h.0.0 base (analysis_name packed ∷ []) (induction_type (packed_numbers packed f) packed.owners f k) (induction_term (packed_numbers packed f) packed.owners f base k)) (λ entry one.
      and_then-splits (Each D) (Each D) N (induction_entries_from base packed f (k + 1) (member_entries g l parameters (k + 1) members)) _
      (inductions-are D N deep made base packed f g l parameters (k + 1) members h.1) (λ rest others. (one, others)))

  pub drafts-are : (D : Draft → Type 0) (N : Stop → Type 0) → N Deep
      → ((member : List ℕ) → W member → (base : ℕ) (names : List (List ℕ)) (type term : Term) → Splits D N (drafted (induction_name member) base names type term))
      → (S : Signature) (raw : MutualRaw) → NamesAre W raw → (l : ℕ) (U : Signature) → Splits (Each D) N (inductions_of U (packed_at S raw l))
  drafts-are D N deep made S raw h l U = by (family_at U (packed_number (packed_at S raw l)))
    where
      by : (o : Option Family) → Splits (Each D) N (inductions_over U (packed_at S raw l) o)
      by (Some f) =
          inductions-are D N deep made (length U.entries) (packed_at S raw l) (family_shape (packed_number (packed_at S raw l)) f) (members_of (length S.entries) raw) l raw.parameters 0
          raw.members h.members
      by None = deep
