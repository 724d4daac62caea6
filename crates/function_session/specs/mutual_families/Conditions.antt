-- The conditions of the phases of a declaration of families that refer to each other.
use Rattle.std.specs.Prelude.{◌≡◌, ◌≢◌, ◌+◌, ◌≤◌, ℕ, None, List, [], ◌∷◌, All, length, Ok}
use Rattle.theory.specs.Families.{Family}
use Rattle.theory.specs.Telescopes.{Telescope}
use Rattle.theory.specs.Terms.{Term, top}
use Rattle.theory.specs.Signatures.{Signature, Entry, Definition, FamilyOf, IsPrefix}
use Rattle.theory.specs.SignatureScopes.{IsFamilyNumber, IsScoped}
use Rattle.theory.specs.WellFormed.{pushed}
use Rattle.core_sig.specs.Drafts.{Draft}
use Rattle.core_sig.specs.Names.{find}
use Rattle.core_sig.specs.Raw.{MutualRaw, RawConstructor, RawMember}
use Rattle.core_text.specs.RawEntries.{RawFamilyOf}
use Rattle.drafts.specs.draft_entering.Conditions.{IsEnterableDraft}
use Rattle.elab_session.specs.Entering.{CanEnter}
use Rattle.family_check.specs.Laws.{IsAsDeclared}
use Rattle.function_session.specs.mutual_families.Entering.{inductions_of}
use Rattle.function_session.specs.mutual_families.EquationLines.{equation_of}
use Rattle.kernel_reduce.specs.WellScoped.{CanReduce}
use Rattle.mutual_pack.specs.Inductions.{level_in, packed_number}
use Rattle.mutual_pack.specs.MutualFamilies.{Packed}
use Rattle.resolve.specs.Scoping.{HasMemberConstants, IsResolvedMutual}

-- A resolved declaration for the end of S. Neither the packed family's name nor that of the tag family is known, and the former is none of
-- those of the tag family and of the tags.
pub record IsDeclared (S : Signature) (d : MutualRaw) : Type 0 where
  pub family : find S d.family ≡ None
  pub tag : find S d.tag ≡ None
  pub apart : All (λ name. d.family ≢ name) (d.tag ∷ d.tags)
  pub scoped : (T : Signature) → IsPrefix S T → HasMemberConstants S T d → IsResolvedMutual S T d

-- a definition whose terms are scoped
abbrev pub IsScopedDefinition : Signature → Entry → Type 0
IsScopedDefinition S (Definition name type body) = IsScoped S 0 type × IsScoped S 0 body
IsScopedDefinition S e = ⊥

abbrev pub AreScopedDefinitions : Signature → List Entry → Type 0
AreScopedDefinitions S entries = All (IsScopedDefinition S) entries

-- A packed declaration can enter: the tag family, the packed family over that, and the definitions of the members over both.
pub record CanEnterPacked (S : Signature) (packed : Packed) : Type 0 where
  pub tag : CanEnter S (RawFamilyOf packed.tag)
  pub family : (t : Family) → IsAsDeclared (length S.entries) packed.tag t → CanEnter (pushed S (FamilyOf t)) (RawFamilyOf packed.family)
  pub members : (t f : Family) → IsAsDeclared (length S.entries) packed.tag t → IsAsDeclared (length S.entries + 1) packed.family f
      → AreScopedDefinitions (pushed (pushed S (FamilyOf t)) (FamilyOf f)) packed.members

-- each draft may enter each signature that begins with S
abbrev pub AreEnterableLater : Signature → List Draft → Type 0
AreEnterableLater S drafts = All (λ d. (T : Signature) → IsPrefix S T → IsEnterableDraft T d) drafts

-- A packed declaration is there, and the inductions of the members may enter.
pub record HasPackedFor (S : Signature) (packed : Packed) : Type 0 where
  pub family : IsFamilyNumber S (packed_number packed)
  pub level : level_in packed.family.type + 2 ≤ top
  pub drafts : (drafts : List Draft) → inductions_of S packed ≡ Ok drafts → AreEnterableLater S drafts

-- the sides of the equation of constructor `con` of member k can be compared
abbrev pub CanCompare : Signature → Packed → (k con : ℕ) → Type 0
CanCompare S packed k con = (sides : Telescope × Term × Term) → equation_of S packed k con ≡ Ok sides → CanReduce S (sides.1 ∷ sides.2 ∷ [])

-- so can those of the constructors of member k from number `con` on
abbrev pub AreComparable : Signature → Packed → (k con : ℕ) → List RawConstructor → Type 0
AreComparable S packed k con [] = Unit {0}
AreComparable S packed k con (c ∷ constructors) = CanCompare S packed k con × AreComparable S packed k (con + 1) constructors

-- and those of the members from k on
abbrev pub AreAllComparable : Signature → Packed → (k : ℕ) → List RawMember → Type 0
AreAllComparable S packed k [] = Unit {0}
AreAllComparable S packed k (m ∷ members) = AreComparable S packed k 0 m.constructors × AreAllComparable S packed (k + 1) members
