-- Accepted families that refer to each other: the entries that were added, and what their lines say.
use Rattle.std.specs.Prelude.{◌≡◌, ◌<◌, ℕ, ◌+◌, List, [], ◌∷◌, ◌++◌, All, length, slice_get, Some, Ok, IfOk}
use Rattle.theory.specs.Families.{Family}
use Rattle.theory.specs.Terms.{Term}
use Rattle.theory.specs.Telescopes.{Telescope}
use Rattle.theory.specs.Conversion.{Converts}
use Rattle.theory.specs.Signatures.{FamilyOf, Signature, IsEntryAt, IsPrefix}
use Rattle.theory.specs.WellFormed.{IsWellFormed}
use Rattle.core_sig.specs.Drafts.{Draft}
use Rattle.core_sig.specs.Raw.{MutualRaw, RawMember}
use Rattle.core_sig.specs.Settling.{renumbered_entry, settled_number}
use Rattle.surface_syntax.specs.Trees as surf
use Rattle.resolve.specs.DeclaredNames.{declared_word}
use Rattle.resolve.specs.Mutual.{IsMutual, resolve_mutual}
use Rattle.family_check.specs.Laws.{IsAsDeclared}
use Rattle.elab_session.specs.Declaring.{accepted_as}
use Rattle.elab_session.specs.Sessions.{IsReady}
use Rattle.function_session.specs.Elaborating.{Elaborated, declared_of}
use Rattle.function_session.specs.mutual_families.Declaring.{declare_mutual}
use Rattle.function_session.specs.mutual_families.Entering.{EntersDraft, inductions_of}
use Rattle.function_session.specs.mutual_families.EquationLines.{equation_of, mutual_lines}
use Rattle.mutual_pack.specs.MutualFamilies.{Packed}
use Rattle.mutual_pack.specs.Packing.{pack}

-- U has, behind the entries of S, the tag family and the packed family as they are declared, and then the definitions of the members.
pub record HasPackedEntries (S : Signature) (packed : Packed) (U : Signature) : Type 0 where
  pub tag : Family
  pub family : Family
  pub tag_given : IsAsDeclared (length S.entries) packed.tag tag
  pub family_given : IsAsDeclared (length S.entries + 1) packed.family family
  pub entries : U.entries ≡ S.entries ++ FamilyOf tag ∷ FamilyOf family ∷ packed.members
  pub same_k : U.has_k ≡ S.has_k

-- The draft has entered: T has its entry, with the numbers that its names have in the entries before it.
pub record HasEntered (T : Signature) (d : Draft) : Type 0 where
  pub before : Signature
  pub longer : IsPrefix before T
  pub there : IsEntryAt T (length before.entries) (renumbered_entry (settled_number before d.base d.names) d.entry)

-- both sides of the equation of constructor `con` of member k convert
pub record HasEqualSides (T : Signature) (packed : Packed) (k con : ℕ) : Type 0 where
  pub sides : Telescope × Term × Term
  pub is : equation_of T packed k con ≡ Ok sides
  pub converts : Converts T sides.1 sides.2

-- Families that refer to each other were added that are written so. They are packed over the entries before them; what is packed has
-- entered, and so have the inductions of the members. All entries are formed by the rules. There is one line for each constructor of each
-- member, in the written order, and both sides of its equation convert.
pub record IsWrittenMutual (S : Signature) (d : surf.Decl) (a : Elaborated) : Type 0 where
  pub given : MutualRaw
  pub resolved : resolve_mutual S d ≡ Ok given
  pub packed : Packed
  pub is : pack (length S.entries) given ≡ Ok packed
  pub before : Signature
  pub entered : HasPackedEntries S packed before
  pub drafts : List Draft
  pub drafted : inductions_of before packed ≡ Ok drafts
  pub inductions : All (HasEntered a.signature) drafts
  pub longer : IsPrefix before a.signature
  pub formed : IsWellFormed a.signature
  pub accepted : declared_of a ≡ accepted_as (declared_word d).text a.signature
  pub lines : a.lines ≡ []
  pub shown : a.equations ≡ mutual_lines given.members
  pub equations : (k con : ℕ) (m : RawMember) → slice_get given.members k ≡ Some m → con < length m.constructors → HasEqualSides a.signature packed k con

abbrev pub DeclaresMutualAsWritten : EntersDraft → Type 0
DeclaresMutualAsWritten enter =
    (S : Signature) (fuel : ℕ) (d : surf.Decl) → IsMutual d → IsReady S → IfOk (declare_mutual enter S fuel d) (IsWrittenMutual S d)
