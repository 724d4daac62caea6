-- Why families that refer to each other are refused.
use Rattle.std.specs.Prelude.{◌≡◌, ◌≢◌, ◌≤◌, ℕ, ◌+◌, false, List, length, slice_get, Some, Ok, Err}
use Rattle.theory.specs.Telescopes.{Telescope}
use Rattle.theory.specs.Terms.{Term, Sort, top}
use Rattle.theory.specs.Signatures.{Signature}
use Rattle.core_sig.specs.Raw.{MutualRaw, RawMember}
use Rattle.core_text.specs.RawEntries.{RawEntry}
use Rattle.family_check.specs.Outcomes.{NotPositive}
use Rattle.kernel_reduce.specs.Comparison.{convertible_of}
use Rattle.kernel_reduce.specs.Reduction.{nesting}
use Rattle.surface_syntax.specs.Trees as surf
use Rattle.surface_syntax.specs.declared.tree.Word.{Word}
use Rattle.resolve.specs.Mutual.{resolve_mutual}
use Rattle.resolve.specs.declared.stop.ResolveStop.{ResolveStop}
use Rattle.elab_session.specs.Entering.{checked, constructor_names}
use Rattle.elab_session.specs.Refusals.{name_in, unresolved}
use Rattle.elab_session.specs.declared.refusal.Refusal.{Refusal}
use Rattle.elab_session.specs.declared.refusal.Refusal.TheVariants as reason
use Rattle.function_session.specs.Declaring.{declared_in}
use Rattle.function_session.specs.Sessions.{Session}
use Rattle.function_session.specs.mutual_families.EquationLines.{equation_of}
use Rattle.function_session.specs.mutual_families.Refusals.{constructor_named, unequal}
use Rattle.mutual_pack.specs.Members.{offence_among}
use Rattle.mutual_pack.specs.MutualFamilies.{Packed}
use Rattle.mutual_pack.specs.Packing.{members_of}
use Rattle.elim.specs.refusal_laws.Causes.{IsDenied}

-- the type is `Type l` for a level that leaves room for two above it
abbrev pub IsLevel : (l : ℕ) → Term → Type 0
IsLevel l type = (type ≡ Sort l) × (l + 2 ≤ top)

-- Member k, counted from 1, has another type than `Type l`, where l is the level of the first one; or it is the first one, and its type is
-- none for such a level.
pub data IsOtherLevel (members : List RawMember) : ℕ → Type 0 where
  first : (m : RawMember) → slice_get members 0 ≡ Some m → ((l : ℕ) → IsLevel l m.type → ⊥) → IsOtherLevel members 1
  later : (m n : RawMember) (l k : ℕ) → slice_get members 0 ≡ Some m → IsLevel l m.type → slice_get members (k + 1) ≡ Some n → n.type ≢ Sort l
      → IsOtherLevel members (k + 2)

-- The sides of the equation of a constructor of a member are shown, and they do not convert with the units that are left there.
pub record IsUnequal (e : Refusal) : Type 0 where
  pub signature : Signature
  pub packed : Packed
  pub k : ℕ
  pub con : ℕ
  pub sides : Telescope × Term × Term
  pub is : equation_of signature packed k con ≡ Ok sides
  pub units : ℕ
  pub apart : (convertible_of signature nesting sides.1 sides.2 units).0 ≡ Ok false
  pub member : List ℕ
  pub name : List ℕ
  pub shown : e ≡ unequal signature member name sides

-- the checker refuses an entry, since argument k of its constructor of this name is not positive
pub record IsNotPositive (name : List ℕ) (k : ℕ) : Type 0 where
  pub signature : Signature
  pub entry : RawEntry
  pub left : ℕ
  pub number : ℕ
  pub refused : (checked signature entry left).0 ≡ Err (NotPositive number k)
  pub named : name ≡ name_in (constructor_names entry) number

-- The cause of a refusal at the resolved declaration, which is not packed: there are not as many tags as members; or a member has another
-- level; or a member stands where it may not, first of all in argument k of the constructor with this name; or something is too high.
abbrev pub PackingCause : Signature → MutualRaw → Refusal → Type 0
PackingCause S raw (reason.TagCount count) = (count ≡ length raw.members) × (length raw.tags ≢ length raw.members)
PackingCause S raw (reason.MemberLevel k) = IsOtherLevel raw.members k
PackingCause S raw (reason.NotPositive name k) =
    (n : ℕ) × (offence_among (members_of (length S.entries) raw) 0 raw.members ≡ Some (n, k)) × (name ≡ constructor_named raw n)
PackingCause S raw reason.Deep = Unit {0}
PackingCause S raw e = ⊥

-- The cause at the checker. There is no condition here on units and heights that ran out, and on what it says of parts and levels.
abbrev pub CheckerCause : Refusal → Type 0
CheckerCause (reason.TagCount count) = ⊥
CheckerCause (reason.MemberLevel k) = ⊥
CheckerCause (reason.NotPositive name k) = IsNotPositive name k
CheckerCause (reason.Unequal member con context left right) = IsUnequal (reason.Unequal member con context left right)
CheckerCause (reason.Rejected entry line place context cause) =
    IsDenied (record { entry = entry; line = line; place = place; context = context; reason = cause })
CheckerCause e = Unit {0}

-- The declaration is refused since a name in it does not resolve, or since it is not packed, or by the checker.
pub data IsRefusedMutual (S : Signature) (d : surf.Decl) (e : Refusal) : Type 0 where
  of_name : (stop : ResolveStop) → resolve_mutual S d ≡ Err stop → e ≡ unresolved stop → IsRefusedMutual S d e
  of_packing : (raw : MutualRaw) → resolve_mutual S d ≡ Ok raw → PackingCause S raw e → IsRefusedMutual S d e
  of_checker : CheckerCause e → IsRefusedMutual S d e

-- each refusal of families that refer to each other has its cause
abbrev pub MutualIsCaused : Type 0
MutualIsCaused =
    (s : Session) (params : List surf.Typed) (members : List surf.Member) (family tag : Word) (tags : List Word) (e : Refusal)
    → declared_in s (surf.Mutual params members family tag tags) ≡ Err e
    → IsRefusedMutual s.signature (surf.Mutual params members family tag tags) e
