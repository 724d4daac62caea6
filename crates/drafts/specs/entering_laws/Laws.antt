-- Which signatures drafts may enter.
use Rattle.std.specs.Prelude.{◌≡◌, ℕ, Bool, false, List, length, All, IfOk}
use Rattle.theory.specs.Terms.{Term}
use Rattle.theory.specs.Families.{Family}
use Rattle.theory.specs.Prelude.{prelude}
use Rattle.theory.specs.Signatures.{Signature, FamilyOf, Definition, IsEntryAt}
use Rattle.theory.specs.SignatureScopes.{IsScoped, IsScopedFamily}
use Rattle.theory.specs.WellFormed.{IsWellFormed, pushed}
use Rattle.core_sig.specs.Drafts.{Draft}
use Rattle.core_sig.specs.Raw.{RawFamily, raw_names}
use Rattle.family_check.specs.Entering.{Entered, declare_of, define_of, instance_of, axiom_k_of}
use Rattle.family_check.specs.Scopes.{HasPrelude, IsScopedRaw}
use Rattle.clause_reports.specs.DraftEntering.{enter_draft_of}
use Rattle.drafts.specs.draft_entering.Conditions.{IsOpen, Extends}
use Rattle.drafts.specs.draft_entering.FreeNames.{is_marked, HasUnmarkedNames}

-- no family's and no constructor's name holds a `!`
abbrev pub IsUnmarked : Signature → Type 0
IsUnmarked S = All HasUnmarkedNames S.entries

abbrev pub PreludeIsOpen : Type 0
PreludeIsOpen = (k : Bool) → IsOpen (prelude k) × IsUnmarked (prelude k)

-- The name may be any: a generated entry may have the name of a definition.
abbrev pub DefinitionKeepsOpen : Type 0
DefinitionKeepsOpen =
    (S : Signature) (name : List ℕ) (type body : Term) → IsOpen S → IsScoped S 0 type → IsScoped S 0 body → IsOpen (pushed S (Definition name type body))

-- An open signature may have a family with the name of an entry that another family will generate, so its names are tested too.
abbrev pub FamilyKeepsOpen : Type 0
FamilyKeepsOpen =
    (S : Signature) (f : Family) → IsOpen S → IsUnmarked S → HasUnmarkedNames (FamilyOf f) →
    IsScopedFamily (pushed S (FamilyOf f)) (length S.entries) f → IsOpen (pushed S (FamilyOf f)) × IsUnmarked (pushed S (FamilyOf f))

abbrev pub NamesStayUnmarked : Type 0
NamesStayUnmarked = (S T : Signature) → Extends S T → IsUnmarked S → IsUnmarked T

abbrev pub WellFormedIsOpen : Type 0
WellFormedIsOpen = (S : Signature) → IsWellFormed S → HasPrelude S → IsUnmarked S → IsOpen S

-- S has become T by entries that are no families
pub record StaysOpen (S T : Signature) : Type 0 where
  pub well_formed : IsWellFormed T
  pub ready : IsOpen T
  pub longer : Extends S T

-- The draft may be any: where it enters, the checker has found that all is typed.
abbrev pub EnteredIsOpen : Type 0
EnteredIsOpen =
    (S : Signature) (d : Draft) (left : ℕ) → IsWellFormed S → IsOpen S → IfOk (enter_draft_of S d left).0 (λ e. StaysOpen S e.signature)

-- The entries of a session keep a signature open: a family as declared, instances and definitions.

-- The names that are declared hold no `!`, nor do those that are there.
abbrev pub DeclareKeepsOpen : Type 0
DeclareKeepsOpen =
    (S : Signature) (raw : RawFamily) (left : ℕ) → IsOpen S → IsUnmarked S → IsScopedRaw S raw → All (λ name. is_marked name ≡ false) (raw_names raw) →
    IfOk (declare_of S raw left).0 (λ e. IsOpen e.signature × IsUnmarked e.signature)

-- the new signature is open and has no family more
abbrev pub GoesOnOpen : Signature → Entered → Type 0
GoesOnOpen S e = IsOpen e.signature × Extends S e.signature

abbrev pub DefineKeepsOpen : Type 0
DefineKeepsOpen =
    (S : Signature) (name : List ℕ) (type body : Term) (left : ℕ) → IsOpen S → IsScoped S 0 type → IsScoped S 0 body →
    IfOk (define_of S name type body left).0 (GoesOnOpen S)

abbrev pub InstanceKeepsOpen : Type 0
InstanceKeepsOpen =
    (S : Signature) (n : ℕ) (f : Family) (m left : ℕ) → IsOpen S → IsEntryAt S n (FamilyOf f) → IfOk (instance_of S n f m left).0 (GoesOnOpen S)

abbrev pub AxiomKKeepsOpen : Type 0
AxiomKKeepsOpen = (S : Signature) (i m left : ℕ) → IsOpen S → IfOk (axiom_k_of S i m left).0 (GoesOnOpen S)
