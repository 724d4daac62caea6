-- Laws of one declaration: what it keeps, and that it is accepted as it is written.
use Rattle.std.specs.Prelude.{◌≡◌, ℕ, List, [], length, Ok, IfOk}
use Rattle.theory.specs.Terms.{Term}
use Rattle.theory.specs.Families.{Family}
use Rattle.theory.specs.Signatures.{Definition, FamilyOf, Signature, IsPrefix}
use Rattle.theory.specs.WellFormed.{IsDefinition, IsFamily, IsWellFormed, pushed}
use Rattle.core_sig.specs.Raw.{RawFamily}
use Rattle.core_text.specs.RawEntries.{RawEntry}
use Rattle.surface_syntax.specs.Trees as surf
use Rattle.surface_syntax.specs.declared.tree.Word.{Word}
use Rattle.resolve.specs.Families.{family}
use Rattle.resolve.specs.Resolving.{resolve_term}
use Rattle.family_check.specs.Laws.{IsAsDeclared}
use Rattle.elab_session.specs.Adding.{IsAdded}
use Rattle.elab_session.specs.Declaring.{Declared, accepted_as, declare_of}
use Rattle.elab_session.specs.Entering.{CanEnter, enter_of}
use Rattle.elab_session.specs.Sessions.{IsReady}

-- the earlier entries stay
abbrev pub DeclareExtends : Type 0
DeclareExtends = (S : Signature) (fuel : ℕ) (d : surf.Decl) → IfOk (declare_of S fuel d) (λ a. IsPrefix S a.signature)

-- a signature that a session may have stays one
abbrev pub DeclareKeepsReady : Type 0
DeclareKeepsReady =
    (S : Signature) (fuel : ℕ) (d : surf.Decl) → IsReady S → IfOk (declare_of S fuel d) (λ a. IsReady a.signature)

-- One entry was added, the definition that is written: its type and its body are the core terms that the written ones
-- stand for. By the typing rules over the entries before it the type has a sort, and the body has the type.
pub record IsWrittenDefinition (S : Signature) (x : Word) (ty body : surf.Surf) (a : Declared) : Type 0 where
  pub type : Term
  pub term : Term
  pub type_resolved : resolve_term S [] ty ≡ Ok type
  pub body_resolved : resolve_term S [] body ≡ Ok term
  pub accepted : a ≡ accepted_as x.text (pushed S (Definition x.text type term))
  pub typed : IsDefinition S type term

-- One entry was added, the family that is written: it has the names, the parameters and the types that the written ones
-- stand for, and is formed by the rules over the entries before it.
pub record IsWrittenFamily (S : Signature) (x : Word) (params : List surf.Typed) (ty : surf.Surf) (cons : List surf.Typed) (a : Declared) : Type 0 where
  pub raw : RawFamily
  pub entry : Family
  pub resolved : family S x params ty cons ≡ Ok raw
  pub given : IsAsDeclared (length S.entries) raw entry
  pub accepted : a ≡ accepted_as x.text (pushed S (FamilyOf entry))
  pub formed : IsFamily S entry

abbrev pub IsAsWritten : Signature → surf.Decl → Declared → Type 0
IsAsWritten S (surf.Def x ty body) a = IsWrittenDefinition S x ty body a
IsAsWritten S (surf.Data x params ty cons) a = IsWrittenFamily S x params ty cons a
IsAsWritten S _ a = ⊥

abbrev pub DeclaresAsWritten : Type 0
DeclaresAsWritten =
    (S : Signature) (fuel : ℕ) (d : surf.Decl) → IsWellFormed S → IfOk (declare_of S fuel d) (IsAsWritten S d)

-- An entry of a core file that enters extends the signature.

abbrev pub EnterExtends : Type 0
EnterExtends = (S : Signature) (fuel : ℕ) (raw : RawEntry) → IfOk (enter_of S fuel raw) (λ x. IsPrefix S x.signature)

-- an entry that is accepted is added
abbrev pub EnterAdds : Type 0
EnterAdds = (S : Signature) (fuel : ℕ) (raw : RawEntry) → IfOk (enter_of S fuel raw) (λ x. IsAdded S raw x.signature)

abbrev pub EnterKeepsReady : Type 0
EnterKeepsReady =
    (S : Signature) (fuel : ℕ) (raw : RawEntry) → IsReady S → CanEnter S raw → IfOk (enter_of S fuel raw) (λ x. IsReady x.signature)
