-- The signature after each form of declaration: the one before it and the entries that the declaration writes.
use Rattle.std.specs.Prelude.{◌≡◌, ◌<◌, ℕ, List, [], All, length, slice_get, Some, Ok}
use Rattle.theory.specs.Terms.{Term}
use Rattle.theory.specs.Families.{Family}
use Rattle.theory.specs.Signatures.{Definition, FamilyOf, Signature, IsEntryAt, IsPrefix}
use Rattle.theory.specs.WellFormed.{IsDefinition, IsFamily, pushed}
use Rattle.core_sig.specs.Names.{find}
use Rattle.core_sig.specs.Drafts.{Draft}
use Rattle.core_sig.specs.Raw.{MutualRaw, RawFamily, RawMember}
use Rattle.core_sig.specs.declared.entry.Found.TheVariants.{Entry as FoundEntry}
use Rattle.surface_syntax.specs.Trees as surf
use Rattle.surface_syntax.specs.declared.tree.Word.{Word}
use Rattle.resolve.specs.DeclaredNames.{first_name}
use Rattle.resolve.specs.Families.{family}
use Rattle.resolve.specs.Mutual.{resolve_mutual}
use Rattle.resolve.specs.Resolving.{resolve_term}
use Rattle.family_check.specs.Laws.{IsAsDeclared}
use Rattle.clause_reports.specs.elaboration.Functions.{ClauseLine}
use Rattle.function_session.specs.decisions.Laws.{type_of_decision}
use Rattle.function_session.specs.mutual_families.Entering.{inductions_of}
use Rattle.function_session.specs.mutual_families.EquationLines.{MutualLine, mutual_lines}
use Rattle.function_session.specs.mutual_families.Laws.{HasEntered, HasEqualSides, HasPackedEntries}
use Rattle.mutual_pack.specs.MutualFamilies.{Packed}
use Rattle.mutual_pack.specs.Packing.{pack}
use Rattle.elim.specs.written_functions.Functions.{IsByClauses}

-- T is S with one entry more, the definition that is written: its type and its body are the core terms of the written ones;
-- by the typing rules the type has a sort, and the body has the type.
pub record IsDefinitionWritten (S : Signature) (x : Word) (ty body : surf.Surf) (T : Signature) : Type 0 where
  pub type : Term
  pub term : Term
  pub type_resolved : resolve_term S [] ty ≡ Ok type
  pub body_resolved : resolve_term S [] body ≡ Ok term
  pub typed : IsDefinition S type term
  pub added : T ≡ pushed S (Definition x.text type term)

-- T is S with one entry more, the family that is written: it has the names, the parameters and the types of the written one,
-- and is formed by the rules.
pub record IsFamilyWritten (S : Signature) (x : Word) (params : List surf.Typed) (ty : surf.Surf) (cons : List surf.Typed) (T : Signature) : Type 0 where
  pub raw : RawFamily
  pub entry : Family
  pub resolved : family S x params ty cons ≡ Ok raw
  pub given : IsAsDeclared (length S.entries) raw entry
  pub formed : IsFamily S entry
  pub added : T ≡ pushed S (FamilyOf entry)

-- T is S with the entries of a decision of equality: those that its entry needs, and then this, which is a definition. The two names are
-- those of families of S. Its type says that the equality of the one is decided into the other, for decisions of the equality of the
-- parameters; by the typing rules the type has a sort, and the body has the type.
pub record IsDecisionWritten (S : Signature) (x family into : Word) (T : Signature) : Type 0 where
  pub number : ℕ
  pub decided : Family
  pub found : find S family.text ≡ Some (FoundEntry number)
  pub there : IsEntryAt S number (FamilyOf decided)
  pub target : ℕ
  pub target_found : find S into.text ≡ Some (FoundEntry target)
  pub before : Signature
  pub body : Term
  pub longer : IsPrefix S before
  pub typed : IsDefinition before (type_of_decision number decided target) body
  pub added : T ≡ pushed before (Definition x.text (type_of_decision number decided target) body)

-- T has behind the entries of S those of families that refer to each other: the tag family and the packed family, the definitions of the
-- members, and, with the entries that they need, the inductions of the members. These are the ones that the resolved declaration is packed
-- into. There is one equation for each constructor of each member, in the written order, and both its sides convert.
pub record IsMutualWritten (S : Signature) (d : surf.Decl) (T : Signature) (equations : List MutualLine) : Type 0 where
  pub raw : MutualRaw
  pub resolved : resolve_mutual S d ≡ Ok raw
  pub packed : Packed
  pub is : pack (length S.entries) raw ≡ Ok packed
  pub before : Signature
  pub entered : HasPackedEntries S packed before
  pub drafts : List Draft
  pub drafted : inductions_of before packed ≡ Ok drafts
  pub inductions : All (HasEntered T) drafts
  pub longer : IsPrefix before T
  pub shown : equations ≡ mutual_lines raw.members
  pub equal : (k con : ℕ) (m : RawMember) → slice_get raw.members k ≡ Some m → con < length m.constructors → HasEqualSides T packed k con

-- A declaration over the entries of S has the name and comes to T, with the lines of its clauses and the equations of its inductions. Only a
-- function has clauses, and only families that refer to each other have such equations.
abbrev pub IsWritten : Signature → surf.Decl → (name : List ℕ) → (T : Signature) → List ClauseLine → List MutualLine → Type 0
IsWritten S (surf.Def x ty body) name T lines equations = (x.text ≡ name) × (lines ≡ []) × (equations ≡ []) × IsDefinitionWritten S x ty body T
IsWritten S (surf.Data x params ty cons) name T lines equations =
    (x.text ≡ name) × (lines ≡ []) × (equations ≡ []) × IsFamilyWritten S x params ty cons T
IsWritten S (surf.Decide x family into) name T lines equations = (x.text ≡ name) × (lines ≡ []) × (equations ≡ []) × IsDecisionWritten S x family into T
IsWritten S (surf.Mutual params members family tag tags) name T lines equations =
    ((first_name members family).text ≡ name) × (lines ≡ []) × IsMutualWritten S (surf.Mutual params members family tag tags) T equations
IsWritten S (surf.Fun x ty clauses) name T lines equations = (x.text ≡ name) × (equations ≡ []) × IsByClauses S x ty clauses T lines
