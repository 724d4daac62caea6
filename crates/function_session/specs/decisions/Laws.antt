-- An accepted decision is as written, and the decisions of a session stay there.
use Rattle.std.specs.Prelude.{◌≡◌, ℕ, List, [], All, length, Ok}
use Rattle.theory.specs.Families.{Family}
use Rattle.theory.specs.Terms.{Term}
use Rattle.theory.specs.Signatures.{Definition, FamilyOf, Signature, IsEntryAt, IsPrefix}
use Rattle.theory.specs.WellFormed.{IsDefinition, IsWellFormed, pushed}
use Rattle.core_sig.specs.Drafts.{Draft}
use Rattle.core_sig.specs.FamilyShapes.{family_shape}
use Rattle.core_sig.specs.Settling.{renumbered_entry, settled_number}
use Rattle.decide_eq.specs.DecisionEntries.{decided_family, decision_entry}
use Rattle.decide_eq.specs.PlainFamilies.{plain_family}
use Rattle.decide_eq.specs.Statements.{decision_type}
use Rattle.elab_session.specs.Declaring.{accepted_as}
use Rattle.surface_syntax.specs.declared.tree.Word.{Word}
use Rattle.function_session.specs.Elaborating.{Elaborated, declared_of}
use Rattle.function_session.specs.Sessions.{Session}
use Rattle.function_session.specs.decisions.Known.{known_into}
use Rattle.function_session.specs.decisions.Naming.{named}
use Rattle.function_session.specs.declared.decisions.decision.Decision.{Decision}
use Rattle.function_session.specs.declared.decisions.naming.Named.{Named}

-- (p) -> (d_j : (x : p_j) -> (y : p_j) -> E (Eq.l p_j x y)) -> (x : D p) -> (y : D p) -> E (Eq.l (D p) x y), for family number n, which
-- is f, and family number `into`
abbrev pub type_of_decision : (n : ℕ) (f : Family) (into : ℕ) → Term
type_of_decision n f into = decision_type (decided_family 0 n (family_shape n f) into) (family_shape n f).parameters

-- A decision was added to a session. Its names stand for a family whose equality can be decided into the other one, where the decisions
-- into that one that the session accepted are known. Its entry comes last; it is the definition with the declared name that is made of
-- the family, with the numbers that its names have in the signature before it, and has the type that says that the equality of the family is
-- decided. By the typing rules over the entries before it the type has a sort, and the body has the type.
pub record IsWrittenDecision (s : Session) (x family into : Word) (a : Elaborated) : Type 0 where
  pub given : Named
  pub resolved : named s.signature x family into ≡ Ok given
  pub decided : Family
  pub there : IsEntryAt s.signature given.family (FamilyOf decided)
  pub plain : plain_family s.signature given.family given.into (known_into given.into s.decisions) ≡ Ok tt
  pub draft : Draft
  pub drafted : decision_entry (length s.signature.entries) x.text given.family decided given.into (known_into given.into s.decisions) ≡ Ok draft
  pub before : Signature
  pub body : Term
  pub longer : IsPrefix s.signature before
  pub settled : renumbered_entry (settled_number before draft.base draft.names) draft.entry ≡ Definition x.text (type_of_decision given.family decided given.into) body
  pub typed : IsDefinition before (type_of_decision given.family decided given.into) body
  pub accepted : declared_of a ≡ accepted_as x.text (pushed before (Definition x.text (type_of_decision given.family decided given.into) body))
  pub formed : IsWellFormed a.signature
  pub lines : a.lines ≡ []

-- The decision is there: its entry is a definition with the type that says so.
pub record IsHeld (S : Signature) (d : Decision) : Type 0 where
  pub decided : Family
  pub there : IsEntryAt S d.family (FamilyOf decided)
  pub name : List ℕ
  pub body : Term
  pub entry : IsEntryAt S d.entry (Definition name (type_of_decision d.family decided d.into) body)

-- each decision of the session is there
abbrev pub HoldsDecisions : Session → Type 0
HoldsDecisions s = All (IsHeld s.signature) s.decisions
