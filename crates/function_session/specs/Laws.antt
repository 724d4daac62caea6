-- The laws of one declaration: the signature stays that of a session, and an accepted declaration is as written.
use Rattle.std.specs.Prelude.{◌≡◌, ℕ, ◌+◌, List, [], ◌∷◌, ◌++◌, map, Ok, IfOk}
use Rattle.theory.specs.Terms.{Term}
use Rattle.theory.specs.Signatures.{Definition, Signature, IsPrefix}
use Rattle.theory.specs.Typing.{HasSort}
use Rattle.theory.specs.WellFormed.{IsDefinition, IsWellFormed, pushed}
use Rattle.core_terms.specs.Clauses as clause
use Rattle.core_terms.specs.Clauses.{Clause, Clauses, Right, Is}
use Rattle.surface_syntax.specs.Trees as surf
use Rattle.surface_syntax.specs.declared.tree.Word.{Word}
use Rattle.resolve.specs.Functions.{Function, function}
use Rattle.resolve.specs.Resolving.{resolve_term}
use Rattle.core_sig.specs.Drafts.{Draft}
use Rattle.tree_translation.specs.Entries.{translate}
use Rattle.tree_translation.specs.Plans.{Plan}
use Rattle.tree_translation.specs.Naming.{part_named}
use Rattle.clause_reports.specs.elaboration.Functions.{planned_of}
use Rattle.clause_reports.specs.elaboration.Refusals.{Owner, owner_of}
use Rattle.elab_session.specs.Declaring.{accepted_as}
use Rattle.elab_session.specs.Laws as session
use Rattle.elab_session.specs.Sessions.{IsReady}
use Rattle.function_session.specs.Declaring.{declared_in, session_after}
use Rattle.function_session.specs.Elaborating.{Elaborated, declared_of, elaborate_of}
use Rattle.function_session.specs.Evidence.{AreLinesOf, line_owner, references_from}
use Rattle.function_session.specs.Sessions.{Session}
use Rattle.function_session.specs.decisions.Laws.{HoldsDecisions, IsWrittenDecision}
use Rattle.function_session.specs.mutual_families.Laws.{IsWrittenMutual}

-- After a declaration the signature is again one that a session may have, and the earlier entries stay.
pub record KeepsReady (S : Signature) (a : Elaborated) : Type 0 where
  pub longer : IsPrefix S a.signature
  pub ready : IsReady a.signature

abbrev pub ElaborateKeepsReady : Type 0
ElaborateKeepsReady = (S : Signature) (fuel : ℕ) (d : surf.Decl) → IsReady S → IfOk (elaborate_of S fuel d) (KeepsReady S)

-- ---- the clauses of a function

-- The clauses inside each `with` of some clauses, in the order in which they are written: those of an outer one come before those inside
-- it.
abbrev mutual
  pub inner : Clauses → List Clauses
  inner clause.nil = []
  inner (clause.cons c clauses) = inner_of c ++ inner clauses

  pub inner_of : Clause → List Clauses
  inner_of (Is pats binds right) = inner_right right

  pub inner_right : Right → List Clauses
  inner_right (clause.Side side) = []
  inner_right (clause.With scrutinee clauses) = clauses ∷ inner clauses
  inner_right clause.Absurd = []

-- the clauses of part k from clause `number` on, by the names of the function's parts
abbrev pub owners : (name : List ℕ) → (k number : ℕ) → Clauses → List Owner
owners name k number clause.nil = []
owners name k number (clause.cons c clauses) = owner_of (part_named name k) number ∷ owners name k (number + 1) clauses

-- the clauses of the parts from part k on, by the names of the function's parts
abbrev pub owners_from : (name : List ℕ) → (k : ℕ) → List Clauses → List Owner
owners_from name k [] = []
owners_from name k (clauses ∷ parts) = owners name k 0 clauses ++ owners_from name (k + 1) parts

-- each clause of a function, those inside `with` included
abbrev pub clause_owners : Function → List Owner
clause_owners f = owners_from f.name 0 (f.clauses ∷ inner f.clauses)

-- ---- accepted declarations

-- A function was added that is written by clauses. Its type is the core term to which the written one is resolved, and by the typing rules
-- over the entries before it has a sort. All new entries are formed by the rules over those before them. One of them is the function, a
-- definition with the declared name and exactly this type. Each clause has one line, in the order of the clauses, and the statement of the
-- line holds of the clause in the plan of the function, which is that of the run with these units. The function's entries are the drafts
-- that the plan translates to.
pub record IsWrittenFunction (S : Signature) (fuel : ℕ) (x : Word) (ty : surf.Surf) (clauses : surf.Clauses) (a : Elaborated) : Type 0 where
  pub given : Function
  pub resolved : function S x ty clauses ≡ Ok given
  pub type_resolved : resolve_term S [] ty ≡ Ok given.type
  pub type_sort : HasSort S [] given.type
  pub before : Signature
  pub body : Term
  pub longer : IsPrefix S before
  pub typed : IsDefinition before given.type body
  pub entered : IsPrefix (pushed before (Definition x.text given.type body)) a.signature
  pub formed : IsWellFormed a.signature
  pub accepted : declared_of a ≡ accepted_as x.text a.signature
  pub lines : map line_owner a.lines ≡ clause_owners given
  pub plan : Plan
  pub planned : (planned_of S given fuel).0 ≡ Ok plan
  pub drafts : List Draft
  pub translated : translate S plan ≡ Ok drafts
  pub evidence : AreLinesOf (pushed before (Definition x.text given.type body)) a.signature plan (references_from 0 plan.parts) a.lines

-- a definition or a family is as written, and has no clauses
pub record IsWrittenPlainly (S : Signature) (d : surf.Decl) (a : Elaborated) : Type 0 where
  pub written : session.IsAsWritten S d (declared_of a)
  pub lines : a.lines ≡ []

abbrev pub IsAsWritten : Signature → (fuel : ℕ) → surf.Decl → Elaborated → Type 0
IsAsWritten S fuel (surf.Fun x ty clauses) a = IsWrittenFunction S fuel x ty clauses a
IsAsWritten S fuel d a = IsWrittenPlainly S d a

abbrev pub ElaboratesAsWritten : Type 0
ElaboratesAsWritten = (S : Signature) (fuel : ℕ) (d : surf.Decl) → IsReady S → IfOk (elaborate_of S fuel d) (IsAsWritten S fuel d)

-- ---- declarations in a session

abbrev pub DeclareKeepsReady : Type 0
DeclareKeepsReady = (s : Session) (d : surf.Decl) → IsReady s.signature → IfOk (declared_in s d) (KeepsReady s.signature)

-- After a declaration, accepted or not, the decisions of the session are there.
abbrev pub DeclareHoldsDecisions : Type 0
DeclareHoldsDecisions = (s : Session) (d : surf.Decl) → IsReady s.signature → HoldsDecisions s → HoldsDecisions (session_after s d (declared_in s d))

abbrev pub IsAsDeclared : Session → surf.Decl → Elaborated → Type 0
IsAsDeclared s (surf.Decide x family into) a = IsWrittenDecision s x family into a
IsAsDeclared s (surf.Mutual params members family tag tags) a = IsWrittenMutual s.signature (surf.Mutual params members family tag tags) a
IsAsDeclared s d a = IsAsWritten s.signature s.fuel d a

abbrev pub DeclaresAsWritten : Type 0
DeclaresAsWritten = (s : Session) (d : surf.Decl) → IsReady s.signature → IfOk (declared_in s d) (IsAsDeclared s d)
