-- Whatever is declared, its entries are accepted one by one.
use Rattle.std.proofs.Common.{ℕ, List, [], IfOk, subst as transport, arith}
use Rattle.theory.specs.Signatures.{Signature}
use Rattle.surface_syntax.specs.Trees as surf
use Rattle.surface_syntax.specs.declared.tree.Word.{Word}
use Rattle.core_terms.proofs.Answers.{Answers, and_next-has, and_then-is}
use Rattle.core_sig.specs.Drafts.{Draft}
use Rattle.core_text.specs.RawEntries.{RawEntry, RawFamilyOf, RawEliminator, RawAxiomK, RawDefinition}
use Rattle.resolve.specs.Families.{declared, family}
use Rattle.resolve.specs.Resolving.{resolve_term}
use Rattle.family_check.specs.Entering.{Entered}
use Rattle.clause_reports.specs.DraftEntering.{enter_draft_of}
use Rattle.clause_reports.specs.elaboration.Refusals.{owner_of, reporting}
use Rattle.clause_reports.proofs.elaboration.Keeping.{no_report-has}
use Rattle.elab_session.specs.Declaring.{Declared, declare_of, resolve_definition, resolve_entry, resolve_family}
use Rattle.elab_session.specs.Entering.{checked}
use Rattle.elab_session.proofs.Resolved.{declare-has, or_unresolved-has}
use Rattle.function_session.specs.Elaborating.{Elaborated, elaborate_function}
use Rattle.function_session.specs.function_lines.Opened.{checked_entered}
use Rattle.function_session.proofs.Keeping.{without_lines-has, function-has}
use Rattle.function_session.proofs.DeclaredDecisions.{decision-has}
use Rattle.elim.specs.refusal_laws.accepted_laws.Checked.{Checked}
use Rattle.elim.specs.refusal_laws.accepted_laws.Laws.{DeclareIsChecked, ElaborateIsChecked}
use Rattle.elim.proofs.refusal_laws.accepted_laws.Drafts.{entering-is-checked}
use Rattle.elim.proofs.refusal_laws.accepted_laws.Families.{family-checked}
use Rattle.elim.proofs.refusal_laws.accepted_laws.Functions.{function-is-checked}
use Rattle.elim.proofs.refusal_laws.accepted_laws.MutualFamilies.{mutual-checked}
use Rattle.elim.proofs.refusal_laws.accepted_laws.Steps.{define-checked}

abbrev CheckedAfter : ℕ → Signature → Declared → Type 0
CheckedAfter fuel S d = Checked fuel S d.signature

abbrev CheckedAll : ℕ → Signature → Elaborated → Type 0
CheckedAll fuel S a = Checked fuel S a.signature

-- the entry of a declaration is no instance
abbrev IsNoInstance : RawEntry → Type 0
IsNoInstance (RawFamilyOf raw) = Unit {0}
IsNoInstance (RawDefinition name type body) = Unit {0}
IsNoInstance _ = ⊥

no-instance : (S : Signature) (d : surf.Decl) → IfOk (resolve_entry S d) IsNoInstance
no-instance S (surf.Def x ty body) =
    or_unresolved-has IsNoInstance (resolve_definition S x ty body)
    (and_then-is IsNoInstance (declared S [] x) _ (λ name named.
    and_then-is IsNoInstance (resolve_term S [] ty) _ (λ type typed.
    and_then-is IsNoInstance (resolve_term S [] body) _ (λ term is. tt))))
no-instance S (surf.Data x params ty cons) =
    or_unresolved-has IsNoInstance (resolve_family S x params ty cons) (and_then-is IsNoInstance (family S x params ty cons) _ (λ raw is. tt))
no-instance S (surf.Decide x of decision) = tt
no-instance S (surf.Mutual params members whole tag tags) = tt
no-instance S (surf.Fun x ty clauses) = tt

plain-checked : (S : Signature) (fuel : ℕ) (d : surf.Decl) → IfOk (declare_of S fuel d) (CheckedAfter fuel S)
plain-checked S fuel d = declare-has IsNoInstance (CheckedAfter fuel S) S fuel d (no-instance S d) by
  where
    by : (raw : RawEntry) → IsNoInstance raw → Answers (λ e. Checked fuel S e.signature) (checked S raw fuel)
    by (RawFamilyOf raw) h = family-checked S raw fuel fuel (omega arith)
    by (RawDefinition name type body) h = (define-checked S name type body fuel fuel (omega arith)).0
    by (RawEliminator n m) h = absurd h
    by (RawAxiomK i m) h = absurd h

function-checked : (S : Signature) (fuel : ℕ) (x : Word) (ty : surf.Surf) (clauses : surf.Clauses) → IfOk (elaborate_function S fuel x ty clauses) (CheckedAll fuel S)
function-checked S fuel x ty clauses =
    function-has (CheckedAll fuel S) S fuel x ty clauses (λ f is. function-is-checked S f fuel)

pub elaborate-checked : ElaborateIsChecked
elaborate-checked S fuel (surf.Def x ty body) =
    without_lines-has (CheckedAll fuel S) (declare_of S fuel (surf.Def x ty body)) (plain-checked S fuel (surf.Def x ty body))
elaborate-checked S fuel (surf.Data x params ty cons) =
    without_lines-has (CheckedAll fuel S) (declare_of S fuel (surf.Data x params ty cons)) (plain-checked S fuel (surf.Data x params ty cons))
elaborate-checked S fuel (surf.Decide x family decision) = tt
elaborate-checked S fuel (surf.Mutual params members family tag tags) = tt
elaborate-checked S fuel (surf.Fun x ty clauses) = function-checked S fuel x ty clauses

-- ---- in a session

-- the entries of one draft
draft-checked : (S : Signature) (name : List ℕ) (d : Draft) (fuel : ℕ) → Answers (Checked fuel S) (checked_entered S name d fuel)
draft-checked S name d fuel =
    let P : Entered → Type 0 = λ e. Checked fuel S e.signature in
    and_next-has P (Checked fuel S) (reporting S (owner_of name 0) (enter_draft_of S d fuel)) _
    (no_report-has P S (owner_of name 0) (enter_draft_of S d fuel).0 (entering-is-checked S d fuel)) (λ e rest h. h)

pub declare-checked : DeclareIsChecked
declare-checked s (surf.Def x ty body) = elaborate-checked s.signature s.fuel (surf.Def x ty body)
declare-checked s (surf.Data x params ty cons) = elaborate-checked s.signature s.fuel (surf.Data x params ty cons)
declare-checked s (surf.Decide x family into) =
    decision-has (CheckedAll s.fuel s.signature) s.signature s.decisions s.fuel x family into (λ given T d.
    transport (λ r. IfOk r (Checked s.fuel s.signature)) d.made (draft-checked s.signature given.name d.draft s.fuel))
declare-checked s (surf.Mutual params members family tag tags) = mutual-checked s.fuel s.signature params members family tag tags
declare-checked s (surf.Fun x ty clauses) = elaborate-checked s.signature s.fuel (surf.Fun x ty clauses)
