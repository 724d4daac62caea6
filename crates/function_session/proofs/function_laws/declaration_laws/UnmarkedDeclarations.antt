-- A declaration leaves the names of families and constructors without marks, where those that it declares hold none.
use Rattle.std.proofs.Common.{◌≡◌, ℕ, true, List, [], IfOk, subst as transport}
use Rattle.theory.specs.Signatures.{Signature}
use Rattle.surface_syntax.specs.Trees as surf
use Rattle.surface_syntax.specs.declared.tree.Word.{Word}
use Rattle.core_terms.proofs.Answers.{Answers, and_next-has, and_then-is}
use Rattle.core_sig.specs.Drafts.{Draft}
use Rattle.core_text.specs.RawEntries.{RawEntry, RawFamilyOf, RawEliminator, RawAxiomK, RawDefinition}
use Rattle.clause_reports.proofs.Keeping.{weaker}
use Rattle.drafts.specs.draft_checks.Checks.{unmarked}
use Rattle.drafts.specs.draft_entering.Conditions.{Extends}
use Rattle.clause_reports.specs.elaboration.Functions.{Lines, function_of}
use Rattle.clause_reports.specs.DraftEntering.{enter_draft_of}
use Rattle.clause_reports.specs.elaboration.Refusals.{owner_of, reporting}
use Rattle.clause_reports.proofs.elaboration.Keeping.{no_report-has}
use Rattle.drafts.proofs.draft_entering.Entered.{ExtendsTo}
use Rattle.drafts.proofs.entering_laws.EnteredOpen.{define-extends, entering-extends}
use Rattle.resolve.specs.Families.{declared}
use Rattle.resolve.specs.Resolving.{resolve_term}
use Rattle.elab_session.specs.Declaring.{Declared, declare_of, resolve_definition, resolve_entry}
use Rattle.elab_session.specs.Entering.{checked}
use Rattle.elab_session.proofs.Resolved.{declare-has, or_unresolved-has}
use Rattle.function_session.specs.Declaring.{declared_in}
use Rattle.function_session.specs.Elaborating.{Elaborated}
use Rattle.function_session.specs.Sessions.{Session}
use Rattle.function_session.specs.function_lines.Opened.{checked_entered}
use Rattle.function_session.proofs.Keeping.{without_lines-has, function-has}
use Rattle.function_session.proofs.DeclaredDecisions.{decision-has}
use Rattle.function_session.specs.function_laws.declaration_laws.Laws.{DeclarationStaysUnmarked}
use Rattle.function_session.proofs.function_laws.declaration_laws.ExtendedFunctions.{function-extends}
use Rattle.function_session.proofs.function_laws.declaration_laws.UnmarkedEntries.{stays-unmarked}
use Rattle.function_session.proofs.function_laws.declaration_laws.UnmarkedFamilies.{family-stays}
use Rattle.function_session.proofs.function_laws.declaration_laws.UnmarkedMutual.{mutual-stays}

-- ---- definitions

abbrev DeclaresMore : Signature → Declared → Type 0
DeclaresMore S d = Extends S d.signature

abbrev LeavesUnmarked : Elaborated → Type 0
LeavesUnmarked a = unmarked a.signature ≡ true

abbrev IsDefinitionEntry : RawEntry → Type 0
IsDefinitionEntry (RawDefinition name type body) = Unit {0}
IsDefinitionEntry _ = ⊥

definition-resolves : (S : Signature) (x : Word) (ty body : surf.Surf) → IfOk (resolve_entry S (surf.Def x ty body)) IsDefinitionEntry
definition-resolves S x ty body =
    or_unresolved-has IsDefinitionEntry (resolve_definition S x ty body)
    (and_then-is IsDefinitionEntry (declared S [] x) _ (λ name named.
    and_then-is IsDefinitionEntry (resolve_term S [] ty) _ (λ type typed.
    and_then-is IsDefinitionEntry (resolve_term S [] body) _ (λ term is. tt))))

definition-extends : (S : Signature) (fuel : ℕ) (x : Word) (ty body : surf.Surf) → IfOk (declare_of S fuel (surf.Def x ty body)) (DeclaresMore S)
definition-extends S fuel x ty body =
    declare-has IsDefinitionEntry (DeclaresMore S) S fuel (surf.Def x ty body) (definition-resolves S x ty body) by
  where
    by : (raw : RawEntry) → IsDefinitionEntry raw → Answers (λ e. Extends S e.signature) (checked S raw fuel)
    by (RawFamilyOf raw) h = absurd h
    by (RawDefinition name type body) h = define-extends S name type body fuel
    by (RawEliminator n m) h = absurd h
    by (RawAxiomK i m) h = absurd h

-- ---- decisions

-- the one draft adds no family
decision-extends : (S : Signature) (name : List ℕ) (d : Draft) (left : ℕ) → Answers (Extends S) (checked_entered S name d left)
decision-extends S name d left =
    and_next-has (ExtendsTo S) (Extends S) (reporting S (owner_of name 0) (enter_draft_of S d left)) _
    (no_report-has (ExtendsTo S) S (owner_of name 0) (enter_draft_of S d left).0 (entering-extends S d left)) (λ e rest h. h)

decision-stays : (s : Session) (x family into : Word) → unmarked s.signature ≡ true
    → IfOk (declared_in s (surf.Decide x family into)) (λ a. unmarked a.signature ≡ true)
decision-stays s x family into h =
    decision-has (λ a. unmarked a.signature ≡ true) s.signature s.decisions s.fuel x family into (λ given T d.
    stays-unmarked s.signature T h
    (transport (λ r. IfOk r (Extends s.signature)) d.made (decision-extends s.signature given.name d.draft s.fuel)))

-- ---- declarations

pub declaration-stays : DeclarationStaysUnmarked
declaration-stays s (surf.Def x ty body) names h =
    without_lines-has LeavesUnmarked (declare_of s.signature s.fuel (surf.Def x ty body))
    (weaker (DeclaresMore s.signature) (λ d. unmarked d.signature ≡ true) (declare_of s.signature s.fuel (surf.Def x ty body))
    (λ d more. stays-unmarked s.signature d.signature h more) (definition-extends s.signature s.fuel x ty body))
declaration-stays s (surf.Data x params ty cons) names h =
    without_lines-has LeavesUnmarked (declare_of s.signature s.fuel (surf.Data x params ty cons))
    (family-stays s.signature s.fuel x params ty cons names h)
declaration-stays s (surf.Decide x family into) names h = decision-stays s x family into h
declaration-stays s (surf.Mutual params members family tag tags) names h = mutual-stays s.signature s.fuel params members family tag tags names h
declaration-stays s (surf.Fun x ty clauses) names h =
    function-has LeavesUnmarked s.signature s.fuel x ty clauses (λ f is.
    weaker (λ (l : Lines). Extends s.signature l.signature) (λ (l : Lines). unmarked l.signature ≡ true) (function_of s.signature f s.fuel).0
    (λ l more. stays-unmarked s.signature l.signature h more) (function-extends s.signature f s.fuel))
