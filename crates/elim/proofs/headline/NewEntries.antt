-- Each entry that an accepted function adds is a draft of its plan, a generated entry, the proof of a clause, or an instance; so is each that a decision of
-- equality adds, without clauses, and each that families that refer to each other add behind what is packed.
use Rattle.std.proofs.Common.{◌≡◌, ◌≤◌, ℕ, ◌+◌, Option, Some, None, List, [], ◌∷◌, length, map, Result, Ok, Err, IfOk, refl, sym, ap, ◌∙◌, subst as transport}
use Rattle.std.specs.Prelude.{Contains}
use Rattle.theory.specs.Terms.{Term}
use Rattle.theory.specs.Families.{Family}
use Rattle.theory.specs.Signatures.{Definition, Entry, FamilyOf, IsEntryAt, Signature}
use Rattle.theory.specs.WellFormed.{first_entries}
use Rattle.core_terms.proofs.Answers.{Answers, and_next-has}
use Rattle.core_terms.specs.CaseTrees.{Walk}
use Rattle.core_terms.specs.declared.stop.Stop.{Stop}
use Rattle.core_sig.specs.Drafts.{Draft}
use Rattle.decide_eq.specs.DecisionEntries.{decision_entry}
use Rattle.surface_syntax.specs.Trees as surf
use Rattle.surface_syntax.specs.declared.tree.Word.{Word}
use Rattle.resolve.specs.Functions.{Function, function}
use Rattle.tree_translation.specs.Entries.{translate}
use Rattle.tree_translation.specs.Plans.{Part, Plan}
use Rattle.tree_translation.specs.Recursion.{Recursion}
use Rattle.clause_reports.specs.DraftEntering.{Names, enter_draft_of, enter_mention, enter_needed}
use Rattle.tree_translation.specs.Naming.{part_named}
use Rattle.clause_reports.specs.Generated.{all_name}
use Rattle.clause_reports.specs.Reports.{Line, Proved, Reference, report_of}
use Rattle.clause_reports.specs.elaboration.Functions.{Following, Lines, enter_drafts, enter_plan, enter_values, first_domains, function_of, planned_of, recursion_in, report_parts, report_walks}
use Rattle.clause_reports.specs.elaboration.Refusals.{Elaborating, or_halts, owner_of, reporting}
use Rattle.clause_reports.proofs.Keeping.{weaker}
use Rattle.clause_reports.proofs.elaboration.Keeping.{no_report-has}
use Rattle.elab_session.specs.Declaring.{accepted_as}
use Rattle.function_session.specs.Declaring.{declared_in}
use Rattle.function_session.specs.Elaborating.{Elaborated, with_lines}
use Rattle.function_session.specs.Laws.{IsAsDeclared, IsWrittenFunction}
use Rattle.function_session.specs.Sessions.{Session}
use Rattle.function_session.specs.decisions.Known.{known_into}
use Rattle.function_session.specs.decisions.Laws.{IsWrittenDecision}
use Rattle.function_session.specs.function_lines.Opened.{checked_entered}
use Rattle.function_session.proofs.Keeping.{function-has}
use Rattle.function_session.proofs.OwnEntry.{halts-is}
use Rattle.function_session.proofs.Planned.{function-planned}
use Rattle.function_session.proofs.DeclaredDecisions.{IsDecided, decision-has}
use Rattle.elim.proofs.written_functions.Walked.{is-ok}
use Rattle.function_session.proofs.equation_laws.LeftShowing.{ok-is}
use Rattle.elim.proofs.elim_program.DecisionNames.{Named}
use Rattle.elim.proofs.elim_program.Lines.{if_ok}
use Rattle.elim.specs.headline.NewEntries.{AreNewEntries, IsNewEntry, axiom_k, drafted, eliminator, generated, proof}
use Rattle.elim.proofs.headline.Adding.{Adds, AddsTo, Allows, AreOfKind, added-kind, adds-on, at-first, behind, checked-adds, draft-adds, mention-adds, nothing}
use Rattle.elim.proofs.headline.AddingReports.{AddsBy, report-adds}
use Rattle.elim.proofs.headline.NewMutualEntries.{HasNewMutual, mutual-entries}

-- ---- the entries of a function

-- a definition that one of the lines names is of the kind
abbrev AreProofs : (Signature → Entry → Type 0) → List Line → Type 0
AreProofs K lines = (U : Signature) (name : List ℕ) (type body : Term) → Contains lines (Proved (length U.entries)) → K U (Definition name type body)

-- the entries that are added with lines, where those that the lines name are of the kind
abbrev AddsWith : (Signature → Entry → Type 0) → Signature → Lines → Type 0
AddsWith K S l = AreProofs K (map (λ c. c.line) l.lines) → Adds K S l.signature

module _ (K : Signature → Entry → Type 0) (allows : Allows K) where
  enter_drafts-adds : (S : Signature) (name : List ℕ) (drafts : List Draft) (left : ℕ) → AreOfKind K drafts
      → Answers (Adds K S) (enter_drafts S name drafts left)
  enter_drafts-adds S name [] left kinds = nothing
  enter_drafts-adds S name (d ∷ drafts) left kinds =
      and_next-has (AddsTo K S) (Adds K S) (reporting S (owner_of name 0) (enter_draft_of S d left)) _
      (no_report-has (AddsTo K S) S (owner_of name 0) (enter_draft_of S d left).0
      (draft-adds K allows S d left (λ U longer. kinds d (at-first drafts d d refl) U))) (λ e rest g.
      weaker (Adds K e.signature) (Adds K S) (enter_drafts e.signature name drafts rest).0 (λ U k. adds-on g k)
      (enter_drafts-adds e.signature name drafts rest (λ x has U. kinds x (behind drafts x d has) U)))

  enter_values-adds : (S : Signature) (plan : Plan) (r : Option Recursion) (parts : List Part) (left : ℕ)
      → Answers (Adds K S) (enter_values S plan r parts left)
  enter_values-adds S plan None parts left = nothing
  enter_values-adds S plan (Some r) [] left = nothing
  enter_values-adds S plan (Some r) (own ∷ []) left = nothing
  enter_values-adds S plan (Some r) (own ∷ helper ∷ helpers) left =
      let m = Names (all_name r.family plan.level) in
      no_report-has (Adds K S) S (owner_of plan.name 0) (enter_mention enter_needed S m left).0 (mention-adds K allows S m left)

  enter_plan-adds : (S : Signature) (plan : Plan) (left : ℕ) → ((drafts : List Draft) → translate S plan ≡ Ok drafts → AreOfKind K drafts)
      → Answers (Adds K S) (enter_plan S plan left)
  enter_plan-adds S plan left kinds =
      let r = recursion_in S (first_domains plan.arity plan.type) plan.position in
      and_next-has (λ drafts. translate S plan ≡ Ok drafts) (Adds K S) (or_halts (translate S plan), left) _ (halts-is (translate S plan)) (λ drafts rest is.
      and_next-has (Adds K S) (Adds K S) (enter_drafts S plan.name drafts rest) _ (enter_drafts-adds S plan.name drafts rest (kinds drafts is)) (λ T end g.
      weaker (Adds K T) (Adds K S) (enter_values T plan r plan.parts end).0 (λ U k. adds-on g k) (enter_values-adds T plan r plan.parts end)))

  report_walks-adds : (plan : Plan) (k number : ℕ) (walks : List Walk) (next : Following)
      → ((S : Signature) (left : ℕ) → Answers (AddsWith K S) (next S left))
      → (S : Signature) (left : ℕ) → Answers (AddsWith K S) (report_walks plan k number walks next S left)
  report_walks-adds plan k number [] next h S left = h S left
  report_walks-adds plan k number (w ∷ walks) next h S left =
      let owner = owner_of (part_named plan.name k) number in
      let c : Reference = record { part = k; clause = number; walk = w } in
      and_next-has (AddsBy K S) (AddsWith K S) (reporting S owner (report_of S plan c left)) _
      (no_report-has (AddsBy K S) S owner (report_of S plan c left).0 (report-adds K allows S plan c left)) (λ r rest g.
      and_next-has (AddsWith K r.signature) (AddsWith K S) (report_walks plan k (number + 1) walks next r.signature rest) _
      (report_walks-adds plan k (number + 1) walks next h r.signature rest) (λ l end more.
      λ kinds.
      adds-on (g (λ U name type body same. kinds U name type body (at-first (map (λ c. c.line) l.lines) (Proved (length U.entries)) r.line same)))
      (more (λ U name type body has. kinds U name type body (behind (map (λ c. c.line) l.lines) (Proved (length U.entries)) r.line has)))))

  report_parts-adds : (plan : Plan) (k : ℕ) (parts : List Part) (S : Signature) (left : ℕ) → Answers (AddsWith K S) (report_parts plan k parts S left)
  report_parts-adds plan k [] S left = λ kinds. nothing
  report_parts-adds plan k (part ∷ parts) S left =
      report_walks-adds plan k 0 part.walks (report_parts plan (k + 1) parts) (report_parts-adds plan (k + 1) parts) S left

  function-adds : (S : Signature) (f : Function) (fuel : ℕ)
      → ((plan : Plan) (drafts : List Draft) → (planned_of S f fuel).0 ≡ Ok plan → translate S plan ≡ Ok drafts → AreOfKind K drafts)
      → Answers (AddsWith K S) (function_of S f fuel)
  function-adds S f fuel kinds =
      let P = AddsWith K S in
      transport (λ (r : Elaborating Lines). Answers P r) (sym (function-planned S f fuel))
      (and_next-has (λ plan. (planned_of S f fuel).0 ≡ Ok plan) P (planned_of S f fuel) _ (is-ok (planned_of S f fuel).0) (λ plan end is.
      and_next-has (Adds K S) P (enter_plan S plan end) _ (enter_plan-adds S plan end (λ drafts made. kinds plan drafts is made)) (λ T last g.
      weaker (AddsWith K T) P (report_parts plan 0 plan.parts T last).0 (λ l h. λ proofs. adds-on g (h proofs)) (report_parts-adds plan 0 plan.parts T last))))

-- ---- the declaration

-- the entries after those of S are new ones, by the drafts of the function and its lines
abbrev HasNewEntries : (S : Signature) (fuel : ℕ) (x : Word) (ty : surf.Surf) (clauses : surf.Clauses) → Elaborated → Type 0
HasNewEntries S fuel x ty clauses a =
    (w : IsWrittenFunction S fuel x ty clauses a) (n : ℕ) (e : Entry) → length S.entries ≤ n → IsEntryAt a.signature n e
    → IsNewEntry (first_entries a.signature n) w.drafts a.lines e

itself : {A E : Type 0} (P : A → Type 0) (r : Result A E) → ((a : A) → r ≡ Ok a → P a) → IfOk r P
itself P (Ok a) h = h a refl
itself P (Err e) h = tt

function-entries : (S : Signature) (fuel : ℕ) (x : Word) (ty : surf.Surf) (clauses : surf.Clauses) (f : Function) → function S x ty clauses ≡ Ok f
    → IfOk (function_of S f fuel).0 (λ (l : Lines). HasNewEntries S fuel x ty clauses (with_lines (accepted_as x.text l.signature) l.lines))
function-entries S fuel x ty clauses f is =
    itself (λ (l : Lines). HasNewEntries S fuel x ty clauses (with_lines (accepted_as x.text l.signature) l.lines)) (function_of S f fuel).0
    (λ l made w n e low at.
    let K : Signature → Entry → Type 0 = λ B x. IsNewEntry B w.drafts l.lines x in
    let allows : Allows K = record {
      eliminator = λ U n m. eliminator n m;
      axiom_k = λ U i m. axiom_k i m;
      generated = λ U name g base d is made. generated name g base d is made;
    } in
    let same : w.given ≡ f = ok-is (sym w.resolved ∙ is) in
    let kinds : (plan : Plan) (drafts : List Draft) → (planned_of S f fuel).0 ≡ Ok plan → translate S plan ≡ Ok drafts → AreOfKind K drafts =
    (λ plan drafts planned made d has U.
    let plans : plan ≡ w.plan = ok-is (sym planned ∙ ap (λ (g : Function). (planned_of S g fuel).0) (sym same) ∙ w.planned) in
    let both : drafts ≡ w.drafts = ok-is (sym made ∙ ap (translate S) plans ∙ w.translated) in
    drafted d (transport (λ ds. Contains ds d) both has)) in
    added-kind S l.signature
    (if_ok (AddsWith K S) (function_of S f fuel).0 l made (function-adds K allows S f fuel kinds)
    (λ U name type body has. proof name type body has)) n e low at)

-- the entries after those of a session are new ones, by the draft of the decision
abbrev HasNewDecision : (s : Session) (x family into : Word) → Elaborated → Type 0
HasNewDecision s x family into a =
    (w : IsWrittenDecision s x family into a) (n : ℕ) (e : Entry) → length s.signature.entries ≤ n → IsEntryAt a.signature n e
    → IsNewEntry (first_entries a.signature n) (w.draft ∷ []) a.lines e

-- a decision that is written has the draft with which it was accepted
same-draft : (s : Session) (x family into : Word) (given : Named) (T : Signature) (a : Elaborated)
    (d : IsDecided s.signature s.decisions s.fuel x family into given T) (w : IsWrittenDecision s x family into a) → d.draft ≡ w.draft
same-draft s x family into given T a d w =
    let S = s.signature in
    let names : given ≡ w.given = ok-is (sym d.resolved ∙ w.resolved) in
    let there : IsEntryAt S w.given.family (FamilyOf d.decided) = transport (λ (g : Named). IsEntryAt S g.family (FamilyOf d.decided)) names d.there in
    let families : d.decided ≡ w.decided = family-is (sym there ∙ w.there) in
    let entry : Named → Family → Result Draft Stop =
    λ g f. decision_entry (length S.entries) x.text g.family f g.into (known_into g.into s.decisions) in
    ok-is (sym d.drafted ∙ ap (λ g. entry g d.decided) names ∙ ap (entry w.given) families ∙ w.drafted)
  where
    family-is : {f g : Family} → ◌≡◌ {A = Option Entry} (Some (FamilyOf f)) (Some (FamilyOf g)) → f ≡ g
    family-is e = cc

decision-entries : (s : Session) (x family into : Word) (given : Named) (T : Signature) → IsDecided s.signature s.decisions s.fuel x family into given T
    → HasNewDecision s x family into (with_lines (accepted_as given.name T) [])
decision-entries s x family into given T d w n e low at =
    let S = s.signature in
    let K : Signature → Entry → Type 0 = λ B x. IsNewEntry B (w.draft ∷ []) [] x in
    let allows : Allows K = record {
      eliminator = λ U n m. eliminator n m;
      axiom_k = λ U i m. axiom_k i m;
      generated = λ U name g base d is made. generated name g base d is made;
    } in
    let same : d.draft ≡ w.draft = same-draft s x family into given T (with_lines (accepted_as given.name T) []) d w in
    added-kind S T
    (if_ok (Adds K S) (checked_entered S given.name d.draft s.fuel).0 T d.made
    (checked-adds K allows S given.name d.draft s.fuel (λ U. drafted d.draft (at-first [] d.draft w.draft (sym same))))) n e low at

pub new-entries : (s : Session) (d : surf.Decl) (a : Elaborated) → declared_in s d ≡ Ok a → (w : IsAsDeclared s d a) → AreNewEntries s d a w
new-entries s (surf.Fun x ty clauses) a is w =
    let S = s.signature in
    if_ok (HasNewEntries S s.fuel x ty clauses) (declared_in s (surf.Fun x ty clauses)) a is
    (function-has (HasNewEntries S s.fuel x ty clauses) S s.fuel x ty clauses (λ f resolved. function-entries S s.fuel x ty clauses f resolved)) w
new-entries s (surf.Decide x family into) a is w =
    if_ok (HasNewDecision s x family into) (declared_in s (surf.Decide x family into)) a is
    (decision-has (HasNewDecision s x family into) s.signature s.decisions s.fuel x family into (decision-entries s x family into)) w
new-entries s (surf.Def x ty body) a is w = tt
new-entries s (surf.Data x params ty cons) a is w = tt
new-entries s (surf.Mutual params members family tag tags) a is w =
    if_ok (HasNewMutual s (surf.Mutual params members family tag tags)) (declared_in s (surf.Mutual params members family tag tags)) a is
    (mutual-entries s params members family tag tags) w
