-- Once the entries of a plan have entered, the names of its parts are those of definitions, and so are those of recursion.
use Rattle.std.proofs.Common.{◌≡◌, ℕ, zero, suc, ◌+◌, ◌<◌, ◌≤◌, ◌==◌, Bool, true, false, Option, Some, None, List, [], ◌∷◌, length, drop, map, Result, Ok, Err, IfOk, refl, sym, ap, ap₂, ◌∙◌, subst as transport, arith}
use Rattle.std.proofs.lemmas.Bool.Decides.{nat_tests}
use Rattle.theory.specs.Terms.{Term, top}
use Rattle.theory.specs.Telescopes.{Telescope, products}
use Rattle.theory.specs.Signatures.{IsPrefix, Signature}
use Rattle.theory.specs.Signatures.Entry.{FamilyOf}
use Rattle.theory.specs.WellFormed.{IsWellFormed}
use Rattle.theory.proofs.Widening.{prefix_keeps}
use Rattle.core_terms.specs.Answers.{and_next}
use Rattle.core_terms.specs.declared.stop.Stop.{Stop}
use Rattle.core_terms.proofs.Answers.{Answers, and_next-has}
use Rattle.core_sig.specs.Drafts.{Draft}
use Rattle.family_check.specs.Entering.{Entered}
use Rattle.family_check.specs.Scopes.{HasPrelude}
use Rattle.tree_translation.specs.Conditions.{IsPlanned}
use Rattle.tree_translation.specs.Entries.{helper_count, translate}
use Rattle.tree_translation.specs.Laws.{helpers_down, name_of, names_in_order}
use Rattle.tree_translation.specs.Naming.{helper_name, step_name}
use Rattle.tree_translation.specs.Plans.{Part, Plan, own_part}
use Rattle.tree_translation.specs.Recursion.{Recursion, recursion_of}
use Rattle.tree_translation.proofs.EntryNames.{entries_are_these}
use Rattle.entry_laws.proofs.OnlyConstants.{Each, each-left, each-right, each-weaker}
use Rattle.entry_laws.proofs.OnlyEntries.{recursion-entry}
use Rattle.clause_reports.specs.Conditions.{HasRecursion, IsDefined, IsEntered}
use Rattle.clause_reports.specs.DraftEntering.{Names, enter_draft_of, enter_mention, enter_needed}
use Rattle.clause_reports.specs.Equations.{part_name}
use Rattle.clause_reports.specs.Generated.{all_name}
use Rattle.clause_reports.specs.Stops.{ReportStop}
use Rattle.clause_reports.proofs.Keeping.{Grows, GrowsTo, enter_mention-grows, enter_needed-grows, entering-grows, grows_on, grows_same, weaker, prelude-on}
use Rattle.drafts.specs.draft_entering.Conditions as entering
use Rattle.drafts.specs.draft_entering.Conditions.{IsGeneratedName, IsOpen}
use Rattle.function_session.proofs.plan_laws.EnteredDraft.{draft-defined}
use Rattle.clause_reports.specs.elaboration.Functions.{enter_drafts, enter_plan, enter_values, first_domains, recursion_in}
use Rattle.clause_reports.specs.elaboration.Refusals.{answers, or_halts, owner_of, reporting}
use Rattle.clause_reports.proofs.elaboration.Keeping.{no_report-has}
use Rattle.function_plans.proofs.Orders.{in-is}
use Rattle.drafts.specs.entering_laws.Laws.{StaysOpen}
use Rattle.drafts.proofs.entering_laws.EnteredOpen.{entered-open}
use Rattle.function_session.proofs.plan_laws.EnteredNames.{can-value, mention-defines}
use Rattle.function_session.proofs.plan_laws.NamedEntries.{defined-on, defined-there}

-- ---- drafts

-- S has become T, which is open, and has definitions of these names
pub record HasEntered (S T : Signature) (names : List (List ℕ)) : Type 0 where
  pub grows : Grows S T
  pub well_formed : IsWellFormed T
  pub open_there : IsOpen T
  pub defined : Each (IsDefined T) names

-- a draft that enters
record IsIn (S : Signature) (d : Draft) (e : Entered) : Type 0 where
  grows : Grows S e.signature
  well_formed : IsWellFormed e.signature
  open_there : IsOpen e.signature
  defined : IsDefined e.signature (name_of d)

draft-in : (S : Signature) (d : Draft) (left : ℕ) → IsWellFormed S → IsOpen S → Answers (IsIn S d) (enter_draft_of S d left)
draft-in S d left formed is_open = by (enter_draft_of S d left).0 (entering-grows S d left) (entered-open S d left formed is_open) (draft-defined S d left)
  where
    by : (r : Result Entered ReportStop) → IfOk r (GrowsTo S) → IfOk r (λ e. StaysOpen S e.signature) → IfOk r (λ e. entering.IsDefined e.signature (name_of d))
        → IfOk r (IsIn S d)
    by (Ok e) g s d = record { grows = g; well_formed = s.well_formed; open_there = s.ready; defined = defined-there e.signature _ d }
    by (Err e) g s d = tt

drafts-in : (S : Signature) (name : List ℕ) (drafts : List Draft) (left : ℕ) → IsWellFormed S → IsOpen S
    → Answers (λ T. HasEntered S T (map name_of drafts)) (enter_drafts S name drafts left)
drafts-in S name [] left formed is_open = record { grows = grows_same S; well_formed = formed; open_there = is_open; defined = Each.none }
drafts-in S name (d ∷ drafts) left formed is_open =
    let Q : Signature → Type 0 = λ T. HasEntered S T (name_of d ∷ map name_of drafts) in
    and_next-has (IsIn S d) Q (reporting S (owner_of name 0) (enter_draft_of S d left)) _
    (no_report-has (IsIn S d) S (owner_of name 0) (enter_draft_of S d left).0 (draft-in S d left formed is_open)) (λ e rest h.
    weaker (λ T. HasEntered e.signature T (map name_of drafts)) Q (enter_drafts e.signature name drafts rest).0 (λ T k.
    record {
      grows = grows_on S e.signature T h.grows k.grows;
      well_formed = k.well_formed;
      open_there = k.open_there;
      defined = Each.more (defined-on e.signature T k.grows.prefix (name_of d) h.defined) k.defined;
    })
    (drafts-in e.signature name drafts rest h.well_formed h.open_there))

-- ---- the entries of a plan

pub domains-are : (tele : Telescope) (goal : Term) → first_domains (length tele) (products tele goal) ≡ tele
domains-are [] goal = refl
domains-are (a ∷ tele) goal = ap (λ rest. a ∷ rest) (domains-are tele goal)

-- with recursion and a helper also the values
abbrev HasValues : Signature → Plan → List Part → Option Recursion → Type 0
HasValues T plan (own ∷ helper ∷ helpers) (Some r) = IsDefined T (all_name r.family plan.level)
HasValues T plan parts r = Unit {0}

module _ (S T : Signature) (plan : Plan) (level : (r : Recursion) → recursion_of S plan ≡ Some r → IsGeneratedName T (all_name r.family plan.level)) (is_open : IsOpen T) where
  values-in : (r : Option Recursion) (parts : List Part) (left : ℕ) → recursion_of S plan ≡ r
      → Answers (λ U. Grows T U × HasValues U plan parts r) (enter_values T plan r parts left)
  values-in None [] left is = (grows_same T, tt)
  values-in None (own ∷ []) left is = (grows_same T, tt)
  values-in None (own ∷ helper ∷ helpers) left is = (grows_same T, tt)
  values-in (Some r) [] left is = (grows_same T, tt)
  values-in (Some r) (own ∷ []) left is = (grows_same T, tt)
  values-in (Some r) (own ∷ helper ∷ helpers) left is =
      let name = all_name r.family plan.level in
      let entered = enter_mention enter_needed T (Names name) left in
      no_report-has (λ U. Grows T U × IsDefined U name) T (owner_of plan.name 0) entered.0
      (both entered.0 (enter_mention-grows enter_needed enter_needed-grows T (Names name) left) (mention-defines T name left is_open (level r is)))
    where
      both : (q : Result Signature ReportStop) → IfOk q (Grows T) → IfOk q (λ U. entering.IsDefined U (all_name r.family plan.level))
          → IfOk q (λ U. Grows T U × IsDefined U (all_name r.family plan.level))
      both (Ok U) g d = (g, defined-there U _ d)
      both (Err e) g d = tt

-- ---- names of parts

helper-defined : (P : List ℕ → Type 0) (function : List ℕ) (count j : ℕ) → Each P (helpers_down function count) → 0 < j → j ≤ count → P (helper_name function j)
helper-defined P function zero j all low high = absurd (omega (arith, low, high))
helper-defined P function (suc count) j (Each.more h all) low high = by (j == suc count) refl (helper-defined P function count j all low)
  where
    by : (b : Bool) → (j == suc count) ≡ b → (j ≤ count → P (helper_name function j)) → P (helper_name function j)
    by true is go = (let same : suc count ≡ j = grind (arith, nat_tests, is) in transport (λ k. P (helper_name function k)) same h)
    by false is go = go (grind (arith, nat_tests, is, high))

first-each : {X : Type 0} {P : X → Type 0} {x : X} {xs : List X} → Each P (x ∷ xs) → P x
first-each (Each.more h all) = h

rest-each : {X : Type 0} {P : X → Type 0} {x : X} {xs : List X} → Each P (x ∷ xs) → Each P xs
rest-each (Each.more h all) = all

counted : (parts : List Part) (k : ℕ) → suc k < length parts → suc k ≤ length (drop 1 parts)
counted [] k low = absurd (omega arith)
counted (part ∷ parts) k low = omega (arith, low)

module _ (T : Signature) (plan : Plan) where
  part-defined : (r : Option Recursion) → Each (IsDefined T) (names_in_order plan r) → (k : ℕ) → k < length plan.parts → IsDefined T (part_name plan k)
  part-defined None all zero low = first-each (each-right (helpers_down plan.name (helper_count plan)) (plan.name ∷ []) all)
  part-defined None all (suc k) low =
      helper-defined (IsDefined T) plan.name (helper_count plan) (suc k) (each-left (helpers_down plan.name (helper_count plan)) (plan.name ∷ []) all)
      (omega arith) (counted plan.parts k low)
  part-defined (Some r) all zero low =
      first-each (rest-each (each-right (helpers_down plan.name (helper_count plan)) (step_name plan.name ∷ plan.name ∷ []) (rest-each all)))
  part-defined (Some r) all (suc k) low =
      helper-defined (IsDefined T) plan.name (helper_count plan) (suc k)
      (each-left (helpers_down plan.name (helper_count plan)) (step_name plan.name ∷ plan.name ∷ []) (rest-each all)) (omega arith) (counted plan.parts k low)

  values-defined : (parts : List Part) (r : Recursion) → HasValues T plan parts (Some r) → 1 < length parts → IsDefined T (all_name r.family plan.level)
  values-defined [] r h more = absurd (omega (arith, more))
  values-defined (own ∷ []) r h more = absurd (omega (arith, more))
  values-defined (own ∷ helper ∷ helpers) r h more = h

  recursion-defined : (r : Option Recursion) → Each (IsDefined T) (names_in_order plan r) → HasValues T plan plan.parts r → HasRecursion T plan r
  recursion-defined None all values = tt
  recursion-defined (Some r) all values = (
    first-each all,
    (
      first-each (each-right (helpers_down plan.name (helper_count plan)) (step_name plan.name ∷ plan.name ∷ []) (rest-each all)),
      λ more. values-defined plan.parts r values more,
    ),
  )

-- the entries of a plan are in a signature that is well formed and has the prelude
pub record HasPlan (S : Signature) (plan : Plan) (T : Signature) : Type 0 where
  pub entered : IsEntered S T plan
  pub well_formed : IsWellFormed T
  pub first : HasPrelude T

module _ (S : Signature) (plan : Plan) (planned : IsPlanned S plan) (formed : IsWellFormed S) (first : HasPrelude S) (is_open : IsOpen S)
    (fits : plan.level + 1 < top) (level : (r : Recursion) → recursion_of S plan ≡ Some r → r.family.level ≤ plan.level) where
  recursion-there : recursion_in S (first_domains plan.arity plan.type) plan.position ≡ recursion_of S plan
  recursion-there =
      ap₂ (λ count type. recursion_in S (first_domains count type) plan.position) planned.arity planned.type
      ∙ (ap (λ tele. recursion_in S tele plan.position) (domains-are (own_part plan).tele (own_part plan).goal)
      ∙ sym (in-is S (own_part plan).tele plan.position))

  value-name : (T : Signature) → IsPrefix S T → (r : Recursion) → recursion_of S plan ≡ Some r → IsGeneratedName T (all_name r.family plan.level)
  value-name T more r is =
      can-value T plan.level r.admission.number r.family fits (level r is) ((prefix_keeps more).entry r.admission.number (FamilyOf r.family) (recursion-entry S plan r is))

  grown-defined : (T U : Signature) (names : List (List ℕ)) → IsPrefix T U → Each (IsDefined T) names → Each (IsDefined U) names
  grown-defined T U names more h = each-weaker names (λ name d. defined-on T U more name d) h

  pub plan-has : (left : ℕ) → Answers (HasPlan S plan) (enter_plan S plan left)
  plan-has left =
      let r = recursion_of S plan in
      transport
      (λ q.
      Answers (HasPlan S plan)
      (and_next (answers (or_halts (translate S plan)) left) (λ drafts rest.
      and_next (enter_drafts S plan.name drafts rest) (λ T end. enter_values T plan q plan.parts end))))
      (sym recursion-there)
      (and_next-has (λ drafts. translate S plan ≡ Ok drafts) (HasPlan S plan) (answers (or_halts (translate S plan)) left) _ (itself (translate S plan) refl)
      (λ drafts rest made.
      and_next-has (λ T. HasEntered S T (map name_of drafts)) (HasPlan S plan) (enter_drafts S plan.name drafts rest) _
      (drafts-in S plan.name drafts rest formed is_open) (λ T end h.
      weaker (λ U. Grows T U × HasValues U plan plan.parts r) (HasPlan S plan) (enter_values T plan r plan.parts end).0 (λ U k.
      let whole = grows_on S T U h.grows k.0 in
      let names : Each (IsDefined U) (names_in_order plan r) =
      transport (Each (IsDefined U)) (entries_are_these S plan drafts planned made) (grown-defined T U (map name_of drafts) k.0.prefix h.defined) in
      record {
        entered = record {
          planned = planned;
          prefix = whole.prefix;
          parts = part-defined U plan r names;
          recursion = recursion-defined U plan r names k.1;
        };
        well_formed = whole.keeps formed first;
        first = prelude-on S U whole.prefix first;
      })
      (values-in S T plan (value-name T h.grows.prefix) h.open_there r plan.parts end refl))))
    where
      itself : (r : Result (List Draft) Stop) → translate S plan ≡ r → IfOk (or_halts r) (λ drafts. translate S plan ≡ Ok drafts)
      itself (Ok drafts) is = is
      itself (Err e) is = tt
