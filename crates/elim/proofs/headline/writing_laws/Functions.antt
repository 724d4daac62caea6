-- A property that definitions and instances keep is kept by a function by clauses that is accepted.
use Rattle.std.proofs.Common.{◌≡◌, ℕ, ◌+◌, ◌<◌, List, [], ◌∷◌, ◌++◌, length, take, drop, Option, Some, None, Result, Ok, Err, IfOk, subst, arith}
use Rattle.theory.specs.Terms.{Sort}
use Rattle.theory.specs.Telescopes.{products, functions}
use Rattle.theory.specs.Signatures.{Signature}
use Rattle.theory.specs.WellFormed.{provisional}
use Rattle.core_terms.specs.CaseTrees.{Walk}
use Rattle.core_terms.specs.declared.stop.Stop.{Stop}
use Rattle.core_terms.proofs.Answers.{Answers, and_next-has, and_then-has}
use Rattle.core_sig.specs.Drafts.{Draft}
use Rattle.resolve.specs.Functions.{Function}
use Rattle.tree_translation.specs.structural_rec.Choices.{choose}
use Rattle.tree_translation.specs.Entries.{translate, entries_with, helpers_before, and_more, motive_entry, step_entry, helper_entry, function_entry, side_names, part_term, step_telescope, step_goal, step_node, helper_node, function_by_recursion}
use Rattle.tree_translation.specs.Naming.{motive_name, step_name, helper_name, rec_name, part_named}
use Rattle.tree_translation.specs.Plans.{Plan, Part, own_part as plan_part}
use Rattle.tree_translation.specs.Recursion.{Recursion, recursion_of, order_of, ordered_telescope, ordered_term, first_positions}
use Rattle.tree_translation.specs.Splits.{Node}
use Rattle.tree_translation.specs.TreeTerms.{tree_names}
use Rattle.kernel_check.specs.Checking.{infer_sort_of}
use Rattle.kernel_reduce.specs.Reduction.{nesting}
use Rattle.clause_reports.specs.DraftEntering.{enter_draft_of, enter_needed, enter_mention, Names}
use Rattle.clause_reports.specs.Generated.{all_name}
use Rattle.clause_reports.specs.Reports.{Reference, report_of}
use Rattle.clause_reports.specs.Stops.{ReportStop}
use Rattle.clause_reports.specs.elaboration.Functions.{Following, Lines, enter_drafts, enter_plan, enter_values, first_domains, function_level, function_of, helpers_finished, own_finished, own_part, plan_of, position_chosen, recursion_in, report_parts, report_walks}
use Rattle.clause_reports.specs.elaboration.Refusals.{OfType, Owner, answers, granted, or_halts, owner_of, or_no_report, reporting}
use Rattle.clause_reports.specs.elaboration.Walking.{Session, Walked, walk_clauses}
use Rattle.function_session.specs.function_lines.Opened.{checked_entered, function_in}
use Rattle.function_session.proofs.Keeping.{opened-has}
use Rattle.elim.proofs.headline.writing_laws.Carrying.{skip, DraftIs, After, Keeps, enter_draft-is, enter_needed-is, enter_mention-is}
use Rattle.elim.proofs.headline.writing_laws.Reporting.{Told, ordered-made, report-is}

halting-has : {A : Type 0} (Q : A → Type 0) (r : Result A Stop) → IfOk r Q → IfOk (or_halts r) Q
halting-has Q (Ok a) h = h
halting-has Q (Err e) h = tt

reporting-has : {A : Type 0} (Q : A → Type 0) (S : Signature) (o : Owner) (r : Result A ReportStop) → IfOk r Q → IfOk (or_no_report S o r) Q
reporting-has Q S o (Ok a) h = h
reporting-has Q S o (Err e) h = tt

abbrev PlanIs : (List ℕ → Type 0) → Plan → Type 0
PlanIs Own plan = Own plan.name

-- the numbers of the parts
abbrev pub PartsAre : (ℕ → Type 0) → Plan → Type 0
PartsAre Few plan = (k : ℕ) → k < length plan.parts → Few k

abbrev pub FunctionFew : (ℕ → Type 0) → Signature → Function → Type 0
FunctionFew Few S f = (level left : ℕ) → Answers (PartsAre Few) (plan_of S f level left)

-- those from number k on
abbrev FewFrom : (ℕ → Type 0) → ℕ → List Part → Type 0
FewFrom Few k parts = (j : ℕ) → j < length parts → Few (k + j)

few-here : (Few : ℕ → Type 0) (k : ℕ) (part : Part) (parts : List Part) → FewFrom Few k (part ∷ parts) → Few k
few-here Few k part parts few = let e : k + 0 ≡ k = omega arith in subst Few e (few 0 (omega arith))

few-next : (Few : ℕ → Type 0) (k : ℕ) (part : Part) (parts : List Part) → FewFrom Few k (part ∷ parts) → FewFrom Few (k + 1) parts
few-next Few k part parts few j lt = let e : k + (j + 1) ≡ k + 1 + j = omega arith in subst Few e (few (j + 1) (omega arith))

few-behind : (Few : ℕ → Type 0) (parts : List Part) → ((k : ℕ) → k < length parts → Few k) → FewFrom Few 1 (drop 1 parts)
few-behind Few [] few j lt = absurd (omega arith)
few-behind Few (part ∷ parts) few j lt = let e : j + 1 ≡ 1 + j = omega arith in subst Few e (few (j + 1) (omega arith))

few-all : (Few : ℕ → Type 0) (parts : List Part) → ((k : ℕ) → k < length parts → Few k) → FewFrom Few 0 parts
few-all Few parts few j lt = let e : j ≡ 0 + j = omega arith in subst Few e (few j lt)

together : {A E : Type 0} (Q R : A → Type 0) (r : Result A E) → IfOk r Q → IfOk r R → IfOk r (λ a. Q a × R a)
together Q R (Ok a) h k = (h, k)
together Q R (Err e) h k = tt

abbrev DraftsAre : (List ℕ → Type 0) → List Draft → Type 0
DraftsAre D [] = Unit {0}
DraftsAre D (d ∷ drafts) = DraftIs D d × DraftsAre D drafts

abbrev LinesAre : (Signature → Type 0) → Lines → Type 0
LinesAre P l = P l.signature

-- what goes on keeps it
abbrev Follows : (Signature → Type 0) → Following → Type 0
Follows P next = (S : Signature) (left : ℕ) → P S → Answers (LinesAre P) (next S left)

module _ (D Own : List ℕ → Type 0) (Few : ℕ → Type 0) (P : Signature → Type 0) (keeps : Keeps D Own Few P) where
  -- ---- the plan

  plan-is : (S : Signature) (f : Function) → Own f.name → (level left : ℕ) → Answers (PlanIs Own) (plan_of S f level left)
  plan-is S f h level left =
      let s : Session = record { signature = provisional S f.name f.type; name = f.name; own = length S.entries } in
      let part = own_part f level in
      skip (PlanIs Own) (walk_clauses s 0 part 0 1 f.clauses left) _ (λ given rest.
      let w : Walked = record { part = part; clauses = f.clauses; walks = given.walks; sides = given.sides } in
      skip (PlanIs Own) (answers (position_chosen s (choose S part.tele s.own given.uses)) rest) _ (λ position more.
      let r = recursion_in S part.tele position in
      skip (PlanIs Own) (own_finished s r w more) _ (λ own end.
      skip (PlanIs Own) (helpers_finished s r level 1 given.helpers end) _ (λ helpers last. h))))

  -- ---- entries

  and_more-is : (first : Result Draft Stop) (others : Result (List Draft) Stop) → IfOk first (DraftIs D) → IfOk others (DraftsAre D) → IfOk (and_more first others) (DraftsAre D)
  and_more-is first others h k =
      and_then-has (DraftIs D) (DraftsAre D) first _ h (λ d i. and_then-has (DraftsAre D) (DraftsAre D) others _ k (λ ds j. (i, j)))

  motive-is : (plan : Plan) → Own plan.name → (r : Recursion) → IfOk (motive_entry plan r) (DraftIs D)
  motive-is plan own r =
      let part = plan_part plan in
      let count = length part.tele in
      let order = order_of count (Some r) in
      let tele = ordered_telescope part.tele order in
      let first = length (first_positions r) in
      ordered-made D (motive_name plan.name) plan.base [] (λ number. products (take first tele) (Sort plan.level))
      (λ number. functions (take first tele) (products (drop first tele) (ordered_term count order part.goal)))
      (keeps.motive plan.name own)

  step-is : (S : Signature) (plan : Plan) → Own plan.name → (r : Recursion) → IfOk (step_entry S plan r) (DraftIs D)
  step-is S plan own r =
      let part = plan_part plan in
      let order = order_of (length part.tele) (Some r) in
      ordered-made D (step_name plan.name) plan.base (side_names plan (Some r) 0 ++ tree_names S part.level part.tree (step_node plan r (λ name. plan.base)))
      (λ number. products (step_telescope plan r number) (step_goal plan r))
      (λ number. functions (step_telescope plan r number) (part_term S plan (Some r) part order (step_node plan r number) number))
      (keeps.step plan.name own)

  helper-entry-is : (S : Signature) (plan : Plan) → Own plan.name → (r : Option Recursion) (k : ℕ) → Few k → (part : Part) → IfOk (helper_entry S plan r k part) (DraftIs D)
  helper-entry-is S plan own r k few part =
      ordered-made D (helper_name plan.name k) plan.base (side_names plan r k ++ tree_names S part.level part.tree (helper_node plan r part (λ name. plan.base)))
      (λ number. products (helper_node plan r part number).context (helper_node plan r part number).goal)
      (λ number. functions (helper_node plan r part number).context (part_term S plan r part (order_of (length part.tele) None) (helper_node plan r part number) number))
      (keeps.helper plan.name k own few)

  helpers_before-is : (S : Signature) (plan : Plan) → Own plan.name → (r : Option Recursion) (k : ℕ) (parts : List Part) → FewFrom Few k parts → (others : Result (List Draft) Stop) → IfOk others (DraftsAre D)
      → IfOk (helpers_before S plan r k parts others) (DraftsAre D)
  helpers_before-is S plan own r k [] few others h = h
  helpers_before-is S plan own r k (part ∷ parts) few others h =
      helpers_before-is S plan own r (k + 1) parts (few-next Few k part parts few) (and_more (helper_entry S plan r k part) others)
      (and_more-is (helper_entry S plan r k part) others (helper-entry-is S plan own r k (few-here Few k part parts few) part) h)

  function-entry-is : (S : Signature) (plan : Plan) → Own plan.name → (r : Option Recursion) → IfOk (function_entry S plan r) (DraftIs D)
  function-entry-is S plan own None =
      let part = plan_part plan in
      let node : Node = record { context = part.tele; goal = part.goal; hidden = [] } in
      ordered-made D plan.name plan.base (side_names plan None 0 ++ tree_names S part.level part.tree node) (λ number. plan.type)
      (λ number. functions part.tele (part_term S plan None part (order_of (length part.tele) None) node number)) (keeps.own plan.name own)
  function-entry-is S plan own (Some r) =
      ordered-made D plan.name plan.base (rec_name r.family plan.level ∷ motive_name plan.name ∷ step_name plan.name ∷ []) (λ number. plan.type) (function_by_recursion plan r)
      (keeps.own plan.name own)

  entries-are : (S : Signature) (plan : Plan) → Own plan.name → PartsAre Few plan → (r : Option Recursion) → IfOk (entries_with S plan r) (DraftsAre D)
  entries-are S plan own few None =
      helpers_before-is S plan own None 1 (drop 1 plan.parts) (few-behind Few plan.parts few) (and_more (function_entry S plan None) (Ok []))
      (and_more-is (function_entry S plan None) (Ok []) (function-entry-is S plan own None) tt)
  entries-are S plan own few (Some r) =
      let last = and_more (step_entry S plan r) (and_more (function_entry S plan (Some r)) (Ok [])) in
      and_more-is (motive_entry plan r) (helpers_before S plan (Some r) 1 (drop 1 plan.parts) last) (motive-is plan own r)
      (helpers_before-is S plan own (Some r) 1 (drop 1 plan.parts) (few-behind Few plan.parts few) last
      (and_more-is (step_entry S plan r) (and_more (function_entry S plan (Some r)) (Ok [])) (step-is S plan own r)
      (and_more-is (function_entry S plan (Some r)) (Ok []) (function-entry-is S plan own (Some r)) tt)))

  pub checked_entered-is : (S : Signature) → P S → (name : List ℕ) (d : Draft) → DraftIs D d → (left : ℕ) → Answers P (checked_entered S name d left)
  checked_entered-is S p name d k left =
      and_next-has (After P) P (reporting S (owner_of name 0) (enter_draft_of S d left)) _
      (reporting-has (After P) S (owner_of name 0) (enter_draft_of S d left).0 (enter_draft-is D Own Few P keeps S d left p k)) (λ e rest i. i)

  enter_drafts-are : (S : Signature) → P S → (name : List ℕ) (drafts : List Draft) → DraftsAre D drafts → (left : ℕ) → Answers P (enter_drafts S name drafts left)
  enter_drafts-are S p name [] all left = p
  enter_drafts-are S p name (d ∷ drafts) all left =
      and_next-has (After P) P (reporting S (owner_of name 0) (enter_draft_of S d left)) _
      (reporting-has (After P) S (owner_of name 0) (enter_draft_of S d left).0 (enter_draft-is D Own Few P keeps S d left p all.0)) (λ e rest k.
      enter_drafts-are e.signature k name drafts all.1 rest)

  enter_values-is : (S : Signature) → P S → (plan : Plan) (r : Option Recursion) (parts : List Part) (left : ℕ) → Answers P (enter_values S plan r parts left)
  enter_values-is S p plan None parts left = p
  enter_values-is S p plan (Some r) [] left = p
  enter_values-is S p plan (Some r) (own ∷ []) left = p
  enter_values-is S p plan (Some r) (own ∷ helper ∷ helpers) left =
      let values = Names (all_name r.family plan.level) in
      let entered = enter_mention enter_needed S values left in
      reporting-has P S (owner_of plan.name 0) entered.0 (enter_mention-is D Own Few P keeps enter_needed (enter_needed-is D Own Few P keeps) S p values left)

  enter_plan-is : (S : Signature) → P S → (plan : Plan) → Own plan.name → PartsAre Few plan → (left : ℕ) → Answers P (enter_plan S plan left)
  enter_plan-is S p plan own few left =
      let r = recursion_in S (first_domains plan.arity plan.type) plan.position in
      and_next-has (DraftsAre D) P (answers (or_halts (translate S plan)) left) _
      (halting-has (DraftsAre D) (translate S plan) (entries-are S plan own few (recursion_of S plan))) (λ drafts rest all.
      and_next-has P P (enter_drafts S plan.name drafts rest) _ (enter_drafts-are S p plan.name drafts all rest) (λ T end k.
      enter_values-is T k plan r plan.parts end))

  -- ---- lines

  report_walks-are : (plan : Plan) → Own plan.name → (k : ℕ) → Few k → (number : ℕ) (walks : List Walk) (next : Following) → Follows P next
      → Follows P (report_walks plan k number walks next)
  report_walks-are plan own k few number [] next h S left p = h S left p
  report_walks-are plan own k few number (w ∷ walks) next h S left p =
      let c : Reference = record { part = k; clause = number; walk = w } in
      and_next-has (Told P) (LinesAre P) (reporting S (owner_of (part_named plan.name k) number) (report_of S plan c left)) _
      (reporting-has (Told P) S (owner_of (part_named plan.name k) number) (report_of S plan c left).0 (report-is D Own Few P keeps S p plan c (own, few) left)) (λ r rest i.
      and_next-has (LinesAre P) (LinesAre P) (report_walks plan k (number + 1) walks next r.signature rest) _
      (report_walks-are plan own k few (number + 1) walks next h r.signature rest i) (λ lines end q. q))

  report_parts-are : (plan : Plan) → Own plan.name → (k : ℕ) (parts : List Part) → FewFrom Few k parts → Follows P (report_parts plan k parts)
  report_parts-are plan own k [] few S left p = p
  report_parts-are plan own k (part ∷ parts) few S left p =
      report_walks-are plan own k (few-here Few k part parts few) 0 part.walks (report_parts plan (k + 1) parts)
      (report_parts-are plan own (k + 1) parts (few-next Few k part parts few)) S left p

  -- ---- all of it

  meant-keeps : (S : Signature) → P S → (f : Function) → Own f.name → FunctionFew Few S f → (fuel : ℕ) → Answers (LinesAre P) (function_of S f fuel)
  meant-keeps S p f h few fuel =
      skip (LinesAre P) (granted S OfType (infer_sort_of S nesting [] f.type fuel)) _ (λ sort rest.
      skip (LinesAre P) (answers (function_level S sort) rest) _ (λ level more.
      and_next-has (λ plan. PlanIs Own plan × PartsAre Few plan) (LinesAre P) (plan_of S f level more) _
      (together (PlanIs Own) (PartsAre Few) (plan_of S f level more).0 (plan-is S f h level more) (few level more)) (λ plan end own.
      and_next-has P (LinesAre P) (enter_plan S plan end) _ (enter_plan-is S p plan own.0 own.1 end) (λ T last k.
      report_parts-are plan own.0 0 plan.parts (few-all Few plan.parts own.1) T last k))))

  pub function-keeps : (S : Signature) → P S → (f : Function) → Own f.name → FunctionFew Few S f → (fuel : ℕ) → Answers (LinesAre P) (function_in S f fuel)
  function-keeps S p f h few fuel = opened-has (LinesAre P) S f fuel (λ marks. meant-keeps S p f h few fuel)
