-- A function that is accepted leaves a signature that has grown by the function's entries.
use Rattle.std.proofs.Common.{ℕ, ◌+◌, Option, Some, None, List, [], ◌∷◌, Result, Ok, Err, IfOk}
use Rattle.theory.specs.Signatures.{Signature, IsPrefix}
use Rattle.theory.specs.WellFormed.{IsWellFormed}
use Rattle.core_terms.specs.CaseTrees.{Walk}
use Rattle.core_terms.proofs.Answers.{Answers, and_next-has}
use Rattle.core_sig.specs.Drafts.{Draft}
use Rattle.kernel_check.specs.Checking.{infer_sort_of}
use Rattle.kernel_reduce.specs.Reduction.{nesting}
use Rattle.resolve.specs.Functions.{Function}
use Rattle.tree_translation.specs.Entries.{translate}
use Rattle.tree_translation.specs.Plans.{Plan, Part}
use Rattle.tree_translation.specs.Recursion.{Recursion}
use Rattle.clause_reports.specs.DraftEntering.{enter_draft_of, enter_needed, enter_mention, Names}
use Rattle.clause_reports.specs.Generated.{all_name}
use Rattle.clause_reports.specs.Reports.{Reference, report_of}
use Rattle.clause_reports.specs.Stops.{ReportStop}
use Rattle.clause_reports.proofs.Keeping.{Grows, GrowsTo, grows_same, grows_on, weaker, Any, any, entering-grows, enter_mention-grows, enter_needed-grows}
use Rattle.clause_reports.proofs.ReportKeeping.{GrowsBy, report-grows}
use Rattle.clause_reports.specs.elaboration.Refusals.{Owner, OfType, or_halts, granted, owner_of, or_no_report, reporting}
use Rattle.tree_translation.specs.Naming.{part_named}
use Rattle.clause_reports.specs.elaboration.Functions.{Following, Lines, plan_of, enter_drafts, enter_values, enter_plan, recursion_in, first_domains, function_level, report_walks, report_parts, function_of}
use Rattle.clause_reports.specs.elaboration.Laws.{FunctionKeepsWellFormed}

-- the signature after lines
abbrev GrowsWith : Signature → Lines → Type 0
GrowsWith S lines = Grows S lines.signature

pub no_report-has : {A : Type 0} (P : A → Type 0) (S : Signature) (owner : Owner) (r : Result A ReportStop) → IfOk r P → IfOk (or_no_report S owner r) P
no_report-has P S owner (Ok a) h = h
no_report-has P S owner (Err e) h = tt

enter_drafts-grows : (S : Signature) (name : List ℕ) (drafts : List Draft) (left : ℕ) → Answers (Grows S) (enter_drafts S name drafts left)
enter_drafts-grows S name [] left = grows_same S
enter_drafts-grows S name (d ∷ drafts) left =
    and_next-has (GrowsTo S) (Grows S) (reporting S (owner_of name 0) (enter_draft_of S d left)) _
    (no_report-has (GrowsTo S) S (owner_of name 0) (enter_draft_of S d left).0 (entering-grows S d left)) (λ e rest g.
    weaker (Grows e.signature) (Grows S) (enter_drafts e.signature name drafts rest).0 (λ U h. grows_on S e.signature U g h)
    (enter_drafts-grows e.signature name drafts rest))

pub enter_values-grows : (S : Signature) (plan : Plan) (r : Option Recursion) (parts : List Part) (left : ℕ) → Answers (Grows S) (enter_values S plan r parts left)
enter_values-grows S plan None parts left = grows_same S
enter_values-grows S plan (Some r) [] left = grows_same S
enter_values-grows S plan (Some r) (own ∷ []) left = grows_same S
enter_values-grows S plan (Some r) (own ∷ helper ∷ helpers) left =
    let m = Names (all_name r.family plan.level) in
    no_report-has (Grows S) S (owner_of plan.name 0) (enter_mention enter_needed S m left).0 (enter_mention-grows enter_needed enter_needed-grows S m left)

enter_plan-grows : (S : Signature) (plan : Plan) (left : ℕ) → Answers (Grows S) (enter_plan S plan left)
enter_plan-grows S plan left =
    let r = recursion_in S (first_domains plan.arity plan.type) plan.position in
    and_next-has Any (Grows S) (or_halts (translate S plan), left) _ (any (or_halts (translate S plan))) (λ drafts rest u.
    and_next-has (Grows S) (Grows S) (enter_drafts S plan.name drafts rest) _ (enter_drafts-grows S plan.name drafts rest) (λ T end g.
    weaker (Grows T) (Grows S) (enter_values T plan r plan.parts end).0 (λ U h. grows_on S T U g h) (enter_values-grows T plan r plan.parts end)))

report_walks-grow : (plan : Plan) (k number : ℕ) (walks : List Walk) (next : Following)
    → ((S : Signature) (left : ℕ) → Answers (GrowsWith S) (next S left))
    → (S : Signature) (left : ℕ) → Answers (GrowsWith S) (report_walks plan k number walks next S left)
report_walks-grow plan k number [] next h S left = h S left
report_walks-grow plan k number (w ∷ walks) next h S left =
    let owner = owner_of (part_named plan.name k) number in
    let c : Reference = record { part = k; clause = number; walk = w } in
    and_next-has (GrowsBy S) (GrowsWith S) (reporting S owner (report_of S plan c left)) _
    (no_report-has (GrowsBy S) S owner (report_of S plan c left).0 (report-grows S plan c left)) (λ r rest g.
    and_next-has (GrowsWith r.signature) (GrowsWith S) (report_walks plan k (number + 1) walks next r.signature rest) _
    (report_walks-grow plan k (number + 1) walks next h r.signature rest) (λ lines end more. grows_on S r.signature lines.signature g more))

report_parts-grow : (plan : Plan) (k : ℕ) (parts : List Part) (S : Signature) (left : ℕ) → Answers (GrowsWith S) (report_parts plan k parts S left)
report_parts-grow plan k [] S left = grows_same S
report_parts-grow plan k (part ∷ parts) S left =
    report_walks-grow plan k 0 part.walks (report_parts plan (k + 1) parts) (report_parts-grow plan (k + 1) parts) S left

function-grows : (S : Signature) (f : Function) (fuel : ℕ) → Answers (GrowsWith S) (function_of S f fuel)
function-grows S f fuel =
    let sorted = granted S OfType (infer_sort_of S nesting [] f.type fuel) in
    and_next-has Any (GrowsWith S) sorted _ (any sorted.0) (λ sort rest u.
    and_next-has Any (GrowsWith S) (function_level S sort, rest) _ (any (function_level S sort)) (λ level more v.
    let planned = plan_of S f level more in
    and_next-has Any (GrowsWith S) planned _ (any planned.0) (λ plan end w.
    and_next-has (Grows S) (GrowsWith S) (enter_plan S plan end) _ (enter_plan-grows S plan end) (λ T last g.
    weaker (GrowsWith T) (GrowsWith S) (report_parts plan 0 plan.parts T last).0 (λ lines h. grows_on S T lines.signature g h)
    (report_parts-grow plan 0 plan.parts T last)))))

pub function-keeps : FunctionKeepsWellFormed
function-keeps S f fuel h p =
    weaker (GrowsWith S) (λ lines. IsPrefix S lines.signature × IsWellFormed lines.signature) (function_of S f fuel).0
    (λ lines g. (g.prefix, g.keeps h p)) (function-grows S f fuel)
