-- A function that is accepted leaves a signature that has more entries, which are no families.
use Rattle.std.proofs.Common.{ℕ, ◌+◌, Option, Some, None, List, [], ◌∷◌}
use Rattle.theory.specs.Signatures.{Signature}
use Rattle.core_terms.specs.CaseTrees.{Walk}
use Rattle.core_terms.proofs.Answers.{Answers, and_next-has}
use Rattle.core_sig.specs.Drafts.{Draft}
use Rattle.kernel_check.specs.Checking.{infer_sort_of}
use Rattle.kernel_reduce.specs.Reduction.{nesting}
use Rattle.resolve.specs.Functions.{Function}
use Rattle.tree_translation.specs.Entries.{translate}
use Rattle.tree_translation.specs.Plans.{Plan, Part}
use Rattle.tree_translation.specs.Recursion.{Recursion}
use Rattle.clause_reports.specs.DraftEntering.{enter_draft_of, enter_needed, enter_mention, Names}
use Rattle.clause_reports.specs.Generated.{all_name}
use Rattle.clause_reports.specs.Reports.{Reference, report_of}
use Rattle.clause_reports.proofs.Keeping.{weaker, Any, any}
use Rattle.drafts.specs.draft_entering.Conditions.{Extends}
use Rattle.drafts.proofs.draft_entering.Longer.{extends-same, extends-on}
use Rattle.drafts.proofs.draft_entering.Entered.{ExtendsTo}
use Rattle.drafts.proofs.entering_laws.EnteredOpen.{entering-extends, enter_mention-extends, enter_needed-extends}
use Rattle.function_session.proofs.function_laws.declaration_laws.ExtendedReports.{ExtendsBy, report-extends}
use Rattle.clause_reports.specs.elaboration.Refusals.{OfType, or_halts, granted, owner_of, reporting}
use Rattle.tree_translation.specs.Naming.{part_named}
use Rattle.clause_reports.specs.elaboration.Functions.{Following, Lines, plan_of, enter_drafts, enter_values, enter_plan, recursion_in, first_domains, function_level, report_walks, report_parts, function_of}
use Rattle.clause_reports.proofs.elaboration.Keeping.{no_report-has}

-- the signature after lines
abbrev pub ExtendsWith : Signature → Lines → Type 0
ExtendsWith S lines = Extends S lines.signature

enter_drafts-extends : (S : Signature) (name : List ℕ) (drafts : List Draft) (left : ℕ) → Answers (Extends S) (enter_drafts S name drafts left)
enter_drafts-extends S name [] left = extends-same S
enter_drafts-extends S name (d ∷ drafts) left =
    and_next-has (ExtendsTo S) (Extends S) (reporting S (owner_of name 0) (enter_draft_of S d left)) _
    (no_report-has (ExtendsTo S) S (owner_of name 0) (enter_draft_of S d left).0 (entering-extends S d left)) (λ e rest g.
    weaker (Extends e.signature) (Extends S) (enter_drafts e.signature name drafts rest).0 (λ U h. extends-on S e.signature U g h)
    (enter_drafts-extends e.signature name drafts rest))

enter_values-extends : (S : Signature) (plan : Plan) (r : Option Recursion) (parts : List Part) (left : ℕ) → Answers (Extends S) (enter_values S plan r parts left)
enter_values-extends S plan None parts left = extends-same S
enter_values-extends S plan (Some r) [] left = extends-same S
enter_values-extends S plan (Some r) (own ∷ []) left = extends-same S
enter_values-extends S plan (Some r) (own ∷ helper ∷ helpers) left =
    let m = Names (all_name r.family plan.level) in
    no_report-has (Extends S) S (owner_of plan.name 0) (enter_mention enter_needed S m left).0 (enter_mention-extends enter_needed enter_needed-extends S m left)

enter_plan-extends : (S : Signature) (plan : Plan) (left : ℕ) → Answers (Extends S) (enter_plan S plan left)
enter_plan-extends S plan left =
    let r = recursion_in S (first_domains plan.arity plan.type) plan.position in
    and_next-has Any (Extends S) (or_halts (translate S plan), left) _ (any (or_halts (translate S plan))) (λ drafts rest u.
    and_next-has (Extends S) (Extends S) (enter_drafts S plan.name drafts rest) _ (enter_drafts-extends S plan.name drafts rest) (λ T end g.
    weaker (Extends T) (Extends S) (enter_values T plan r plan.parts end).0 (λ U h. extends-on S T U g h) (enter_values-extends T plan r plan.parts end)))

report_walks-extend : (plan : Plan) (k number : ℕ) (walks : List Walk) (next : Following)
    → ((S : Signature) (left : ℕ) → Answers (ExtendsWith S) (next S left))
    → (S : Signature) (left : ℕ) → Answers (ExtendsWith S) (report_walks plan k number walks next S left)
report_walks-extend plan k number [] next h S left = h S left
report_walks-extend plan k number (w ∷ walks) next h S left =
    let owner = owner_of (part_named plan.name k) number in
    let c : Reference = record { part = k; clause = number; walk = w } in
    and_next-has (ExtendsBy S) (ExtendsWith S) (reporting S owner (report_of S plan c left)) _
    (no_report-has (ExtendsBy S) S owner (report_of S plan c left).0 (report-extends S plan c left)) (λ r rest g.
    and_next-has (ExtendsWith r.signature) (ExtendsWith S) (report_walks plan k (number + 1) walks next r.signature rest) _
    (report_walks-extend plan k (number + 1) walks next h r.signature rest) (λ lines end more. extends-on S r.signature lines.signature g more))

report_parts-extend : (plan : Plan) (k : ℕ) (parts : List Part) (S : Signature) (left : ℕ) → Answers (ExtendsWith S) (report_parts plan k parts S left)
report_parts-extend plan k [] S left = extends-same S
report_parts-extend plan k (part ∷ parts) S left =
    report_walks-extend plan k 0 part.walks (report_parts plan (k + 1) parts) (report_parts-extend plan (k + 1) parts) S left

pub function-extends : (S : Signature) (f : Function) (fuel : ℕ) → Answers (ExtendsWith S) (function_of S f fuel)
function-extends S f fuel =
    let sorted = granted S OfType (infer_sort_of S nesting [] f.type fuel) in
    and_next-has Any (ExtendsWith S) sorted _ (any sorted.0) (λ sort rest u.
    and_next-has Any (ExtendsWith S) (function_level S sort, rest) _ (any (function_level S sort)) (λ level more v.
    let planned = plan_of S f level more in
    and_next-has Any (ExtendsWith S) planned _ (any planned.0) (λ plan end w.
    and_next-has (Extends S) (ExtendsWith S) (enter_plan S plan end) _ (enter_plan-extends S plan end) (λ T last g.
    weaker (ExtendsWith T) (ExtendsWith S) (report_parts plan 0 plan.parts T last).0 (λ lines h. extends-on S T lines.signature g h)
    (report_parts-extend plan 0 plan.parts T last)))))
