-- The entries of a function by clauses are accepted one by one.
use Rattle.std.proofs.Common.{ℕ, ◌+◌, ◌≤◌, Option, Some, None, List, [], ◌∷◌, arith}
use Rattle.theory.specs.Signatures.{Signature}
use Rattle.core_terms.specs.CaseTrees.{Walk}
use Rattle.core_sig.specs.Drafts.{Draft}
use Rattle.kernel_check.specs.Checking.{infer_sort_of}
use Rattle.kernel_check.proofs.Spending.{infer_sort-spends}
use Rattle.kernel_reduce.specs.Reduction.{nesting}
use Rattle.resolve.specs.Functions.{Function}
use Rattle.tree_translation.specs.Entries.{translate}
use Rattle.tree_translation.specs.Plans.{Plan, Part}
use Rattle.tree_translation.specs.Recursion.{Recursion}
use Rattle.clause_reports.specs.DraftEntering.{enter_draft_of, enter_needed, enter_mention, Names}
use Rattle.tree_translation.specs.Naming.{part_named}
use Rattle.clause_reports.specs.Generated.{all_name}
use Rattle.clause_reports.specs.Reports.{Reference, report_of}
use Rattle.clause_reports.specs.Stops.{Reporting}
use Rattle.clause_reports.proofs.Keeping.{Any, any}
use Rattle.clause_reports.specs.elaboration.Refusals.{Owner, OfType, or_halts, granted, owner_of, reporting}
use Rattle.clause_reports.specs.elaboration.Functions.{Following, Lines, plan_of, enter_drafts, enter_values, enter_plan, recursion_in, first_domains, function_level, report_walks, report_parts, function_of}
use Rattle.clause_reports.proofs.elaboration.Keeping.{no_report-has}
use Rattle.clause_reports.proofs.elaboration.Spending.{plan-spends}
use Rattle.elim.specs.refusal_laws.accepted_laws.Checked.{Checked, unchanged}
use Rattle.elim.specs.refusal_laws.accepted_laws.Laws.{FunctionIsChecked}
use Rattle.elim.proofs.refusal_laws.accepted_laws.Drafts.{draft-within, mention-within}
use Rattle.elim.proofs.refusal_laws.accepted_laws.Reports.{CheckedBy, report-within}
use Rattle.elim.proofs.refusal_laws.accepted_laws.Steps.{CheckedTo, Within, within-next, weaker-within, checked-on, below}

-- ---- new entries

module _ (fuel : ℕ) where
  -- the signature after lines
  abbrev CheckedWith : Signature → Lines → Type 0
  CheckedWith S lines = Checked fuel S lines.signature

  pub reporting-within : {A : Type 0} (P : A → Type 0) (S : Signature) (owner : Owner) (outcome : Reporting A) → Within fuel P outcome
      → Within fuel P (reporting S owner outcome)
  reporting-within P S owner outcome h = (no_report-has P S owner outcome.0 h.0, h.1)

  enter_drafts-within : (S : Signature) (name : List ℕ) (drafts : List Draft) (left : ℕ) → left ≤ fuel → Within fuel (Checked fuel S) (enter_drafts S name drafts left)
  enter_drafts-within S name [] left le = (unchanged, le)
  enter_drafts-within S name (d ∷ drafts) left le =
      within-next fuel (CheckedTo fuel S) (Checked fuel S) (reporting S (owner_of name 0) (enter_draft_of S d left)) _
      (reporting-within (CheckedTo fuel S) S (owner_of name 0) (enter_draft_of S d left) (draft-within fuel S d left le)) (λ e rest less g.
      weaker-within fuel (Checked fuel e.signature) (Checked fuel S) (enter_drafts e.signature name drafts rest) (λ U h. checked-on g h)
      (enter_drafts-within e.signature name drafts rest less))

  enter_values-within : (S : Signature) (plan : Plan) (r : Option Recursion) (parts : List Part) (left : ℕ) → left ≤ fuel
      → Within fuel (Checked fuel S) (enter_values S plan r parts left)
  enter_values-within S plan None parts left le = (unchanged, le)
  enter_values-within S plan (Some r) [] left le = (unchanged, le)
  enter_values-within S plan (Some r) (own ∷ []) left le = (unchanged, le)
  enter_values-within S plan (Some r) (own ∷ helper ∷ helpers) left le =
      let m = Names (all_name r.family plan.level) in
      reporting-within (Checked fuel S) S (owner_of plan.name 0) (enter_mention enter_needed S m left) (mention-within fuel S m left le)

  enter_plan-within : (S : Signature) (plan : Plan) (left : ℕ) → left ≤ fuel → Within fuel (Checked fuel S) (enter_plan S plan left)
  enter_plan-within S plan left le =
      let r = recursion_in S (first_domains plan.arity plan.type) plan.position in
      within-next fuel Any (Checked fuel S) (or_halts (translate S plan), left) _ (any (or_halts (translate S plan)), le) (λ drafts rest less u.
      within-next fuel (Checked fuel S) (Checked fuel S) (enter_drafts S plan.name drafts rest) _ (enter_drafts-within S plan.name drafts rest less) (λ T end last g.
      weaker-within fuel (Checked fuel T) (Checked fuel S) (enter_values T plan r plan.parts end) (λ U h. checked-on g h) (enter_values-within T plan r plan.parts end last)))

  -- ---- lines

  report_walks-within : (plan : Plan) (k number : ℕ) (walks : List Walk) (next : Following)
      → ((S : Signature) (left : ℕ) → left ≤ fuel → Within fuel (CheckedWith S) (next S left))
      → (S : Signature) (left : ℕ) → left ≤ fuel → Within fuel (CheckedWith S) (report_walks plan k number walks next S left)
  report_walks-within plan k number [] next h S left le = h S left le
  report_walks-within plan k number (w ∷ walks) next h S left le =
      let owner = owner_of (part_named plan.name k) number in
      let c : Reference = record { part = k; clause = number; walk = w } in
      within-next fuel (CheckedBy fuel S) (CheckedWith S) (reporting S owner (report_of S plan c left)) _
      (reporting-within (CheckedBy fuel S) S owner (report_of S plan c left) (report-within fuel S plan c left le)) (λ r rest less g.
      within-next fuel (CheckedWith r.signature) (CheckedWith S) (report_walks plan k (number + 1) walks next r.signature rest) _
      (report_walks-within plan k (number + 1) walks next h r.signature rest less) (λ lines end last more. (checked-on g more, last)))

  report_parts-within : (plan : Plan) (k : ℕ) (parts : List Part) (S : Signature) (left : ℕ) → left ≤ fuel → Within fuel (CheckedWith S) (report_parts plan k parts S left)
  report_parts-within plan k [] S left le = (unchanged, le)
  report_parts-within plan k (part ∷ parts) S left le =
      report_walks-within plan k 0 part.walks (report_parts plan (k + 1) parts) (report_parts-within plan (k + 1) parts) S left le

  pub function-within : (S : Signature) (f : Function) (left : ℕ) → left ≤ fuel → Within fuel (CheckedWith S) (function_of S f left)
  function-within S f left le =
      let sorted = granted S OfType (infer_sort_of S nesting [] f.type left) in
      within-next fuel Any (CheckedWith S) sorted _ (any sorted.0, below sorted.1 left fuel (infer_sort-spends S nesting [] f.type left) le) (λ sort rest less u.
      within-next fuel Any (CheckedWith S) (function_level S sort, rest) _ (any (function_level S sort), less) (λ level more few v.
      let planned = plan_of S f level more in
      within-next fuel Any (CheckedWith S) planned _ (any planned.0, below planned.1 more fuel (plan-spends S f level more) few) (λ plan end fewer w.
      within-next fuel (Checked fuel S) (CheckedWith S) (enter_plan S plan end) _ (enter_plan-within S plan end fewer) (λ T last least g.
      weaker-within fuel (CheckedWith T) (CheckedWith S) (report_parts plan 0 plan.parts T last) (λ lines h. checked-on g h)
      (report_parts-within plan 0 plan.parts T last least)))))

pub function-is-checked : FunctionIsChecked
function-is-checked S f fuel = (function-within fuel S f fuel (omega arith)).0
