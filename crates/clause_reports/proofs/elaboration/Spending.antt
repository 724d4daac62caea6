-- A function's phases give no units back.
use Rattle.std.proofs.Common.{ℕ, ◌+◌, ◌≤◌, Option, Some, None, List, [], ◌∷◌, length, arith}
use Rattle.theory.specs.Signatures.{Signature}
use Rattle.theory.specs.WellFormed.{provisional}
use Rattle.core_terms.specs.CaseTrees.{Walk}
use Rattle.core_terms.proofs.Answers.{and_next-spends}
use Rattle.core_sig.specs.Drafts.{Draft}
use Rattle.kernel_check.specs.Checking.{infer_sort_of}
use Rattle.kernel_check.proofs.Spending.{infer_sort-spends}
use Rattle.kernel_reduce.specs.Reduction.{nesting}
use Rattle.resolve.specs.Functions.{Function}
use Rattle.tree_translation.specs.structural_rec.Choices.{choose}
use Rattle.case_trees.specs.Trees.{split_of}
use Rattle.case_trees.proofs.TreeUnits.{tree_spends}
use Rattle.tree_translation.specs.Entries.{translate, ordered_variables}
use Rattle.tree_translation.specs.Plans.{Plan, Part}
use Rattle.tree_translation.specs.Recursion.{Recursion, order_of, ordered_telescope, ordered_term}
use Rattle.clause_reports.specs.DraftEntering.{enter_draft_of, enter_needed, Names}
use Rattle.clause_reports.specs.Generated.{all_name}
use Rattle.clause_reports.specs.Reports.{Reference, report_of}
use Rattle.clause_reports.proofs.Spending.{entering-spends, enter_mention-spends, enter_needed-spends}
use Rattle.clause_reports.proofs.ReportSpending.{report-spends}
use Rattle.clause_reports.specs.elaboration.Refusals.{OfType, or_halts, granted, owner_of, reporting, walking}
use Rattle.tree_translation.specs.Naming.{part_named}
use Rattle.clause_reports.specs.elaboration.Walking.{Session, Walked, walk_clauses}
use Rattle.clause_reports.specs.elaboration.Functions.{Following, own_part, position_chosen, own_finished, helpers_finished, recursion_in, plan_of, enter_drafts, enter_values, enter_plan, first_domains, function_level, report_walks, report_parts}
use Rattle.clause_reports.specs.elaboration.Laws.{FunctionSpends}
use Rattle.clause_reports.proofs.elaboration.WalkSpending.{walk_clauses-spends}

own_finished-spends : (s : Session) (r : Option Recursion) (w : Walked) (left : ℕ) → (own_finished s r w left).1 ≤ left
own_finished-spends s r w left =
    let count = length w.part.tele in
    let order = order_of count r in
    and_next-spends
    (walking s.signature s.name
    (split_of s.signature (ordered_telescope w.part.tele order) (ordered_term count order w.part.goal) (ordered_variables order count) w.clauses left))
    _ left
    (tree_spends s.signature (ordered_telescope w.part.tele order) (ordered_term count order w.part.goal) (ordered_variables order count) w.clauses left)
    (λ t rest. omega arith)

helpers_finished-spends : (s : Session) (r : Option Recursion) (level number : ℕ) (helpers : List Walked) (left : ℕ)
    → (helpers_finished s r level number helpers left).1 ≤ left
helpers_finished-spends s r level number [] left = omega arith
helpers_finished-spends s r level number (w ∷ helpers) left =
    and_next-spends (walking s.signature (part_named s.name number) (split_of s.signature w.part.tele w.part.goal w.part.terms w.clauses left)) _ left
    (tree_spends s.signature w.part.tele w.part.goal w.part.terms w.clauses left) (λ t rest.
    and_next-spends (helpers_finished s r level (number + 1) helpers rest) _ rest (helpers_finished-spends s r level (number + 1) helpers rest)
    (λ parts end. omega arith))

pub plan-spends : (S : Signature) (f : Function) (level left : ℕ) → (plan_of S f level left).1 ≤ left
plan-spends S f level left =
    let s : Session = record { signature = provisional S f.name f.type; name = f.name; own = length S.entries } in
    let part = own_part f level in
    and_next-spends (walk_clauses s 0 part 0 1 f.clauses left) _ left (walk_clauses-spends s 0 part 0 1 f.clauses left) (λ given rest.
    let walked : Walked = record { part = part; clauses = f.clauses; walks = given.walks; sides = given.sides } in
    and_next-spends (position_chosen s (choose S part.tele s.own given.uses), rest) _ rest (omega arith) (λ position more.
    let r = recursion_in S part.tele position in
    and_next-spends (own_finished s r walked more) _ more (own_finished-spends s r walked more) (λ own end.
    and_next-spends (helpers_finished s r level 1 given.helpers end) _ end (helpers_finished-spends s r level 1 given.helpers end) (λ helpers last.
    omega arith))))

enter_drafts-spends : (S : Signature) (name : List ℕ) (drafts : List Draft) (left : ℕ) → (enter_drafts S name drafts left).1 ≤ left
enter_drafts-spends S name [] left = omega arith
enter_drafts-spends S name (d ∷ drafts) left =
    and_next-spends (reporting S (owner_of name 0) (enter_draft_of S d left)) _ left (entering-spends S d left) (λ e rest.
    enter_drafts-spends e.signature name drafts rest)

enter_values-spends : (S : Signature) (plan : Plan) (r : Option Recursion) (parts : List Part) (left : ℕ) → (enter_values S plan r parts left).1 ≤ left
enter_values-spends S plan None parts left = omega arith
enter_values-spends S plan (Some r) [] left = omega arith
enter_values-spends S plan (Some r) (own ∷ []) left = omega arith
enter_values-spends S plan (Some r) (own ∷ helper ∷ helpers) left =
    enter_mention-spends enter_needed enter_needed-spends S (Names (all_name r.family plan.level)) left

enter_plan-spends : (S : Signature) (plan : Plan) (left : ℕ) → (enter_plan S plan left).1 ≤ left
enter_plan-spends S plan left =
    let r = recursion_in S (first_domains plan.arity plan.type) plan.position in
    and_next-spends (or_halts (translate S plan), left) _ left (omega arith) (λ drafts rest.
    and_next-spends (enter_drafts S plan.name drafts rest) _ rest (enter_drafts-spends S plan.name drafts rest) (λ T end.
    enter_values-spends T plan r plan.parts end))

report_walks-spends : (plan : Plan) (k number : ℕ) (walks : List Walk) (next : Following) → ((S : Signature) (left : ℕ) → (next S left).1 ≤ left)
    → (S : Signature) (left : ℕ) → (report_walks plan k number walks next S left).1 ≤ left
report_walks-spends plan k number [] next h S left = h S left
report_walks-spends plan k number (w ∷ walks) next h S left =
    let c : Reference = record { part = k; clause = number; walk = w } in
    and_next-spends (reporting S (owner_of (part_named plan.name k) number) (report_of S plan c left)) _ left (report-spends S plan c left) (λ r rest.
    and_next-spends (report_walks plan k (number + 1) walks next r.signature rest) _ rest
    (report_walks-spends plan k (number + 1) walks next h r.signature rest) (λ lines end. omega arith))

report_parts-spends : (plan : Plan) (k : ℕ) (parts : List Part) (S : Signature) (left : ℕ) → (report_parts plan k parts S left).1 ≤ left
report_parts-spends plan k [] S left = omega arith
report_parts-spends plan k (part ∷ parts) S left =
    report_walks-spends plan k 0 part.walks (report_parts plan (k + 1) parts) (report_parts-spends plan (k + 1) parts) S left

pub function-spends : FunctionSpends
function-spends S f fuel =
    and_next-spends (granted S OfType (infer_sort_of S nesting [] f.type fuel)) _ fuel (infer_sort-spends S nesting [] f.type fuel) (λ sort rest.
    and_next-spends (function_level S sort, rest) _ rest (omega arith) (λ level more.
    and_next-spends (plan_of S f level more) _ more (plan-spends S f level more) (λ plan end.
    and_next-spends (enter_plan S plan end) _ end (enter_plan-spends S plan end) (λ T last. report_parts-spends plan 0 plan.parts T last))))
