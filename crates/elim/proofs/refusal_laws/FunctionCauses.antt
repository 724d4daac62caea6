-- Whatever a function is refused for has its cause: its entries and lines are refused for what no cause is asked of.
use Rattle.std.proofs.Common.{◌≡◌, refl, arith, ℕ, ◌+◌, Bool, true, false, cond, nat_lt, Option, Some, None, Ok, Err, IfErr, List, [], ◌∷◌}
use Rattle.std.proofs.lemmas.Bool.Decides.{nat_tests}
use Rattle.theory.specs.Terms.{Term, Sort}
use Rattle.theory.specs.Signatures.{Signature}
use Rattle.core_sig.specs.Drafts.{Draft}
use Rattle.core_terms.specs.CaseTrees.{Walk}
use Rattle.kernel_check.specs.Checking.{infer_sort_of}
use Rattle.kernel_reduce.specs.Reduction.{nesting}
use Rattle.tree_translation.specs.Entries.{translate}
use Rattle.tree_translation.specs.Plans.{Plan, Part}
use Rattle.tree_translation.specs.Recursion.{Recursion}
use Rattle.clause_reports.proofs.Keeping.{Any}
use Rattle.clause_reports.specs.DraftEntering.{Names, enter_draft_of, enter_mention, enter_needed}
use Rattle.tree_translation.specs.Naming.{part_named}
use Rattle.clause_reports.specs.Generated.{all_name}
use Rattle.clause_reports.specs.Reports.{Reference, report_of}
use Rattle.drafts.specs.draft_checks.Checks.{unmarked}
use Rattle.clause_reports.specs.elaboration.Functions.{Following, enter_drafts, enter_plan, enter_values, first_domains, function_level, function_of, plan_of, planned_of, recursion_in, report_parts, report_walks}
use Rattle.clause_reports.specs.elaboration.Refusals.{OfType, answers, granted, level_too_high, or_halts, owner_of, reporting}
use Rattle.clause_reports.specs.elaboration.Walking.{greatest_level}
use Rattle.function_session.specs.function_lines.Conditions.{IsFunctionOver}
use Rattle.function_session.specs.function_lines.Opened.{deep, function_in, lines_closed}
use Rattle.resolve.specs.Functions.{Function}
use Rattle.elim.specs.refusal_laws.Causes.{Caused, no_sort, too_high}
use Rattle.elim.specs.refusal_laws.Laws.{MeantIsCaused, RefusalIsCaused}
use Rattle.elim.proofs.refusal_laws.Chains.{Refuses, granted-caused, halts-caused, next-refuses, refused-err, report-caused}
use Rattle.elim.proofs.refusal_laws.PlanCauses.{plan-meant}
use Rattle.elim.proofs.refusal_laws.Rejections.{entering-rejects, mentioning-rejects}
use Rattle.elim.proofs.refusal_laws.ReportCauses.{report-rejects}
use Rattle.elim.proofs.refusal_laws.WalkCauses.{splits-any}
use Rattle.elim.specs.written_functions.Clauses.{with_own}

level-caused : (S : Signature) (f : Function) (T : Signature) (sort : Term) → IfErr (function_level T sort) (Caused S f)
level-caused S f T (Sort J) = by (nat_lt greatest_level J) refl
  where
    by : (b : Bool) → nat_lt greatest_level J ≡ b → IfErr (cond b (Err (level_too_high T OfType J greatest_level)) (Ok J)) (Caused S f)
    by true is = too_high T OfType J (grind (arith, nat_tests)) refl
    by false is = tt
level-caused S f T _ = tt

module _ (S : Signature) (f : Function) where
  enter_drafts-caused : (T : Signature) (name : List ℕ) (drafts : List Draft) (left : ℕ) → Refuses (Caused S f) (enter_drafts T name drafts left)
  enter_drafts-caused T name [] left = tt
  enter_drafts-caused T name (d ∷ drafts) left =
      let entered = reporting T (owner_of name 0) (enter_draft_of T d left) in
      next-refuses Any (Caused S f) entered _
      (splits-any (Caused S f) entered.0 (report-caused S f T (owner_of name 0) (enter_draft_of T d left).0 (entering-rejects T d left))) (λ e rest u.
      enter_drafts-caused e.signature name drafts rest)

  enter_values-caused : (T : Signature) (plan : Plan) (r : Option Recursion) (parts : List Part) (left : ℕ)
      → Refuses (Caused S f) (enter_values T plan r parts left)
  enter_values-caused T plan None parts left = tt
  enter_values-caused T plan (Some r) [] left = tt
  enter_values-caused T plan (Some r) (own ∷ []) left = tt
  enter_values-caused T plan (Some r) (own ∷ helper ∷ helpers) left =
      report-caused S f T (owner_of plan.name 0) (enter_mention enter_needed T (Names (all_name r.family plan.level)) left).0
      (mentioning-rejects T (Names (all_name r.family plan.level)) left)

  enter_plan-caused : (plan : Plan) (left : ℕ) → Refuses (Caused S f) (enter_plan S plan left)
  enter_plan-caused plan left =
      let drafts_made = or_halts (translate S plan) in
      let r = recursion_in S (first_domains plan.arity plan.type) plan.position in
      next-refuses Any (Caused S f) (answers drafts_made left) _ (splits-any (Caused S f) drafts_made (halts-caused S f (translate S plan))) (λ drafts rest u.
      let entered = enter_drafts S plan.name drafts rest in
      next-refuses Any (Caused S f) entered _ (splits-any (Caused S f) entered.0 (enter_drafts-caused S plan.name drafts rest)) (λ T end v.
      enter_values-caused T plan r plan.parts end))

  report_walks-caused : (plan : Plan) (k number : ℕ) (walks : List Walk) (next : Following)
      → ((T : Signature) (left : ℕ) → Refuses (Caused S f) (next T left)) → (T : Signature) (left : ℕ)
      → Refuses (Caused S f) (report_walks plan k number walks next T left)
  report_walks-caused plan k number [] next h T left = h T left
  report_walks-caused plan k number (w ∷ walks) next h T left =
      let owner = owner_of (part_named plan.name k) number in
      let c : Reference = record { part = k; clause = number; walk = w } in
      let line = reporting T owner (report_of T plan c left) in
      next-refuses Any (Caused S f) line _ (splits-any (Caused S f) line.0 (report-caused S f T owner (report_of T plan c left).0 (report-rejects T plan c left))) (λ r rest u.
      let others = report_walks plan k (number + 1) walks next r.signature rest in
      next-refuses Any (Caused S f) others _
      (splits-any (Caused S f) others.0 (report_walks-caused plan k (number + 1) walks next h r.signature rest)) (λ lines end v. tt))

  report_parts-caused : (plan : Plan) (k : ℕ) (parts : List Part) (T : Signature) (left : ℕ) → Refuses (Caused S f) (report_parts plan k parts T left)
  report_parts-caused plan k [] T left = tt
  report_parts-caused plan k (part ∷ parts) T left =
      report_walks-caused plan k 0 part.walks (report_parts plan (k + 1) parts) (report_parts-caused plan (k + 1) parts) T left

  planned-caused : (fuel : ℕ) → IsFunctionOver (with_own S f) f → Refuses (Caused S f) (planned_of S f fuel)
  planned-caused fuel over =
      let asked = infer_sort_of S nesting [] f.type fuel in
      let found = granted S OfType asked in
      next-refuses Any (Caused S f) found _ (splits-any (Caused S f) found.0 (granted-caused S f S OfType asked.0
      (λ d is. no_sort S OfType [] f.type fuel d is refl))) (λ sort rest u.
      next-refuses Any (Caused S f) (answers (function_level S sort) rest) _ (splits-any (Caused S f) (function_level S sort) (level-caused S f S sort)) (λ level more v.
      plan-meant S f level more over))

  meant-caused : (fuel : ℕ) → IsFunctionOver (with_own S f) f → Refuses (Caused S f) (function_of S f fuel)
  meant-caused fuel over =
      let asked = infer_sort_of S nesting [] f.type fuel in
      let found = granted S OfType asked in
      next-refuses Any (Caused S f) found _ (splits-any (Caused S f) found.0 (granted-caused S f S OfType asked.0
      (λ d is. no_sort S OfType [] f.type fuel d is refl))) (λ sort rest u.
      next-refuses Any (Caused S f) (answers (function_level S sort) rest) _ (splits-any (Caused S f) (function_level S sort) (level-caused S f S sort)) (λ level more v.
      next-refuses Any (Caused S f) (plan_of S f level more) _
      (splits-any (Caused S f) (plan_of S f level more).0 (plan-meant S f level more over)) (λ plan end x.
      next-refuses Any (Caused S f) (enter_plan S plan end) _ (splits-any (Caused S f) (enter_plan S plan end).0 (enter_plan-caused plan end)) (λ T last y.
      report_parts-caused plan 0 plan.parts T last))))

-- ---- over the signature of a session

opened-caused : (S : Signature) (f : Function) (fuel : ℕ) → IsFunctionOver (with_own S f) f → Refuses (Caused S f) (function_in S f fuel)
opened-caused S f fuel over = by (unmarked S)
  where
    by : (b : Bool) → Refuses (Caused S f) (cond b (function_of S f fuel) (lines_closed S f fuel))
    by true = meant-caused S f fuel over
    by false =
        next-refuses Any (Caused S f) (planned_of S f fuel) (λ plan left. deep left)
        (splits-any (Caused S f) (planned_of S f fuel).0 (planned-caused S f fuel over)) (λ plan left u. tt)

pub refusal-is_caused : RefusalIsCaused
refusal-is_caused S f fuel e over is = refused-err (Caused S f) (function_in S f fuel).0 e is (opened-caused S f fuel over)

pub meant-is_caused : MeantIsCaused
meant-is_caused S f fuel e over is = refused-err (Caused S f) (function_of S f fuel).0 e is (meant-caused S f fuel over)
