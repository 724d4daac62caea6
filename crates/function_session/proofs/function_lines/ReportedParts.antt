-- Lines that follow others are the lines that are meant.
use Rattle.std.proofs.Common.{◌≡◌, ℕ, ◌+◌, Bool, true, cond, List, [], ◌∷◌, ◌++◌, Result, Ok, Err, refl, sym, ap, ◌∙◌}
use Rattle.theory.specs.Signatures.{Signature}
use Rattle.core_terms.specs.Answers.{and_next, on_answer}
use Rattle.core_terms.specs.CaseTrees.{Walk}
use Rattle.tree_translation.specs.Plans.{Part, Plan}
use Rattle.clause_reports.specs.elaboration.Functions.{ClauseLine, Following, Lines, enter_plan, report_parts, report_walks, with_line}
use Rattle.clause_reports.specs.elaboration.Refusals.{Elaborating, Refusal}
use Rattle.drafts.proofs.draft_entering.Entered.{next-assoc}
use Rattle.drafts.specs.draft_checks.Checks.{unmarked}
use Rattle.tele_eq.proofs.Growing.{snoc-append}
use Rattle.function_session.specs.function_lines.Opened.{deep, opened_in, plan_in}
use Rattle.function_session.specs.function_lines.Phases.{clause_line, clause_reported, lines_with, parts_reported, plan_reported, walks_reported}
use Rattle.function_session.proofs.function_lines.Agreeing.{spent}
use Rattle.function_session.proofs.plan_laws.ExactPlans.{next-same}

-- some lines are made already, and others follow
abbrev Made : Type 0
Made = (made : List ClauseLine) → Signature → ℕ → Elaborating Lines

abbrev before : List ClauseLine → Lines → ℕ → Elaborating Lines
before made lines end = spent (Ok (lines_with lines.signature (made ++ lines.lines))) end

abbrev prefixed : (made : List ClauseLine) → Elaborating Lines → Elaborating Lines
prefixed made outcome = and_next outcome (before made)

-- one of them is made first
shifted : (made : List ClauseLine) (line : ClauseLine) (outcome : Elaborating Lines)
    → prefixed (made ++ line ∷ []) outcome ≡ prefixed made (and_next outcome (λ lines end. spent (Ok (with_line line lines)) end))
shifted made line outcome = by outcome.0 outcome.1
  where
    by : (r : Result Lines Refusal) (n : ℕ)
        → on_answer r n (before (made ++ line ∷ []))
        ≡ and_next (on_answer r n (λ lines end. spent (Ok (with_line line lines)) end)) (before made)
    by (Ok lines) n = ap (λ ls. spent (Ok (lines_with lines.signature ls)) n) (snoc-append made line lines.lines)
    by (Err e) n = refl

none-behind : (made : List ClauseLine) → made ++ [] ≡ made
none-behind [] = refl
none-behind (line ∷ made) = ap (λ ls. line ∷ ls) (none-behind made)

nothing-before : (outcome : Elaborating Lines) → prefixed [] outcome ≡ outcome
nothing-before outcome = by outcome.0 outcome.1
  where
    by : (r : Result Lines Refusal) (n : ℕ) → on_answer r n (before []) ≡ spent r n
    by (Ok lines) n = refl
    by (Err e) n = refl

-- ---- clauses and parts

walks-same : (plan : Plan) (k number : ℕ) (walks : List Walk) (after : Made) (next : Following)
    → ((made : List ClauseLine) (T : Signature) (left : ℕ) → after made T left ≡ prefixed made (next T left))
    → (made : List ClauseLine) (T : Signature) (left : ℕ)
    → and_next (walks_reported plan k number walks made T left) (λ lines rest. after lines.lines lines.signature rest)
    ≡ prefixed made (report_walks plan k number walks next T left)
unfolding clause_reported
walks-same plan k number [] after next h made T left = h made T left
walks-same plan k number (w ∷ walks) after next h made T left =
    let first = clause_reported plan k number w T left in
    next-assoc first (λ r rest. walks_reported plan k (number + 1) walks (made ++ clause_line plan k number r.line ∷ []) r.signature rest)
    (λ lines rest. after lines.lines lines.signature rest)
    ∙ (next-same first _
    (λ r rest.
    prefixed made
    (and_next (report_walks plan k (number + 1) walks next r.signature rest) (λ lines end.
    spent (Ok (with_line (clause_line plan k number r.line) lines)) end)))
    (λ r rest e.
    walks-same plan k (number + 1) walks after next h (made ++ clause_line plan k number r.line ∷ []) r.signature rest
    ∙ shifted made (clause_line plan k number r.line) (report_walks plan k (number + 1) walks next r.signature rest))
    ∙ sym
    (next-assoc first
    (λ r rest.
    and_next (report_walks plan k (number + 1) walks next r.signature rest) (λ lines end.
    spent (Ok (with_line (clause_line plan k number r.line) lines)) end))
    (before made)))

parts-same : (plan : Plan) (k : ℕ) (parts : List Part) (made : List ClauseLine) (T : Signature) (left : ℕ)
    → parts_reported plan k parts made T left ≡ prefixed made (report_parts plan k parts T left)
parts-same plan k [] made T left = ap (λ ls. spent (Ok (lines_with T ls)) left) (sym (none-behind made))
parts-same plan k (part ∷ parts) made T left =
    walks-same plan k 0 part.walks (λ made T left. parts_reported plan (k + 1) parts made T left) (report_parts plan (k + 1) parts)
    (λ made T left. parts-same plan (k + 1) parts made T left) made T left

-- the lines of a plan over a signature without marks
pub plan-is : (plan : Plan) (S : Signature) (left : ℕ) → unmarked S ≡ true → plan_reported plan S left ≡ plan_in plan S left
plan-is plan S left marks =
    next-same (enter_plan S plan left) _ _ (λ T rest e.
    parts-same plan 0 plan.parts [] T rest ∙ nothing-before (report_parts plan 0 plan.parts T rest))
    ∙ ap (λ (b : Bool). cond b (opened_in plan S left) (deep left)) (sym marks)
