-- The phases of a function by clauses, as they follow each other in code.
use Rattle.std.specs.Prelude.{ℕ, ◌+◌, Option, Some, None, List, [], ◌∷◌, ◌++◌, Ok}
use Rattle.theory.specs.Terms.{Term}
use Rattle.theory.specs.Signatures.{Signature}
use Rattle.core_terms.specs.Answers.{and_next}
use Rattle.core_terms.specs.CaseTrees.{Walk}
use Rattle.core_sig.specs.Drafts.{Draft}
use Rattle.kernel_check.specs.Checking.{infer_sort_of}
use Rattle.kernel_reduce.specs.Reduction.{nesting}
use Rattle.resolve.specs.Functions.{Function}
use Rattle.tree_translation.specs.Entries.{translate}
use Rattle.tree_translation.specs.Plans.{Plan, Part}
use Rattle.tree_translation.specs.Recursion.{Recursion}
use Rattle.clause_reports.specs.DraftEntering.{Names, enter_mention, enter_needed}
use Rattle.tree_translation.specs.Naming.{part_named}
use Rattle.clause_reports.specs.Generated.{all_name}
use Rattle.clause_reports.specs.Reports.{Line, Reference, Reported, report_of}
use Rattle.clause_reports.specs.elaboration.Functions.{ClauseLine, Lines, enter_plan, first_domains, function_level, plan_of, recursion_in}
use Rattle.clause_reports.specs.elaboration.Refusals.{Elaborating, OfType, answers, granted, or_halts, owner_of, reporting}
use Rattle.clause_reports.specs.elaboration.Walking.{Opened, Session, walk_clauses}
use Rattle.function_plans.specs.CodePlans.{plan_after}
use Rattle.function_session.specs.function_lines.Opened.{checked_entered, plan_in}

-- ---- the type

-- the level of a function with this type
abbrev pub level_of : Signature → (type : Term) → ℕ → Elaborating ℕ
level_of S type left =
    and_next (granted S OfType (infer_sort_of S nesting [] type left)) (λ sort rest. answers (function_level S sort) rest)

-- ---- the plan

-- the walks of a function's clauses, over a signature that has the function, and then its plan
abbrev pub plan_walked : Session → Function → Opened → ℕ → Elaborating Plan
plan_walked s f part left =
    and_next (walk_clauses s 0 part 0 1 f.clauses left) (λ given rest.
    plan_after s f.type f.arity part.level (record { part = part; clauses = f.clauses; walks = given.walks; sides = given.sides }) given.helpers
    given.uses rest)

-- ---- entries

-- `D!all.L`, where there is recursion, and a helper beside the function itself
abbrev pub values_in : (level : ℕ) → List Part → Option Recursion → Option (List ℕ)
values_in level (own ∷ helper ∷ helpers) (Some r) = Some (all_name r.family level)
values_in level parts r = None

-- the same, with recursion at the plan's position in its written type
abbrev pub values_named : Signature → Plan → Option (List ℕ)
values_named S plan = values_in plan.level plan.parts (recursion_in S (first_domains plan.arity plan.type) plan.position)

abbrev pub values_entered : Signature → (name : List ℕ) → (values : Option (List ℕ)) → ℕ → Elaborating Signature
values_entered S name None left = answers (Ok S) left
values_entered S name (Some values) left = reporting S (owner_of name 0) (enter_mention enter_needed S (Names values) left)

-- drafts of the function with this name, one after the other
abbrev pub drafts_entered : Signature → (name : List ℕ) → List Draft → ℕ → Elaborating Signature
drafts_entered S name [] left = answers (Ok S) left
drafts_entered S name (d ∷ drafts) left = and_next (checked_entered S name d left) (λ T rest. drafts_entered T name drafts rest)

-- the drafts of a plan, and then the values that its equations name
abbrev pub all_entered : Signature → (name : List ℕ) → List Draft → (values : Option (List ℕ)) → ℕ → Elaborating Signature
all_entered S name drafts values left = and_next (drafts_entered S name drafts left) (λ T rest. values_entered T name values rest)

-- the drafts to which a plan translates, and then those values
abbrev pub translated : Signature → Plan → ℕ → Elaborating Signature
translated S plan left =
    and_next (answers (or_halts (translate S plan)) left) (λ drafts rest.
    and_next (answers (Ok (values_named S plan)) rest) (λ values more. all_entered S plan.name drafts values more))

-- ---- lines

-- clause `number` of part k
abbrev pub clause_line : Plan → (k number : ℕ) → Line → ClauseLine
clause_line plan k number line =
    let owner = owner_of (part_named plan.name k) number in
    record { function = owner.function; clause = owner.clause; line = line }

abbrev pub reference_of : (k number : ℕ) → Walk → Reference
reference_of k number w = record { part = k; clause = number; walk = w }

unfoldable pub clause_reported : Plan → (k number : ℕ) → Walk → Signature → ℕ → Elaborating Reported
clause_reported plan k number w S left =
    reporting S (owner_of (part_named plan.name k) number) (report_of S plan (reference_of k number w) left)

abbrev pub lines_with : Signature → List ClauseLine → Lines
lines_with S lines = record { lines = lines; signature = S }

-- lines, followed by those of the clauses of part k from clause `number` on
abbrev pub walks_reported : Plan → (k number : ℕ) → List Walk → (made : List ClauseLine) → Signature → ℕ → Elaborating Lines
walks_reported plan k number [] made S left = answers (Ok (lines_with S made)) left
walks_reported plan k number (w ∷ walks) made S left =
    and_next (clause_reported plan k number w S left) (λ r rest.
    walks_reported plan k (number + 1) walks (made ++ clause_line plan k number r.line ∷ []) r.signature rest)

-- lines, followed by those of the parts from part k on
abbrev pub parts_reported : Plan → (k : ℕ) → List Part → (made : List ClauseLine) → Signature → ℕ → Elaborating Lines
parts_reported plan k [] made S left = answers (Ok (lines_with S made)) left
parts_reported plan k (part ∷ parts) made S left =
    and_next (walks_reported plan k 0 part.walks made S left) (λ lines rest.
    parts_reported plan (k + 1) parts lines.lines lines.signature rest)

-- ---- all of it

-- the entries of a plan, and then its lines
abbrev pub plan_reported : Plan → Signature → ℕ → Elaborating Lines
plan_reported plan S left = and_next (enter_plan S plan left) (λ T rest. parts_reported plan 0 plan.parts [] T rest)

-- the function phase by phase, each over what the one before it left
abbrev pub function_phases : Signature → Function → (fuel : ℕ) → Elaborating Lines
function_phases S f fuel =
    and_next (level_of S f.type fuel) (λ level rest. and_next (plan_of S f level rest) (λ plan more. plan_in plan S more))
