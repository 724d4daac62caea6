-- A function by clauses, phase by phase, with one count of units: its type and level; the own walks of its clauses; its decreasing
-- argument; its trees and those of its helpers; its entries; and the report of each clause.
use Rattle.std.specs.Prelude.{ℕ, zero, suc, ◌+◌, nat_lt, cond, max, Option, Some, None, List, [], ◌∷◌, length, map, Result, Ok, Err}
use Rattle.theory.specs.Terms.{Term, Sort, Pi}
use Rattle.theory.specs.Telescopes.{Telescope, variables}
use Rattle.theory.specs.Signatures.{Signature}
use Rattle.theory.specs.WellFormed.{provisional}
use Rattle.core_terms.specs.Answers.{and_next}
use Rattle.core_terms.specs.CaseTrees.{Tree, Walk}
use Rattle.core_terms.specs.Clauses as clause
use Rattle.core_terms.specs.Clauses.{Clauses, Is}
use Rattle.core_terms.specs.Patterns.{Pats}
use Rattle.core_text.specs.TermText.{term_text}
use Rattle.kernel_check.specs.Checking.{infer_sort_of}
use Rattle.kernel_reduce.specs.Reduction.{nesting}
use Rattle.resolve.specs.Functions.{Function}
use Rattle.tree_translation.specs.structural_rec.Choices.{Choice, Failing, NotRecursive, At, NotSmaller, choose}
use Rattle.case_trees.specs.Trees.{split_of}
use Rattle.tree_translation.specs.Entries.{translate, ordered_variables}
use Rattle.tree_translation.specs.Plans.{Plan, Part}
use Rattle.tree_translation.specs.Recursion.{Recursion, recursion_at, order_of, ordered_telescope, ordered_term}
use Rattle.core_sig.specs.Drafts.{Draft}
use Rattle.clause_reports.specs.DraftEntering.{enter_draft_of, enter_needed, enter_mention, Names}
use Rattle.tree_translation.specs.Naming.{part_named}
use Rattle.clause_reports.specs.Generated.{all_name}
use Rattle.clause_reports.specs.Reports.{Line, report_of}
use Rattle.clause_reports.specs.elaboration.Refusals as refusal
use Rattle.clause_reports.specs.elaboration.Refusals.{Refusal, FailingCall, OfType, Elaborating, owner_of, answers, or_halts, granted, level_too_high, reporting, walking}
use Rattle.clause_reports.specs.elaboration.Walking.{Session, Opened, Walked, greatest_level, walk_clauses}

-- ---- the type

-- the types of a number of products, and the type after them
abbrev pub first_domains : (count : ℕ) → Term → Telescope
first_domains zero type = []
first_domains (suc count) (Pi a b) = a ∷ first_domains count b
first_domains count type = []

abbrev pub after_domains : (count : ℕ) → Term → Term
after_domains (suc count) (Pi a b) = after_domains count b
after_domains count type = type

-- the level of the function, where it is not too high
abbrev pub function_level : Signature → (sort : Term) → Result ℕ Refusal
function_level S (Sort J) = cond (nat_lt greatest_level J) (Err (level_too_high S OfType J greatest_level)) (Ok J)
function_level S sort = Ok 0

abbrev pub own_part : Function → (level : ℕ) → Opened
own_part f level = record {
  level = level;
  tele = first_domains f.arity f.type;
  terms = variables f.arity;
  goal = after_domains f.arity f.type;
}

-- ---- the position

abbrev pub failing_call : Session → Failing → FailingCall
failing_call s row = record {
  position = row.position + 1;
  owner = owner_of (part_named s.name row.function) row.clause;
  call = term_text s.signature row.call;
}

abbrev pub position_chosen : Session → Choice → Result (Option ℕ) Refusal
position_chosen s NotRecursive = Ok None
position_chosen s (At j) = Ok (Some j)
position_chosen s (NotSmaller rows) = Err (refusal.NotSmaller (map (failing_call s) rows))

-- ---- trees

abbrev pub patterns_in : Clauses → List Pats
patterns_in clause.nil = []
patterns_in (clause.cons (Is pats binds right) clauses) = pats ∷ patterns_in clauses

-- a walked part with its tree; with recursion a helper has at least the function's level
abbrev pub finished : (level : ℕ) → Walked → Tree → Part
finished level w t = record {
  level = level;
  tele = w.part.tele;
  terms = w.part.terms;
  goal = w.part.goal;
  tree = t;
  sides = w.sides;
  walks = w.walks;
  pats = patterns_in w.clauses;
}

-- the function's own part: its tree starts from the order of recursion
abbrev pub own_finished : Session → Option Recursion → Walked → ℕ → Elaborating Part
own_finished s r w left =
    let count = length w.part.tele in
    let order = order_of count r in
    and_next
    (walking s.signature s.name
    (split_of s.signature (ordered_telescope w.part.tele order) (ordered_term count order w.part.goal) (ordered_variables order count)
    w.clauses left))
    (λ t rest. answers (Ok (finished w.part.level w t)) rest)

abbrev pub helper_level : Option Recursion → (own level : ℕ) → ℕ
helper_level None own level = level
helper_level (Some r) own level = max level own

-- the helpers, the first of which has this number
abbrev pub helpers_finished : Session → Option Recursion → (level number : ℕ) → List Walked → ℕ → Elaborating (List Part)
helpers_finished s r level number [] left = answers (Ok []) left
helpers_finished s r level number (w ∷ helpers) left =
    and_next
    (walking s.signature (part_named s.name number) (split_of s.signature w.part.tele w.part.goal w.part.terms w.clauses left)) (λ t rest.
    and_next (helpers_finished s r level (number + 1) helpers rest) (λ parts end.
    answers (Ok (finished (helper_level r level w.part.level) w t ∷ parts)) end))

abbrev pub recursion_in : Signature → Telescope → Option ℕ → Option Recursion
recursion_in S tele None = None
recursion_in S tele (Some j) = recursion_at S tele j

-- ---- the plan

-- walks, position and trees of a function over S
abbrev pub plan_of : Signature → Function → (level left : ℕ) → Elaborating Plan
plan_of S f level left =
    let s : Session = record { signature = provisional S f.name f.type; name = f.name; own = length S.entries } in
    let part = own_part f level in
    and_next (walk_clauses s 0 part 0 1 f.clauses left) (λ given rest.
    let walked : Walked = record { part = part; clauses = f.clauses; walks = given.walks; sides = given.sides } in
    and_next (answers (position_chosen s (choose S part.tele s.own given.uses)) rest) (λ position more.
    let r = recursion_in S part.tele position in
    and_next (own_finished s r walked more) (λ own end.
    and_next (helpers_finished s r level 1 given.helpers end) (λ helpers last.
    answers
    (Ok
    (record {
      base = length S.entries;
      name = f.name;
      type = f.type;
      arity = f.arity;
      level = level;
      position = position;
      parts = own ∷ helpers;
    }))
    last))))

-- ---- entries

abbrev pub enter_drafts : Signature → (name : List ℕ) → List Draft → ℕ → Elaborating Signature
enter_drafts S name [] left = answers (Ok S) left
enter_drafts S name (d ∷ drafts) left =
    and_next (reporting S (owner_of name 0) (enter_draft_of S d left)) (λ e rest. enter_drafts e.signature name drafts rest)

-- With recursion and helpers the equations name `D!all.L`.
abbrev pub enter_values : Signature → Plan → Option Recursion → List Part → ℕ → Elaborating Signature
enter_values S plan (Some r) (own ∷ helper ∷ helpers) left =
    reporting S (owner_of plan.name 0) (enter_mention enter_needed S (Names (all_name r.family plan.level)) left)
enter_values S plan r parts left = answers (Ok S) left

abbrev pub enter_plan : Signature → Plan → ℕ → Elaborating Signature
enter_plan S plan left =
    let r = recursion_in S (first_domains plan.arity plan.type) plan.position in
    and_next (answers (or_halts (translate S plan)) left) (λ drafts rest.
    and_next (enter_drafts S plan.name drafts rest) (λ T end. enter_values T plan r plan.parts end))

-- ---- lines

-- the line of a clause: the function or helper, and the number of the clause, counted from 1
pub record ClauseLine : Type 0 where
  pub function : List ℕ
  pub clause : ℕ
  pub line : Line

-- lines with the signature after their entries
pub record Lines : Type 0 where
  pub lines : List ClauseLine
  pub signature : Signature

abbrev pub with_line : ClauseLine → Lines → Lines
with_line line lines = record lines { lines = line ∷ lines.lines }

-- how a report goes on after some lines
abbrev pub Following : Type 0
Following = Signature → ℕ → Elaborating Lines

-- the clauses of part k from clause `number` on, and then the following lines
abbrev pub report_walks : Plan → (k number : ℕ) → List Walk → Following → Following
report_walks plan k number [] next S left = next S left
report_walks plan k number (w ∷ walks) next S left =
    let owner = owner_of (part_named plan.name k) number in
    and_next (reporting S owner (report_of S plan (record { part = k; clause = number; walk = w }) left)) (λ r rest.
    and_next (report_walks plan k (number + 1) walks next r.signature rest) (λ lines end.
    answers (Ok (with_line (record { function = owner.function; clause = owner.clause; line = r.line }) lines)) end))

-- the parts from part k on
abbrev pub report_parts : Plan → (k : ℕ) → List Part → Following
report_parts plan k [] S left = answers (Ok (record { lines = []; signature = S })) left
report_parts plan k (part ∷ parts) S left = report_walks plan k 0 part.walks (report_parts plan (k + 1) parts) S left

-- ---- all of it

-- the plan of a function that may spend so many units
abbrev pub planned_of : Signature → Function → (fuel : ℕ) → Elaborating Plan
planned_of S f fuel =
    and_next (granted S OfType (infer_sort_of S nesting [] f.type fuel)) (λ sort rest.
    and_next (answers (function_level S sort) rest) (λ level more. plan_of S f level more))

-- the lines of a function that is accepted, with the signature that has its entries
abbrev pub function_of : Signature → Function → (fuel : ℕ) → Elaborating Lines
function_of S f fuel =
    and_next (granted S OfType (infer_sort_of S nesting [] f.type fuel)) (λ sort rest.
    and_next (answers (function_level S sort) rest) (λ level more.
    and_next (plan_of S f level more) (λ plan end.
    and_next (enter_plan S plan end) (λ T last. report_parts plan 0 plan.parts T last))))
