-- A function by clauses with a name in line: what is accepted of it has names in line, and its refusal is written in line.
use Rattle.std.proofs.Common.{ℕ, ◌+◌, Bool, true, false, cond, nat_lt, List, [], ◌∷◌, ◌++◌, length, map, take, drop, reverse, codes, Option, Some, None, Result, Ok, Err, IfOk, refl}
use Rattle.theory.specs.Terms.{Term, Var, Sort, Pi, Lam, App, Let, Const, Fam, Con, Elim, AxiomK}
use Rattle.theory.specs.Telescopes.{Telescope, products, functions}
use Rattle.theory.specs.Signatures.{Signature, Definition}
use Rattle.theory.specs.WellFormed.{provisional}
use Rattle.core_terms.specs.Answers.{and_next, bounded}
use Rattle.core_terms.specs.CaseTrees.{Walk}
use Rattle.core_terms.specs.Clauses as clause
use Rattle.core_terms.specs.Clauses.{Clause, Clauses, Right, Is}
use Rattle.core_terms.specs.declared.stop.Stop.{Stop}
use Rattle.core_terms.specs.declared.stop.Stop.TheVariants.{Deep}
use Rattle.core_terms.proofs.Answers.{Splits, and_next-splits, and_then-has}
use Rattle.core_sig.specs.Drafts.{Draft}
use Rattle.core_text.proofs.Feeds.{both}
use Rattle.kernel_check.specs.Checking.{infer_of, infer_sort_of, check_of}
use Rattle.kernel_reduce.specs.Comparison.{convertible_of}
use Rattle.kernel_reduce.specs.Reduction.{nesting}
use Rattle.resolve.specs.Functions.{Function}
use Rattle.tree_translation.specs.structural_rec.Calls.{has_constant}
use Rattle.tree_translation.specs.structural_rec.Choices.{Choice, Failing, NotRecursive, At, NotSmaller, choose}
use Rattle.case_trees.specs.OwnWalks.{own_walk_of}
use Rattle.case_trees.specs.Points.{under_solution}
use Rattle.case_trees.specs.Trees.{split_of}
use Rattle.tree_translation.specs.Entries.{translate, ordered_variables, entries_with, helpers_before, and_more, motive_entry, step_entry, helper_entry, function_entry, side_names, part_term, step_telescope, step_goal, step_node, helper_node, function_by_recursion}
use Rattle.tree_translation.specs.Naming.{motive_name, step_name, helper_name, rec_name, part_named}
use Rattle.tree_translation.specs.Plans.{Plan, Part, own_part as plan_part}
use Rattle.tree_translation.specs.Recursion.{Recursion, recursion_of, order_of, ordered_telescope, ordered_term, first_positions}
use Rattle.tree_translation.specs.Splits.{Node}
use Rattle.tree_translation.specs.TreeTerms.{tree_names}
use Rattle.with_abstraction.specs.Abstractions.{Abstracted, abstract_over_of}
use Rattle.clause_reports.specs.DraftEntering.{enter_draft_of, enter_needed, enter_mention, Names}
use Rattle.clause_reports.specs.Generated.{all_name}
use Rattle.clause_reports.specs.Reports.{Reference, report_of}
use Rattle.drafts.specs.draft_checks.Checks.{unmarked}
use Rattle.clause_reports.specs.elaboration.Functions.{Following, Lines, enter_drafts, enter_plan, enter_values, first_domains, function_level, function_of, failing_call, helpers_finished, own_finished, own_part, plan_of, planned_of, position_chosen, recursion_in, report_parts, report_walks}
use Rattle.clause_reports.specs.elaboration.Refusals.{Owner, OfType, OfDot, OfSide, OfWith, OfGoal, SelfInType, Elaborating, answers, or_halts, halting, granted, level_too_high, owner_of, reporting, walking}
use Rattle.clause_reports.specs.elaboration.Walking.{Session, Opened, Walked, greatest_level, if_forced, check_dot, after_dots, without_self, if_low_level, and_level, open_over, opened, walk_clause, walk_right, walk_clauses}
use Rattle.function_session.specs.function_lines.Opened.{checked_entered, deep, draft_in, function_in, lines_closed}
use Rattle.elim.proofs.program_texts.EnteredNames.{IsIn, EntryIn, NamesAfter, DraftIn, enter_draft-in, enter_needed-in, enter_mention-in}
use Rattle.elim.proofs.elim_program.FunctionTexts.{RefusalIn, ClauseIn, CallIn, at-owner, halts-in, granted-in, level-too-high-in, mismatch-in, walking-in, reporting-in, or-halts-in, self-in, not-smaller-in}
use Rattle.elim.proofs.program_texts.QuietWalks.{Any}
use Rattle.elim.proofs.program_texts.ReportsInLine.{ReportedIn, part-in, helper-in, ordered-made, report-in}
use Rattle.elim.proofs.program_texts.SessionInLine.{NamesIn, each-last, term-in}
use Rattle.surface_syntax.specs.word_laws.Words.{Each}

-- the answer has P, or the refusal is written in line
abbrev pub WritesIn : {A : Type 0} → (A → Type 0) → Elaborating A → Type 0
WritesIn P r = Splits P RefusalIn r.0

written_next : {A B : Type 0} (Q : B → Type 0) (first : Elaborating A) (go : A → ℕ → Elaborating B) → WritesIn Any first → ((a : A) (rest : ℕ) → WritesIn Q (go a rest)) → WritesIn Q (and_next first go)
written_next Q first go h k = and_next-splits Any Q RefusalIn first go h (λ a rest u. k a rest)

-- ---- the walks

record SessionIn (s : Session) : Type 0 where
  names : NamesIn s.signature
  name : IsIn s.name

forced-in : (S : Signature) → NamesIn S → (o : Owner) → IsIn o.function → (context : Telescope) (written forced : Term) (holds : Bool)
    → Splits Any RefusalIn (if_forced S o context written forced holds)
forced-in S names o h context written forced true = tt
forced-in S names o h context written forced false = mismatch-in S names o h context _ (term-in S names written) forced

check_dot-in : (S : Signature) → NamesIn S → (o : Owner) → IsIn o.function → (context : Telescope) (d : Term × Term) (left : ℕ) → WritesIn Any (check_dot S o context d left)
check_dot-in S names o h context d left =
    let part = at-owner (codes "dot ") o refl h in
    let inferred = infer_of S nesting (reverse context) d.1 left in
    written_next Any (granted S (OfDot o) inferred) _ (granted-in S names (OfDot o) part inferred.0) (λ type rest.
    let checked = check_of S nesting (reverse context) d.0 type rest in
    written_next Any (granted S (OfDot o) checked) _ (granted-in S names (OfDot o) part checked.0) (λ same more.
    let compared = convertible_of S nesting d.0 d.1 more in
    written_next Any (halting compared) _ (or-halts-in compared.0) (λ holds end. forced-in S names o h context d.0 d.1 holds)))

after_dots-in : {A : Type 0} (S : Signature) → NamesIn S → (o : Owner) → IsIn o.function → (context : Telescope) (dots : List (Term × Term)) (next : ℕ → Elaborating A) (left : ℕ)
    → ((rest : ℕ) → WritesIn Any (next rest)) → WritesIn Any (after_dots S o context dots next left)
after_dots-in S names o h context [] next left k = k left
after_dots-in S names o h context (d ∷ dots) next left k =
    written_next Any (check_dot S o context d left) _ (check_dot-in S names o h context d left) (λ written rest. after_dots-in S names o h context dots next rest k)

without_self-in : (own : ℕ) (o : Owner) → IsIn o.function → (t : Term) → Splits Any RefusalIn (without_self own o t)
without_self-in own o h t = by (has_constant own t)
  where
    by : (there : Bool) → Splits {A = Term} Any RefusalIn (cond there (Err (SelfInType o)) (Ok t))
    by true = self-in o h
    by false = tt

level-in : (S : Signature) → NamesIn S → (o : Owner) → IsIn o.function → (a : Abstracted) (sort : Term) → Splits Any RefusalIn (and_level a (if_low_level S o sort))
level-in S names o h a (Sort J) = by (nat_lt greatest_level J)
  where
    by : (high : Bool) → Splits Any RefusalIn (and_level a (cond high (Err (level_too_high S (OfGoal o) J greatest_level)) (Ok J)))
    by true = level-too-high-in S names (OfGoal o) (at-owner (codes "goal ") o refl h) J greatest_level
    by false = tt
level-in S names o h a (Var n) = tt
level-in S names o h a (Pi b c) = tt
level-in S names o h a (Lam b c) = tt
level-in S names o h a (App b c) = tt
level-in S names o h a (Let b c d) = tt
level-in S names o h a (Const n) = tt
level-in S names o h a (Fam n) = tt
level-in S names o h a (Con n c) = tt
level-in S names o h a (Elim n m) = tt
level-in S names o h a (AxiomK i m) = tt

open_over-in : (s : Session) → SessionIn s → (o : Owner) → IsIn o.function → (w : Walk) (t : Term) (left : ℕ) → WritesIn Any (open_over s o w t left)
open_over-in s is o h w t left =
    let S = s.signature in
    let inferred = infer_of S nesting (reverse w.ctx) t left in
    written_next Any (granted S (OfWith o) inferred) _ (granted-in S is.names (OfWith o) (at-owner (codes "with ") o refl h) inferred.0) (λ found rest.
    written_next Any (without_self s.own o found, rest) _ (without_self-in s.own o h found) (λ type more.
    let abstracted = abstract_over_of S w.ctx w.goal t type more in
    written_next Any (halting abstracted) _ (or-halts-in abstracted.0) (λ a more.
    written_next Any (without_self s.own o a.goal, more) _ (without_self-in s.own o h a.goal) (λ goal more.
    let sorted = infer_sort_of S nesting [] (products a.telescope goal) more in
    written_next Any (granted S (OfGoal o) sorted) _ (granted-in S is.names (OfGoal o) (at-owner (codes "goal ") o refl h) sorted.0) (λ sort end.
    level-in S is.names o h a sort)))))

mutual
  walk_clause-in : (s : Session) → SessionIn s → (k : ℕ) (part : Opened) (number next : ℕ) (c : Clause) (left : ℕ) → WritesIn Any (walk_clause s k part number next c left)
  walk_clause-in s is k part number next (Is pats binds right) left =
      let S = s.signature in
      let name = part_named s.name k in
      let owner = owner_of name number in
      let h = part-in s.name k is.name in
      let walked = own_walk_of S part.tele part.goal part.terms (Is pats binds right) number left in
      written_next Any (walking S name walked) _ (walking-in S is.names name h walked.0) (λ w rest.
      after_dots-in S is.names owner h w.ctx w.dots (walk_right s k number next owner w right) rest (walk_right-in s is k number next owner h w right))

  walk_right-in : (s : Session) → SessionIn s → (k number next : ℕ) (o : Owner) → IsIn o.function → (w : Walk) (right : Right) (left : ℕ)
      → WritesIn Any (walk_right s k number next o w right left)
  walk_right-in s is k number next o h w (clause.Side side) left =
      let S = s.signature in
      written_next Any (or_halts (bounded (under_solution w.binds side)), left) _ (or-halts-in (bounded (under_solution w.binds side))) (λ body rest.
      let checked = check_of S nesting (reverse w.ctx) body w.goal rest in
      written_next Any (granted S (OfSide o) checked) _ (granted-in S is.names (OfSide o) (at-owner (codes "side ") o refl h) checked.0) (λ type end. tt))
  walk_right-in s is k number next o h w (clause.With scrutinee inner) left =
      written_next Any (or_halts (bounded (under_solution w.binds scrutinee)), left) _ (or-halts-in (bounded (under_solution w.binds scrutinee))) (λ t rest.
      written_next Any (open_over s o w t rest) _ (open_over-in s is o h w t rest) (λ opening more.
      written_next Any (walk_clauses s next (opened opening w) 0 (next + 1) inner more) _ (walk_clauses-in s is next (opened opening w) 0 (next + 1) inner more) (λ given end. tt)))
  walk_right-in s is k number next o h w clause.Absurd left = tt

  walk_clauses-in : (s : Session) → SessionIn s → (k : ℕ) (part : Opened) (number next : ℕ) (clauses : Clauses) (left : ℕ)
      → WritesIn Any (walk_clauses s k part number next clauses left)
  walk_clauses-in s is k part number next clause.nil left = tt
  walk_clauses-in s is k part number next (clause.cons c clauses) left =
      written_next Any (walk_clause s k part number next c left) _ (walk_clause-in s is k part number next c left) (λ given rest.
      written_next Any (walk_clauses s k part (number + 1) (next + length given.helpers) clauses rest) _
      (walk_clauses-in s is k part (number + 1) (next + length given.helpers) clauses rest) (λ others end. tt))

-- ---- the plan

calls-in : (s : Session) → SessionIn s → (rows : List Failing) → Each CallIn (map (failing_call s) rows)
calls-in s is [] = tt
calls-in s is (row ∷ rows) = ((part-in s.name row.function is.name, term-in s.signature is.names row.call), calls-in s is rows)

position-in : (s : Session) → SessionIn s → (choice : Choice) → Splits Any RefusalIn (position_chosen s choice)
position-in s is NotRecursive = tt
position-in s is (At j) = tt
position-in s is (NotSmaller rows) = not-smaller-in (map (failing_call s) rows) (calls-in s is rows)

own_finished-in : (s : Session) → SessionIn s → (r : Option Recursion) (w : Walked) (left : ℕ) → WritesIn Any (own_finished s r w left)
own_finished-in s is r w left =
    let count = length w.part.tele in
    let order = order_of count r in
    let made = split_of s.signature (ordered_telescope w.part.tele order) (ordered_term count order w.part.goal) (ordered_variables order count) w.clauses left in
    written_next Any (walking s.signature s.name made) _ (walking-in s.signature is.names s.name is.name made.0) (λ t rest. tt)

helpers_finished-in : (s : Session) → SessionIn s → (r : Option Recursion) (level number : ℕ) (helpers : List Walked) (left : ℕ) → WritesIn Any (helpers_finished s r level number helpers left)
helpers_finished-in s is r level number [] left = tt
helpers_finished-in s is r level number (w ∷ helpers) left =
    let made = split_of s.signature w.part.tele w.part.goal w.part.terms w.clauses left in
    written_next Any (walking s.signature (part_named s.name number) made) _
    (walking-in s.signature is.names (part_named s.name number) (part-in s.name number is.name) made.0) (λ t rest.
    written_next Any (helpers_finished s r level (number + 1) helpers rest) _ (helpers_finished-in s is r level (number + 1) helpers rest) (λ parts end. tt))

abbrev PlanIn : Plan → Type 0
PlanIn plan = IsIn plan.name

plan-in : (S : Signature) → NamesIn S → (f : Function) → IsIn f.name → (level left : ℕ) → WritesIn PlanIn (plan_of S f level left)
plan-in S names f h level left =
    let s : Session = record { signature = provisional S f.name f.type; name = f.name; own = length S.entries } in
    let is : SessionIn s = record { names = each-last EntryIn S.entries (Definition f.name f.type (Const (length S.entries))) names (h, tt); name = h } in
    let part = own_part f level in
    written_next PlanIn (walk_clauses s 0 part 0 1 f.clauses left) _ (walk_clauses-in s is 0 part 0 1 f.clauses left) (λ given rest.
    let w : Walked = record { part = part; clauses = f.clauses; walks = given.walks; sides = given.sides } in
    let choice = choose S part.tele s.own given.uses in
    written_next PlanIn (answers (position_chosen s choice) rest) _ (position-in s is choice) (λ position more.
    let r = recursion_in S part.tele position in
    written_next PlanIn (own_finished s r w more) _ (own_finished-in s is r w more) (λ own end.
    written_next PlanIn (helpers_finished s r level 1 given.helpers end) _ (helpers_finished-in s is r level 1 given.helpers end) (λ helpers last. h))))

-- ---- entries

abbrev DraftsIn : List Draft → Type 0
DraftsIn drafts = Each DraftIn drafts

and_more-in : (first : Result Draft Stop) (others : Result (List Draft) Stop) → IfOk first DraftIn → IfOk others DraftsIn → IfOk (and_more first others) DraftsIn
and_more-in first others h k =
    and_then-has DraftIn DraftsIn first _ h (λ d i. and_then-has DraftsIn DraftsIn others _ k (λ ds j. (i, j)))

motive-in : (plan : Plan) → PlanIn plan → (r : Recursion) → IfOk (motive_entry plan r) DraftIn
motive-in plan own r =
    let part = plan_part plan in
    let count = length part.tele in
    let order = order_of count (Some r) in
    let tele = ordered_telescope part.tele order in
    let first = length (first_positions r) in
    ordered-made (motive_name plan.name) plan.base [] (λ number. products (take first tele) (Sort plan.level))
    (λ number. functions (take first tele) (products (drop first tele) (ordered_term count order part.goal)))
    (both plan.name (codes "!motive") own refl)

step-in : (S : Signature) (plan : Plan) → PlanIn plan → (r : Recursion) → IfOk (step_entry S plan r) DraftIn
step-in S plan own r =
    let part = plan_part plan in
    let order = order_of (length part.tele) (Some r) in
    ordered-made (step_name plan.name) plan.base (side_names plan (Some r) 0 ++ tree_names S part.level part.tree (step_node plan r (λ name. plan.base)))
    (λ number. products (step_telescope plan r number) (step_goal plan r))
    (λ number. functions (step_telescope plan r number) (part_term S plan (Some r) part order (step_node plan r number) number))
    (both plan.name (codes "!step") own refl)

helper-entry-in : (S : Signature) (plan : Plan) → PlanIn plan → (r : Option Recursion) (k : ℕ) (part : Part) → IfOk (helper_entry S plan r k part) DraftIn
helper-entry-in S plan own r k part =
    ordered-made (helper_name plan.name k) plan.base (side_names plan r k ++ tree_names S part.level part.tree (helper_node plan r part (λ name. plan.base)))
    (λ number. products (helper_node plan r part number).context (helper_node plan r part number).goal)
    (λ number. functions (helper_node plan r part number).context (part_term S plan r part (order_of (length part.tele) None) (helper_node plan r part number) number))
    (helper-in plan.name k own)

helpers_before-in : (S : Signature) (plan : Plan) → PlanIn plan → (r : Option Recursion) (k : ℕ) (parts : List Part) (others : Result (List Draft) Stop) → IfOk others DraftsIn
    → IfOk (helpers_before S plan r k parts others) DraftsIn
helpers_before-in S plan own r k [] others h = h
helpers_before-in S plan own r k (part ∷ parts) others h =
    helpers_before-in S plan own r (k + 1) parts (and_more (helper_entry S plan r k part) others)
    (and_more-in (helper_entry S plan r k part) others (helper-entry-in S plan own r k part) h)

function-entry-in : (S : Signature) (plan : Plan) → PlanIn plan → (r : Option Recursion) → IfOk (function_entry S plan r) DraftIn
function-entry-in S plan own None =
    let part = plan_part plan in
    let node : Node = record { context = part.tele; goal = part.goal; hidden = [] } in
    ordered-made plan.name plan.base (side_names plan None 0 ++ tree_names S part.level part.tree node) (λ number. plan.type)
    (λ number. functions part.tele (part_term S plan None part (order_of (length part.tele) None) node number)) own
function-entry-in S plan own (Some r) =
    ordered-made plan.name plan.base (rec_name r.family plan.level ∷ motive_name plan.name ∷ step_name plan.name ∷ []) (λ number. plan.type) (function_by_recursion plan r) own

entries-in : (S : Signature) (plan : Plan) → PlanIn plan → (r : Option Recursion) → IfOk (entries_with S plan r) DraftsIn
entries-in S plan own None =
    helpers_before-in S plan own None 1 (drop 1 plan.parts) (and_more (function_entry S plan None) (Ok []))
    (and_more-in (function_entry S plan None) (Ok []) (function-entry-in S plan own None) tt)
entries-in S plan own (Some r) =
    let last = and_more (step_entry S plan r) (and_more (function_entry S plan (Some r)) (Ok [])) in
    and_more-in (motive_entry plan r) (helpers_before S plan (Some r) 1 (drop 1 plan.parts) last) (motive-in plan own r)
    (helpers_before-in S plan own (Some r) 1 (drop 1 plan.parts) last
    (and_more-in (step_entry S plan r) (and_more (function_entry S plan (Some r)) (Ok [])) (step-in S plan own r)
    (and_more-in (function_entry S plan (Some r)) (Ok []) (function-entry-in S plan own (Some r)) tt)))

translated-in : {A : Type 0} (P : A → Type 0) (r : Result A Stop) → IfOk r P → Splits P RefusalIn (or_halts r)
translated-in P (Ok a) h = h
translated-in P (Err e) h = halts-in e

checked-in : (S : Signature) → NamesIn S → (name : List ℕ) → IsIn name → (d : Draft) → DraftIn d → (left : ℕ) → WritesIn NamesIn (checked_entered S name d left)
checked-in S names name h d k left =
    and_next-splits NamesAfter NamesIn RefusalIn (reporting S (owner_of name 0) (enter_draft_of S d left)) _
    (reporting-in NamesAfter S names (owner_of name 0) h (enter_draft_of S d left).0 (enter_draft-in S d left names k)) (λ e rest i. i)

pub draft_opened-in : (S : Signature) → NamesIn S → (name : List ℕ) → IsIn name → (d : Draft) → DraftIn d → (left : ℕ)
    → WritesIn NamesIn (draft_in S name d left)
draft_opened-in S names name h d k left = by (unmarked S)
  where
    by : (free : Bool) → WritesIn NamesIn (cond free (checked_entered S name d left) (deep left))
    by true = checked-in S names name h d k left
    by false = halts-in Deep

enter_drafts-in : (S : Signature) → NamesIn S → (name : List ℕ) → IsIn name → (drafts : List Draft) → DraftsIn drafts → (left : ℕ) → WritesIn NamesIn (enter_drafts S name drafts left)
enter_drafts-in S names name h [] all left = names
enter_drafts-in S names name h (d ∷ drafts) all left =
    and_next-splits NamesAfter NamesIn RefusalIn (reporting S (owner_of name 0) (enter_draft_of S d left)) _
    (reporting-in NamesAfter S names (owner_of name 0) h (enter_draft_of S d left).0 (enter_draft-in S d left names all.0)) (λ e rest k.
    enter_drafts-in e.signature k name h drafts all.1 rest)

enter_values-in : (S : Signature) → NamesIn S → (plan : Plan) → PlanIn plan → (r : Option Recursion) (parts : List Part) (left : ℕ) → WritesIn NamesIn (enter_values S plan r parts left)
enter_values-in S names plan own None parts left = names
enter_values-in S names plan own (Some r) [] left = names
enter_values-in S names plan own (Some r) (first ∷ []) left = names
enter_values-in S names plan own (Some r) (first ∷ helper ∷ helpers) left =
    let values = Names (all_name r.family plan.level) in
    let entered = enter_mention enter_needed S values left in
    reporting-in NamesIn S names (owner_of plan.name 0) own entered.0 (enter_mention-in enter_needed enter_needed-in S names values left)

enter_plan-in : (S : Signature) → NamesIn S → (plan : Plan) → PlanIn plan → (left : ℕ) → WritesIn NamesIn (enter_plan S plan left)
enter_plan-in S names plan own left =
    let r = recursion_in S (first_domains plan.arity plan.type) plan.position in
    and_next-splits DraftsIn NamesIn RefusalIn (answers (or_halts (translate S plan)) left) _
    (translated-in DraftsIn (translate S plan) (entries-in S plan own (recursion_of S plan))) (λ drafts rest all.
    and_next-splits NamesIn NamesIn RefusalIn (enter_drafts S plan.name drafts rest) _ (enter_drafts-in S names plan.name own drafts all rest) (λ T end k.
    enter_values-in T k plan own r plan.parts end))

-- ---- lines

pub record LinesIn (l : Lines) : Type 0 where
  pub names : NamesIn l.signature
  pub clauses : Each ClauseIn l.lines

-- what goes on is written in line
abbrev Follows : Following → Type 0
Follows next = (S : Signature) → NamesIn S → (left : ℕ) → WritesIn LinesIn (next S left)

report_walks-in : (plan : Plan) → PlanIn plan → (k number : ℕ) (walks : List Walk) (next : Following) → Follows next → Follows (report_walks plan k number walks next)
report_walks-in plan own k number [] next h S names left = h S names left
report_walks-in plan own k number (w ∷ walks) next h S names left =
    let c : Reference = record { part = k; clause = number; walk = w } in
    let owner = owner_of (part_named plan.name k) number in
    let written = part-in plan.name k own in
    and_next-splits ReportedIn LinesIn RefusalIn (reporting S owner (report_of S plan c left)) _
    (reporting-in ReportedIn S names owner written (report_of S plan c left).0 (report-in S names plan own c left)) (λ r rest i.
    and_next-splits LinesIn LinesIn RefusalIn (report_walks plan k (number + 1) walks next r.signature rest) _
    (report_walks-in plan own k (number + 1) walks next h r.signature i rest) (λ lines end j. record { names = j.names; clauses = (written, j.clauses) }))

report_parts-in : (plan : Plan) → PlanIn plan → (k : ℕ) (parts : List Part) → Follows (report_parts plan k parts)
report_parts-in plan own k [] S names left = record { names = names; clauses = tt }
report_parts-in plan own k (part ∷ parts) S names left =
    report_walks-in plan own k 0 part.walks (report_parts plan (k + 1) parts) (report_parts-in plan own (k + 1) parts) S names left

-- ---- all of it

function-level-in : (S : Signature) → NamesIn S → (sort : Term) → Splits Any RefusalIn (function_level S sort)
function-level-in S names (Sort J) = by (nat_lt greatest_level J)
  where
    by : (high : Bool) → Splits Any RefusalIn (cond high (Err (level_too_high S OfType J greatest_level)) (Ok J))
    by true = level-too-high-in S names OfType refl J greatest_level
    by false = tt
function-level-in S names (Var n) = tt
function-level-in S names (Pi a b) = tt
function-level-in S names (Lam a b) = tt
function-level-in S names (App a b) = tt
function-level-in S names (Let a b c) = tt
function-level-in S names (Const n) = tt
function-level-in S names (Fam n) = tt
function-level-in S names (Con n c) = tt
function-level-in S names (Elim n m) = tt
function-level-in S names (AxiomK i m) = tt

-- the function's type, and its level
sort-in : (S : Signature) → NamesIn S → (type : Term) (left : ℕ) → WritesIn Any (granted S OfType (infer_sort_of S nesting [] type left))
sort-in S names type left = granted-in S names OfType refl (infer_sort_of S nesting [] type left).0

planned-in : (S : Signature) → NamesIn S → (f : Function) → IsIn f.name → (fuel : ℕ) → WritesIn PlanIn (planned_of S f fuel)
planned-in S names f h fuel =
    written_next PlanIn (granted S OfType (infer_sort_of S nesting [] f.type fuel)) _ (sort-in S names f.type fuel) (λ sort rest.
    written_next PlanIn (answers (function_level S sort) rest) _ (function-level-in S names sort) (λ level more. plan-in S names f h level more))

meant-in : (S : Signature) → NamesIn S → (f : Function) → IsIn f.name → (fuel : ℕ) → WritesIn LinesIn (function_of S f fuel)
meant-in S names f h fuel =
    written_next LinesIn (granted S OfType (infer_sort_of S nesting [] f.type fuel)) _ (sort-in S names f.type fuel) (λ sort rest.
    written_next LinesIn (answers (function_level S sort) rest) _ (function-level-in S names sort) (λ level more.
    and_next-splits PlanIn LinesIn RefusalIn (plan_of S f level more) _ (plan-in S names f h level more) (λ plan end own.
    and_next-splits NamesIn LinesIn RefusalIn (enter_plan S plan end) _ (enter_plan-in S names plan own end) (λ T last k.
    report_parts-in plan own 0 plan.parts T k last))))

pub function-written : (S : Signature) → NamesIn S → (f : Function) → IsIn f.name → (fuel : ℕ) → WritesIn LinesIn (function_in S f fuel)
function-written S names f h fuel = by (unmarked S)
  where
    by : (free : Bool) → WritesIn LinesIn (cond free (function_of S f fuel) (lines_closed S f fuel))
    by true = meant-in S names f h fuel
    by false = and_next-splits PlanIn LinesIn RefusalIn (planned_of S f fuel) (λ plan left. deep left) (planned-in S names f h fuel) (λ plan left own. halts-in Deep)
