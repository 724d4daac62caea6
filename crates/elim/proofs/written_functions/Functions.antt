-- A function by clauses that is accepted is as it is written.
use Rattle.std.proofs.Common.{◌≡◌, ℕ, zero, suc, ◌+◌, ◌<◌, ◌≤◌, List, [], ◌∷◌, drop, length, length-append, Ok, IfOk, refl, sym, ap, ◌∙◌, subst as transport, arith, ap₂, true}
use Rattle.theory.specs.Terms.{Term}
use Rattle.theory.specs.Signatures.{Definition, IsPrefix, Signature}
use Rattle.theory.specs.SignatureScopes.{IsScoped}
use Rattle.theory.specs.Typing.{HasSort}
use Rattle.theory.specs.WellFormed.{IsWellFormed, provisional, pushed}
use Rattle.core_terms.proofs.Answers.{Answers, and_next-has}
use Rattle.kernel_check.specs.Checking.{infer_sort_of}
use Rattle.kernel_reduce.specs.Reduction.{nesting}
use Rattle.surface_syntax.specs.Trees as surf
use Rattle.surface_syntax.specs.declared.tree.Word.{Word}
use Rattle.elab_session.proofs.Resolved.{prelude-stays}
use Rattle.elab_session.specs.Sessions.{IsReady}
use Rattle.tree_translation.specs.Plans.{Plan, Part, own_part}
use Rattle.clause_reports.specs.Equations.{part_at}
use Rattle.tree_translation.specs.Naming.{part_named}
use Rattle.theory.proofs.Lists.{slice_get-last}
use Rattle.clause_reports.proofs.Keeping.{Grows, grows_on, weaker, weaker-of-two, grows_same}
use Rattle.clause_reports.specs.elaboration.Functions.{Lines, enter_plan, function_level, function_of, plan_of, planned_of, report_parts, first_domains, recursion_in}
use Rattle.clause_reports.specs.elaboration.Refusals.{Elaborating, OfType, answers, granted}
use Rattle.family_check.specs.Scopes.{HasPrelude}
use Rattle.function_session.proofs.equation_laws.LeftShowing.{ok-is}
use Rattle.function_session.proofs.function_lines.Provisional.{provisional-over}
use Rattle.function_session.specs.function_lines.Opened.{function_in}
use Rattle.function_session.specs.function_lines.Conditions.{IsFunctionOver}
use Rattle.function_session.proofs.OwnEntry.{HasOwn, own-typed}
use Rattle.function_session.proofs.Planned.{function-planned}
use Rattle.function_session.proofs.Written.{elaborates-written, function-new, function-scoped}
use Rattle.function_session.specs.Elaborating.{Elaborated, elaborate_function, enter_function, with_lines}
use Rattle.function_session.specs.Laws.{IsWrittenFunction}
use Rattle.function_session.proofs.Keeping.{on_function-has, on_lines-has, opened-has}
use Rattle.elab_session.specs.Declaring.{accepted_as}
use Rattle.resolve.specs.Functions.{Function, function}
use Rattle.elim.specs.written_functions.Clauses.{AreLinesOf, Start, parts_of, placed_from, AreValues, IsStarted, Values, part_type}
use Rattle.elim.specs.written_functions.PlannedFunctions.{IsByPlannedClauses, IsOfPlan}
use Rattle.elim.specs.written_functions.Laws.{FunctionsAreByClauses}
use Rattle.elim.proofs.written_functions.Equations.{placed_at, start_in}
use Rattle.elim.proofs.written_functions.PartEntries.{HasType}
use Rattle.elim.proofs.written_functions.PlanClauses.{parts-placed, part-wide}
use Rattle.elim.proofs.written_functions.PlanGiven.{IsPlanGiven, helpers-count, plan-given, own-made, with-ok}
use Rattle.elim.proofs.written_functions.Walked.{is-ok}
use Rattle.elim.proofs.written_functions.Tellings.{IsBase, Tells, parts-tell}
use Rattle.tree_translation.specs.Recursion.{recursion_of}
use Rattle.theory.proofs.Widening.{prefix_keeps}
use Rattle.clause_reports.specs.elaboration.Walking.{Opened}
use Rattle.elim.proofs.written_functions.Values.{IsMade, part-typed, values-are, values-last, values_in}
use Rattle.elim.proofs.written_functions.PlanMade.{HasEntries, plan-has}
use Rattle.drafts.specs.draft_checks.Checks.{unmarked}
use Rattle.function_session.specs.plan_laws.Conditions.{HasLevel}
use Rattle.resolve.specs.Scoping.{IsResolvedFunction}
use Rattle.function_plans.proofs.Orders.{in-is}
use Rattle.elim.proofs.written_functions.PlanFacts.{HasFacts, plan-facts}

-- ---- the function

-- the facts of the lines of a function that may spend so many units
record IsTold (S : Signature) (f : Function) (fuel : ℕ) (l : Lines) : Type 0 where
  with_plan : Signature
  own : HasOwn S f.name f.type with_plan
  grown : Grows with_plan l.signature
  parts : (k : ℕ) → Start
  started : IsStarted f (parts 0)
  values : List Values
  values_are : AreValues l.signature (record { before = S; function = f; parts = parts; values = values }) own.body values
  told : AreLinesOf (pushed own.before (Definition f.name f.type own.body)) l.signature (record { before = S; function = f; parts = parts; values = values })
      (placed_from 0 (parts_of f)) l.lines
  plan : Plan
  planned : (planned_of S f fuel).0 ≡ Ok plan
  of_plan : IsOfPlan l.signature plan (record { before = S; function = f; parts = parts; values = values })

-- a signature that grows is longer
pub pushed-longer : (S B T : Signature) (name : List ℕ) (type body : Term) → Grows S B → Grows (pushed B (Definition name type body)) T
    → length S.entries + 1 ≤ length T.entries
pushed-longer S B T name type body g h =
    omega (
      arith,
      ap length g.prefix.entries,
      length-append S.entries g.prefix.more,
      ap length h.prefix.entries,
      length-append (pushed B (Definition name type body)).entries h.prefix.more,
      length-append B.entries (Definition name type body ∷ []),
    )

-- each part is there under its name, with its type
parts-there : (S : Signature) (f : Function) (plan : Plan) (T : Signature) (h : IsPlanGiven S f plan) → IsScoped S 0 f.type → (own : HasOwn S f.name f.type T)
    → IsMade S plan T own.body → (k : ℕ) → k < length (parts_of f)
    → HasType T (part_named f.name k) (part_type (placed_at S f plan (values_in T plan plan.parts)) k)
parts-there S f plan T h typed own made zero low = record {
  number = length own.before.entries;
  body = own.body;
  there =
      (prefix_keeps own.entered.prefix).entry (length own.before.entries) (Definition f.name f.type own.body)
      (slice_get-last own.before.entries (Definition f.name f.type own.body));
}
parts-there S f plan T h typed own made (suc k) low =
    part-typed S f plan h typed T own.body made k (omega (arith, low, helpers-count S f plan h)) (part-wide S f plan h (suc k) low)

-- the entries of the plan have entered
record HasPlan (S : Signature) (f : Function) (plan : Plan) (T : Signature) : Type 0 where
  own : HasOwn S f.name f.type T
  made : IsMade S plan T own.body

plan-made : (S : Signature) (f : Function) (plan : Plan) (left : ℕ) → IsWellFormed S → HasPrelude S → IsPlanGiven S f plan → IsScoped S 0 f.type
    → HasFacts S plan → Answers (HasPlan S f plan) (enter_plan S plan left)
plan-made S f plan left well first h typed facts =
    let tele : (own_part plan).tele ≡ first_domains plan.arity plan.type =
    ap (λ (p : Part). p.tele) (own-made S f plan h).is
    ∙ (ap (λ (q : Opened). q.tele) h.own_opened ∙ ap₂ first_domains (sym h.arity) (sym h.type)) in
    let same : recursion_in S (first_domains plan.arity plan.type) plan.position ≡ recursion_of S plan =
    ap (λ t. recursion_in S t plan.position) (sym tele) ∙ sym (in-is S (own_part plan).tele plan.position) in
    weaker (HasEntries S plan plan.name plan.type) (HasPlan S f plan) (enter_plan S plan left).0
    (λ T e.
    let moved : HasEntries S plan f.name f.type T =
    transport (λ name. HasEntries S plan name f.type T) h.name (transport (λ type. HasEntries S plan plan.name type T) h.type e) in
    record { own = moved.own; made = moved.made })
    (plan-has facts.Good facts.kept S plan facts.planned (transport (IsScoped S 0) (sym h.type) typed)
    (record { grows = grows_same S; good = facts.good; well = well; prelude = first }) facts.names left same)

-- the function's own part starts from its type
own-started : (S : Signature) (f : Function) (plan : Plan) (h : IsPlanGiven S f plan) → IsStarted f (start_in (part_at plan 0))
own-started S f plan h =
    let same = (own-made S f plan h).is in
    record {
      telescope = ap (λ (p : Part). p.tele) same ∙ ap (λ (q : Opened). q.tele) h.own_opened;
      goal = ap (λ (p : Part). p.goal) same ∙ ap (λ (q : Opened). q.goal) h.own_opened;
      columns = ap (λ (p : Part). p.terms) same ∙ ap (λ (q : Opened). q.terms) h.own_opened;
    }

-- a plan with helpers is that of a function with clauses inside a `with`
some-inside : (S : Signature) (f : Function) (plan : Plan) → IsPlanGiven S f plan → 1 < length plan.parts → 1 < length (parts_of f)
some-inside S f plan h low =
    omega (
      arith,
      low,
      helpers-count S f plan h,
      ap length h.parts,
      ap (λ (ps : List Part). length (drop 1 ps)) h.parts,
    )

plan-told : (S : Signature) (f : Function) (fuel : ℕ) (plan : Plan) (T : Signature) (left : ℕ) → IsWellFormed S → HasPrelude S → IsScoped S 0 f.type
    → IsPlanGiven S f plan → (planned_of S f fuel).0 ≡ Ok plan → HasPlan S f plan T → Answers (IsTold S f fuel) (report_parts plan 0 plan.parts T left)
plan-told S f fuel plan T left well first typed h planned there =
    let own = there.own in
    let Own = pushed own.before (Definition f.name f.type own.body) in
    let g : Grows S T = grows_on S own.before T own.longer (grows_on own.before Own T own.enters own.entered) in
    let values = values_in T plan plan.parts in
    let base : IsBase S Own f plan values T T = record {
      well = g.keeps well first;
      prelude = prelude-stays S T first g.prefix;
      own = own.entered.prefix;
      before = g.prefix;
      low = omega (arith, h.base, pushed-longer S own.before T f.name f.type own.body own.longer own.entered);
      all = (grows_same T).prefix;
      parts = parts-there S f plan T h typed own there.made;
    } in
    let last = values-last S f plan h typed T own.body there.made in
    weaker (Tells S Own f plan h values T last T (placed_from 0 (parts_of f))) (IsTold S f fuel) (report_parts plan 0 plan.parts T left).0
    (λ l r. record {
      with_plan = T;
      own = own;
      grown = r.grows;
      parts = (placed_at S f plan values).parts;
      started = own-started S f plan h;
      values = values;
      values_are = values-are S f plan h typed T own.body there.made l.signature (r.grows.keeps base.well base.prelude) r.grows.prefix;
      told = r.told;
      plan = plan;
      planned = planned;
      of_plan = record {
        parts = λ k low. refl;
        values = λ some. last l.signature (r.grows.keeps base.well base.prelude) r.grows.prefix (some-inside S f plan h some);
      };
    })
    (parts-tell S Own f plan h values T last 0 plan.parts (parts_of f) (parts-placed S f plan h) T left base)

-- the facts of a plan that the function's type and clauses give
record IsPlanFor (S : Signature) (f : Function) (plan : Plan) : Type 0 where
  level : ℕ
  left : ℕ
  has : HasLevel S f level
  is : (plan_of S f level left).0 ≡ Ok plan
  given : IsPlanGiven S f plan

planned-for : (S : Signature) (f : Function) (fuel : ℕ) → IsFunctionOver (provisional S f.name f.type) f
    → Answers (λ (plan : Plan). ((planned_of S f fuel).0 ≡ Ok plan) × IsPlanFor S f plan) (planned_of S f fuel)
planned-for S f fuel over =
    let P = IsPlanFor S f in
    let found = granted S OfType (infer_sort_of S nesting [] f.type fuel) in
    with-ok P (planned_of S f fuel).0
    (and_next-has (λ sort. found.0 ≡ Ok sort) P found _ (is-ok found.0) (λ sort rest e1.
    and_next-has (λ level. function_level S sort ≡ Ok level) P (answers (function_level S sort) rest) _ (is-ok (function_level S sort)) (λ level more e2.
    let made = plan_of S f level more in
    weaker (λ plan. (made.0 ≡ Ok plan) × IsPlanGiven S f plan) P made.0
    (λ plan h. record {
      level = level;
      left = more;
      has = record { fuel = fuel; sort = sort; granted_sort = e1; is_level = e2 };
      is = h.0;
      given = h.1;
    })
    (with-ok (IsPlanGiven S f) made.0 (plan-given S f level more over)))))

function-told : (S : Signature) (f : Function) (fuel : ℕ) → IsReady S → IsResolvedFunction S (provisional S f.name f.type) f → unmarked S ≡ true
    → Answers (IsTold S f fuel) (function_of S f fuel)
function-told S f fuel ready resolved marks =
    let P = IsTold S f fuel in
    let over = provisional-over S f ready resolved in
    let typed = resolved.type.scoped in
    transport (λ (r : Elaborating Lines). Answers P r) (sym (function-planned S f fuel))
    (and_next-has (λ (plan : Plan). ((planned_of S f fuel).0 ≡ Ok plan) × IsPlanFor S f plan) P (planned_of S f fuel) _ (planned-for S f fuel over)
    (λ plan end h.
    let p = h.1 in
    let facts = plan-facts S f p.level p.left plan ready over resolved marks p.has p.is in
    and_next-has (HasPlan S f plan) P (enter_plan S plan end) _ (plan-made S f plan end ready.well_formed ready.prelude p.given typed facts) (λ T last there.
    plan-told S f fuel plan T last ready.well_formed ready.prelude typed p.given h.0 there)))

-- ---- the declaration

-- the facts of the lines, with the function that was resolved
record IsLined (S : Signature) (fuel : ℕ) (x : Word) (ty : surf.Surf) (clauses : surf.Clauses) (a : Elaborated) : Type 0 where
  given : Function
  resolved : function S x ty clauses ≡ Ok given
  lines : Lines
  is : a ≡ with_lines (accepted_as x.text lines.signature) lines.lines
  told : IsTold S given fuel lines

lined : (S : Signature) (fuel : ℕ) (x : Word) (ty : surf.Surf) (cs : surf.Clauses) → IsReady S
    → IfOk (elaborate_function S fuel x ty cs) (IsLined S fuel x ty cs)
lined S fuel x ty cs ready =
    let P = IsLined S fuel x ty cs in
    on_function-has P (function S x ty cs) (enter_function S fuel x) (λ f is.
    let Q : Lines → Type 0 = λ l. P (with_lines (accepted_as x.text l.signature) l.lines) in
    on_lines-has P x fuel (function_in S f fuel).0
    (opened-has Q S f fuel (λ marks.
    weaker (IsTold S f fuel) Q (function_of S f fuel).0
    (λ l h. record { given = f; resolved = is; lines = l; is = refl; told = h })
    (function-told S f fuel ready (function-scoped S (surf.Fun x ty cs) f is) marks))))

written : (S : Signature) (fuel : ℕ) (x : Word) (ty : surf.Surf) (cs : surf.Clauses) (a : Elaborated) → IsReady S → IsWrittenFunction S fuel x ty cs a
    → IsLined S fuel x ty cs a → IsByPlannedClauses S fuel x ty cs a
written S fuel x ty cs a ready w l =
    let f = l.given in
    let t = l.told in
    let new = function-new S x ty cs f l.resolved in
    let same : w.given ≡ f = ok-is (sym w.resolved ∙ l.resolved) in
    let Own = pushed t.own.before (Definition f.name f.type t.own.body) in
    transport (IsByPlannedClauses S fuel x ty cs) (sym l.is)
    (record {
      by_clauses = record {
        given = f;
        resolved = l.resolved;
        type_resolved = new.type;
        type_sort = transport (λ (g : Function). HasSort S [] g.type) same w.type_sort;
        before = t.own.before;
        body = t.own.body;
        longer = t.own.longer.prefix;
        typed = own-typed S t.with_plan f.name f.type t.own ready.well_formed ready.prelude;
        entered =
            transport (λ name. IsPrefix (pushed t.own.before (Definition name f.type t.own.body)) l.lines.signature) new.name
            (grows_on Own t.with_plan l.lines.signature t.own.entered t.grown).prefix;
        at = record { before = S; function = f; parts = t.parts; values = t.values };
        is_at = (refl, refl);
        started = t.started;
        values = t.values_are;
        each_line =
            transport
            (λ name.
            AreLinesOf (pushed t.own.before (Definition name f.type t.own.body)) l.lines.signature
            (record { before = S; function = f; parts = t.parts; values = t.values }) (placed_from 0 (parts_of f)) l.lines.lines)
            new.name t.told;
      };
      plan = t.plan;
      planned = t.planned;
      of_plan = t.of_plan;
    })

pub by-clauses : (S : Signature) (fuel : ℕ) (x : Word) (ty : surf.Surf) (cs : surf.Clauses) → IsReady S
    → IfOk (elaborate_function S fuel x ty cs) (IsByPlannedClauses S fuel x ty cs)
by-clauses S fuel x ty cs ready =
    weaker-of-two (IsWrittenFunction S fuel x ty cs) (IsLined S fuel x ty cs) (IsByPlannedClauses S fuel x ty cs) (elaborate_function S fuel x ty cs)
    (elaborates-written S fuel (surf.Fun x ty cs) ready) (lined S fuel x ty cs ready) (λ a w l. written S fuel x ty cs a ready w l)

pub functions-are-by-clauses : FunctionsAreByClauses
functions-are-by-clauses S fuel x ty cs ready = by-clauses S fuel x ty cs ready
