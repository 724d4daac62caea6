-- The tests of a draft find what is scoped and low.
use Rattle.std.proofs.Common.{◌≡◌, inl, inr, ℕ, ◌+◌, ◌-◌, ◌==◌, nat_lt, Bool, true, false, ◌&&◌, cond, Option, Some, None, List, [], ◌∷◌, length, slice_get, take, drop, map, get_or, ◌++◌, Result, Ok, Err, IfOk, refl, ap, ap₂, ◌∙◌, subst as transport, arith}
use Rattle.std.proofs.lemmas.Bool.Decides.{nat_tests}
use Rattle.std.proofs.lemmas.List.Elements.{All-cons, All-head, All-nil, All-tail}
use Rattle.std.specs.List.{All}
use Rattle.theory.specs.Terms.{Term, Var, Sort, Pi, Lam, App, Let, Const, Fam, Con, Elim, AxiomK, free_of}
use Rattle.theory.specs.Signatures.{Signature, Definition, FamilyOf, IsPrefix}
use Rattle.theory.specs.Telescopes.{functions, products}
use Rattle.theory.proofs.Widening.{prefix_keeps}
use Rattle.core_terms.specs.Answers.{and_then, bounded, is_low}
use Rattle.core_terms.specs.declared.stop.Stop.{Stop}
use Rattle.core_terms.specs.declared.stop.Stop.TheVariants.{Deep}
use Rattle.core_sig.specs.DraftScopes.{HasDraftEntries, IsDraftNumber, IsDraftTerm}
use Rattle.core_sig.specs.Drafts.{Draft, drafted}
use Rattle.core_sig.specs.EntryTerms.{EachTerm}
use Rattle.core_sig.specs.ScopeTests.{has_constructor, is_constant, is_family}
use Rattle.core_sig.specs.ScopedDrafts.{IsScopedDraft}
use Rattle.drafts.specs.draft_checks.Checks.{enterable, has_draft_entries, is_draft_entry, is_draft_number, is_draft_term, names_enter}
use Rattle.core_sig.specs.Settling.{renumbered}
use Rattle.tree_translation.specs.Entries.{and_more, entries_with, function_by_recursion, function_entry, helper_entry, helper_node, helpers_before, motive_entry, part_term, side_names, step_entry, step_goal, step_node, step_telescope, translate}
use Rattle.tree_translation.specs.Naming.{Naming, drafted_in_order, helper_name, mentions, motive_name, number_among, number_in, once, rec_name, step_name, with_names}
use Rattle.tree_translation.specs.Splits.{Node}
use Rattle.tree_translation.specs.TreeTerms.{tree_names}
use Rattle.tree_translation.specs.Plans.{Part, Plan, own_part}
use Rattle.tree_translation.specs.Recursion.{Recursion, first_positions, order_of, ordered_telescope, ordered_term, recursion_of}
use Rattle.exact_laws.specs.step_scopes.Laws.{DraftsScopedAfterPrelude}
use Rattle.function_session.specs.plan_laws.Laws.{PlanIsOfFunction, PlanIsPlanned}
use Rattle.function_session.proofs.plan_laws.Answering.{if-ok}
use Rattle.function_session.specs.function_laws.report_laws.plan_drafts.Laws.{FunctionDraftsTested}
use Rattle.function_session.proofs.function_laws.report_laws.plan_drafts.FunctionDrafts.{drafts-scoped}

-- ---- scopes

module _ (S T : Signature) (prefix : IsPrefix S T) where
  number-tested : (base count c : ℕ) → IsDraftNumber S base count c → is_draft_number T base count c ≡ true
  number-tested base count c (inl h) =
      let below : nat_lt c base ≡ true = grind (arith, nat_tests, h.0) in
      let there : is_constant (slice_get T.entries c) ≡ true =
      ap is_constant ((prefix_keeps prefix).entry c (Definition h.1.0 h.1.1 h.1.2) h.1.3) in
      ap₂ (λ (b x : Bool). cond b x (nat_lt (c - base) count)) below there
  number-tested base count c (inr h) =
      let from : nat_lt c base ≡ false = grind (arith, nat_tests, h.0) in
      let inside : nat_lt (c - base) count ≡ true = grind (arith, nat_tests, h.0, h.1) in
      ap₂ (λ (b x : Bool). cond b (is_constant (slice_get T.entries c)) x) from inside

  entries-tested : (base count : ℕ) (t : Term) → HasDraftEntries S base count t → has_draft_entries T base count t ≡ true
  entries-tested base count (Var n) h = refl
  entries-tested base count (Sort i) h = refl
  entries-tested base count (AxiomK i m) h = refl
  entries-tested base count (Pi a b) h = ap₂ (λ (x y : Bool). x && y) (entries-tested base count a h.0) (entries-tested base count b h.1)
  entries-tested base count (Lam a b) h = ap₂ (λ (x y : Bool). x && y) (entries-tested base count a h.0) (entries-tested base count b h.1)
  entries-tested base count (App a b) h = ap₂ (λ (x y : Bool). x && y) (entries-tested base count a h.0) (entries-tested base count b h.1)
  entries-tested base count (Let a t b) h =
      ap₂ (λ (x y : Bool). x && y) (entries-tested base count a h.0)
      (ap₂ (λ (x y : Bool). x && y) (entries-tested base count t h.1) (entries-tested base count b h.2))
  entries-tested base count (Const c) h = number-tested base count c h
  entries-tested base count (Fam n) h = ap is_family ((prefix_keeps prefix).entry n (FamilyOf h.0) h.1)
  entries-tested base count (Con n c) h =
      let below : nat_lt c (length h.0.constructors) ≡ true = grind (arith, nat_tests, h.2) in
      ap (has_constructor c) ((prefix_keeps prefix).entry n (FamilyOf h.0) h.1) ∙ below
  entries-tested base count (Elim n m) h = ap is_family ((prefix_keeps prefix).entry n (FamilyOf h.0) h.1)

  term-tested : (base count : ℕ) (t : Term) → IsDraftTerm S base count 0 t → is_low t ≡ true → is_draft_term T base count t ≡ true
  term-tested base count t h low =
      let closed : (free_of t == 0) ≡ true = grind (arith, nat_tests, h.variables) in
      ap₂ (λ (x y : Bool). x && y) closed (ap₂ (λ (x y : Bool). x && y) low (entries-tested base count t h.entries))

-- ---- heights

-- a definition by a type and a term that are low
pub record IsLowDraft (d : Draft) : Type 0 where
  pub name : List ℕ
  pub type : Term
  pub body : Term
  pub entry : d.entry ≡ Definition name type body
  pub type_low : is_low type ≡ true
  pub body_low : is_low body ≡ true

drafted-low : (name : List ℕ) (base : ℕ) (names : List (List ℕ)) (type term : Term) → IfOk (drafted name base names type term) IsLowDraft
drafted-low name base names type term = first (is_low type) refl
  where
    second : (a b : Bool) → is_low type ≡ true → is_low term ≡ b
        → (let answer : Result Term Stop = cond b (Ok term) (Err Deep) in
        IfOk (and_then answer (λ u. Ok (record { entry = Definition name type u; base = base; names = names }))) IsLowDraft)
    second a true low is = record { name = name; type = type; body = term; entry = refl; type_low = low; body_low = is }
    second a false low is = tt

    first : (b : Bool) → is_low type ≡ b
        → (let answer : Result Term Stop = cond b (Ok type) (Err Deep) in
        IfOk (and_then answer (λ t. and_then (bounded term) (λ u. Ok (record { entry = Definition name t u; base = base; names = names })))) IsLowDraft)
    first true is = second true (is_low term) is refl
    first false is = tt

in_order-low : (name : List ℕ) (base : ℕ) (candidates : List (List ℕ)) (type term : Naming → Term)
    → IfOk (drafted_in_order name base candidates type term) IsLowDraft
in_order-low name base candidates type term =
    let table = with_names [] candidates in
    let t = type (number_in base table) in
    let u = term (number_in base table) in
    let places = once [] (mentions base t ++ mentions base u) in
    drafted-low name base (map (λ i. get_or table i []) places) (renumbered (number_among base places) t) (renumbered (number_among base places) u)

motive-low : (plan : Plan) (r : Recursion) → IfOk (motive_entry plan r) IsLowDraft
motive-low plan r =
    let part = own_part plan in
    let count = length part.tele in
    let order = order_of count (Some r) in
    let tele = ordered_telescope part.tele order in
    let first = length (first_positions r) in
    in_order-low (motive_name plan.name) plan.base [] (λ number. products (take first tele) (Sort plan.level))
    (λ number. functions (take first tele) (products (drop first tele) (ordered_term count order part.goal)))

step-low : (S : Signature) (plan : Plan) (r : Recursion) → IfOk (step_entry S plan r) IsLowDraft
step-low S plan r =
    let part = own_part plan in
    let order = order_of (length part.tele) (Some r) in
    in_order-low (step_name plan.name) plan.base
    (side_names plan (Some r) 0 ++ tree_names S part.level part.tree (step_node plan r (λ name. plan.base)))
    (λ number. products (step_telescope plan r number) (step_goal plan r))
    (λ number. functions (step_telescope plan r number) (part_term S plan (Some r) part order (step_node plan r number) number))

helper-low : (S : Signature) (plan : Plan) (r : Option Recursion) (k : ℕ) (part : Part) → IfOk (helper_entry S plan r k part) IsLowDraft
helper-low S plan r k part =
    in_order-low (helper_name plan.name k) plan.base
    (side_names plan r k ++ tree_names S part.level part.tree (helper_node plan r part (λ name. plan.base)))
    (λ number. products (helper_node plan r part number).context (helper_node plan r part number).goal)
    (λ number.
    functions (helper_node plan r part number).context
    (part_term S plan r part (order_of (length part.tele) None) (helper_node plan r part number) number))

function-low : (S : Signature) (plan : Plan) (r : Option Recursion) → IfOk (function_entry S plan r) IsLowDraft
function-low S plan None =
    let part = own_part plan in
    let node : Node = record { context = part.tele; goal = part.goal; hidden = [] } in
    in_order-low plan.name plan.base (side_names plan None 0 ++ tree_names S part.level part.tree node) (λ number. plan.type)
    (λ number. functions part.tele (part_term S plan None part (order_of (length part.tele) None) node number))
function-low S plan (Some r) =
    in_order-low plan.name plan.base (rec_name r.family plan.level ∷ motive_name plan.name ∷ step_name plan.name ∷ []) (λ number. plan.type)
    (function_by_recursion plan r)

more-low : (first : Result Draft Stop) (others : Result (List Draft) Stop) → IfOk first IsLowDraft → IfOk others (All IsLowDraft)
    → IfOk (and_more first others) (All IsLowDraft)
more-low (Ok d) (Ok ds) h k = All-cons IsLowDraft d ds h k
more-low (Ok d) (Err e) h k = tt
more-low (Err e) others h k = tt

helpers-low : (S : Signature) (plan : Plan) (r : Option Recursion) (k : ℕ) (parts : List Part) (others : Result (List Draft) Stop)
    → IfOk others (All IsLowDraft) → IfOk (helpers_before S plan r k parts others) (All IsLowDraft)
helpers-low S plan r k [] others h = h
helpers-low S plan r k (part ∷ parts) others h =
    helpers-low S plan r (k + 1) parts (and_more (helper_entry S plan r k part) others)
    (more-low (helper_entry S plan r k part) others (helper-low S plan r k part) h)

-- the drafts of a plan
drafts-low : (S : Signature) (plan : Plan) (r : Option Recursion) → IfOk (entries_with S plan r) (All IsLowDraft)
drafts-low S plan None =
    helpers-low S plan None 1 (drop 1 plan.parts) (and_more (function_entry S plan None) (Ok []))
    (more-low (function_entry S plan None) (Ok []) (function-low S plan None) (All-nil IsLowDraft))
drafts-low S plan (Some r) =
    let last : Result (List Draft) Stop = and_more (function_entry S plan (Some r)) (Ok []) in
    let steps : Result (List Draft) Stop = and_more (step_entry S plan r) last in
    more-low (motive_entry plan r) (helpers_before S plan (Some r) 1 (drop 1 plan.parts) steps) (motive-low plan r)
    (helpers-low S plan (Some r) 1 (drop 1 plan.parts) steps
    (more-low (step_entry S plan r) last (step-low S plan r)
    (more-low (function_entry S plan (Some r)) (Ok []) (function-low S plan (Some r)) (All-nil IsLowDraft))))

-- ---- the test

-- a definition whose terms are scoped and low passes the test of its terms
pub draft-tested : (S T : Signature) → IsPrefix S T → (d : Draft) → IsScopedDraft S d → IsLowDraft d → enterable T d ≡ names_enter T d.names
draft-tested S T prefix d scoped low =
    let both : EachTerm (IsDraftTerm S d.base (length d.names)) (Definition low.name low.type low.body) =
    transport (EachTerm (IsDraftTerm S d.base (length d.names))) low.entry scoped in
    let found : is_draft_entry T d.base (length d.names) d.entry ≡ true =
    ap (is_draft_entry T d.base (length d.names)) low.entry
    ∙ ap₂ (λ (x y : Bool). x && y) (term-tested S T prefix d.base (length d.names) low.type both.0 low.type_low)
    (term-tested S T prefix d.base (length d.names) low.body both.1 low.body_low) in
    ap (λ (b : Bool). b && names_enter T d.names) found

all-tested : (S T : Signature) (base : ℕ) → IsPrefix S T → (drafts : List Draft) → All (λ d. (d.base ≡ base) × IsScopedDraft S d) drafts → All IsLowDraft drafts
    → All (λ d. enterable T d ≡ names_enter T d.names) drafts
all-tested S T base prefix [] h k = All-nil (λ d. enterable T d ≡ names_enter T d.names)
all-tested S T base prefix (d ∷ drafts) h k =
    All-cons (λ d. enterable T d ≡ names_enter T d.names) d drafts
    (draft-tested S T prefix d (All-head (λ d. (d.base ≡ base) × IsScopedDraft S d) d drafts h).1 (All-head IsLowDraft d drafts k))
    (all-tested S T base prefix drafts (All-tail (λ d. (d.base ≡ base) × IsScopedDraft S d) d drafts h) (All-tail IsLowDraft d drafts k))

pub drafts-tested : PlanIsOfFunction → PlanIsPlanned → DraftsScopedAfterPrelude → FunctionDraftsTested
drafts-tested of planned scoped = λ S f plan drafts T h first longer e.
    all-tested S T plan.base longer drafts (drafts-scoped of planned scoped S f plan drafts h first e)
    (if-ok (All IsLowDraft) (translate S plan) drafts e (drafts-low S plan (recursion_of S plan)))
