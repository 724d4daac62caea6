-- The entries of a function: with recursion its motive, its helpers, its step and the function itself, and else the helpers and the
-- function (McBride and McKinna, "The view from the left", 2004; Goguen, McBride and McKinna, 2006).
use Rattle.std.specs.Prelude.{ℕ, ◌+◌, ◌-◌, Option, Some, None, List, [], ◌∷◌, ◌++◌, length, take, drop, Result, Ok}
use Rattle.theory.specs.Terms.{Term, Sort, Const, lift}
use Rattle.theory.specs.Telescopes.{Telescope, products, functions, applied, variables}
use Rattle.theory.specs.Signatures.{Signature}
use Rattle.core_terms.specs.Answers.{and_then}
use Rattle.core_terms.specs.Levels.{variable}
use Rattle.core_terms.specs.Telescopes.{lift_telescope}
use Rattle.core_terms.specs.declared.stop.Stop.{Stop}
use Rattle.core_sig.specs.Drafts.{Draft}
use Rattle.tele_eq.specs.Items.{each_position}
use Rattle.tele_eq.specs.Levels.{place_in}
use Rattle.tree_translation.specs.Naming.{Naming, drafted_in_order, below_name, rec_name, motive_name, step_name, helper_name}
use Rattle.tree_translation.specs.Splits.{Node}
use Rattle.tree_translation.specs.Plans.{Plan, Part, own_part}
use Rattle.tree_translation.specs.Recursion.{Recursion, recursion_of, first_positions, order_of, remaining_positions, ordered_telescope, ordered_term, terms_at, parameters_at, motive_at, NamedRecursion, recursions_in, scrutinee_at, below_type}
use Rattle.tree_translation.specs.TreeTerms.{tree_term, tree_names}

-- how many helpers there are
abbrev pub helper_count : Plan → ℕ
helper_count plan = length (drop 1 plan.parts)

-- the helpers after part `at`
abbrev pub helper_names : Plan → (at : ℕ) → List (List ℕ)
helper_names plan at = each_position (helper_name plan.name) (at + 1) (helper_count plan - at)

-- the names that right sides of part `at` may mention: the below value's type and paths in it, and helpers of greater number, whose
-- entries come earlier
abbrev pub side_names : Plan → Option Recursion → (at : ℕ) → List (List ℕ)
side_names plan None at = helper_names plan at
side_names plan (Some r) at = below_name r.family plan.level ∷ motive_name plan.name ∷ helper_names plan at

-- the tree of a part in an order, at a node whose hidden variables are the below values of these recursions
abbrev pub term_with : Signature → Plan → List NamedRecursion → Part → (order : List ℕ) → Node → Naming → Term
term_with S plan recursions part order node number =
    tree_term (record { signature = S; number = number; plan = plan; recursions = recursions; part = part; order = order }) part.tree node

abbrev pub part_term : Signature → Plan → Option Recursion → Part → (order : List ℕ) → Node → Naming → Term
part_term S plan r part order node number = term_with S plan (recursions_in plan r) part order node number

-- ---- a telescope with the below value after some of its variables

-- the variables at the old positions, in the new order at this depth
abbrev pub ordered_variables : (order : List ℕ) (depth : ℕ) → List Term
ordered_variables order depth = each_position (λ i. variable depth (place_in order i)) 0 (length order)

abbrev pub with_below : (at : ℕ) → (below : Term) → Telescope → Telescope
with_below at below tele = take at tele ++ below ∷ lift_telescope (drop at tele) 1 0

-- a goal over a telescope of `count` types, with the below value after `at` of them
abbrev pub goal_with_below : (at count : ℕ) → Term → Term
goal_with_below at count goal = lift goal 1 (count - at)

-- ---- the entries

-- F!motive : (F) -> (is) -> (x) -> Type L, with the body \F is x. (R) -> goal
abbrev pub motive_entry : Plan → Recursion → Result Draft Stop
motive_entry plan r =
    let part = own_part plan in
    let count = length part.tele in
    let order = order_of count (Some r) in
    let tele = ordered_telescope part.tele order in
    let first = length (first_positions r) in
    drafted_in_order (motive_name plan.name) plan.base []
    (λ number. products (take first tele) (Sort plan.level))
    (λ number. functions (take first tele) (products (drop first tele) (ordered_term count order part.goal)))

-- (F) (is) (x) (b : D!below.L ps (F!motive F) is x) (R)
abbrev pub step_telescope : Plan → Recursion → Naming → Telescope
step_telescope plan r number =
    let part = own_part plan in
    let order = order_of (length part.tele) (Some r) in
    let first = length (first_positions r) in
    with_below first (below_type number plan r (ordered_variables order first)) (ordered_telescope part.tele order)

abbrev pub step_goal : Plan → Recursion → Term
step_goal plan r =
    let part = own_part plan in
    let count = length part.tele in
    goal_with_below (length (first_positions r)) count (ordered_term count (order_of count (Some r)) part.goal)

abbrev pub step_node : Plan → Recursion → Naming → Node
step_node plan r number =
    record { context = step_telescope plan r number; goal = step_goal plan r; hidden = length (first_positions r) ∷ [] }

-- F!step : (F) -> (is) -> (x) -> (b) -> (R) -> goal, with the tree for its body
abbrev pub step_entry : Signature → Plan → Recursion → Result Draft Stop
step_entry S plan r =
    let part = own_part plan in
    let order = order_of (length part.tele) (Some r) in
    drafted_in_order (step_name plan.name) plan.base
    (side_names plan (Some r) 0 ++ tree_names S part.level part.tree (step_node plan r (λ name. plan.base)))
    (λ number. products (step_telescope plan r number) (step_goal plan r))
    (λ number. functions (step_telescope plan r number) (part_term S plan (Some r) part order (step_node plan r number) number))

-- a helper's telescope: with recursion the below value at the outer clause's terms comes last
abbrev pub helper_node : Plan → Option Recursion → Part → Naming → Node
helper_node plan None part number = record { context = part.tele; goal = part.goal; hidden = [] }
helper_node plan (Some r) part number =
    record {
      context = part.tele ++ below_type number plan r part.terms ∷ [];
      goal = lift part.goal 1 0;
      hidden = length part.tele ∷ [];
    }

-- F!wk
abbrev pub helper_entry : Signature → Plan → Option Recursion → (k : ℕ) → Part → Result Draft Stop
helper_entry S plan r k part =
    drafted_in_order (helper_name plan.name k) plan.base
    (side_names plan r k ++ tree_names S part.level part.tree (helper_node plan r part (λ name. plan.base)))
    (λ number. products (helper_node plan r part number).context (helper_node plan r part number).goal)
    (λ number.
    functions (helper_node plan r part number).context
    (part_term S plan r part (order_of (length part.tele) None) (helper_node plan r part number) number))

-- the function by recursion: \telescope. D!rec.L ps (F!motive F) (F!step F) is x R
abbrev pub function_by_recursion : Plan → Recursion → Naming → Term
function_by_recursion plan r number =
    let tele = (own_part plan).tele in
    let count = length tele in
    let terms = variables count in
    functions tele
    (applied (Const (number (rec_name r.family plan.level)))
    (parameters_at tele r terms
    ++ motive_at number plan r terms
    ∷ applied (Const (number (step_name plan.name))) (terms_at r.admission.fixed terms)
    ∷ (scrutinee_at r terms ++ terms_at (remaining_positions count r) terms)))

-- the function's own entry, of the written type
abbrev pub function_entry : Signature → Plan → Option Recursion → Result Draft Stop
function_entry S plan None =
    let part = own_part plan in
    let node : Node = record { context = part.tele; goal = part.goal; hidden = [] } in
    drafted_in_order plan.name plan.base (side_names plan None 0 ++ tree_names S part.level part.tree node)
    (λ number. plan.type)
    (λ number. functions part.tele (part_term S plan None part (order_of (length part.tele) None) node number))
function_entry S plan (Some r) =
    drafted_in_order plan.name plan.base
    (rec_name r.family plan.level ∷ motive_name plan.name ∷ step_name plan.name ∷ [])
    (λ number. plan.type)
    (function_by_recursion plan r)

-- ---- all of them

abbrev pub and_more : Result Draft Stop → Result (List Draft) Stop → Result (List Draft) Stop
and_more first others = and_then first (λ d. and_then others (λ ds. Ok (d ∷ ds)))

-- the helpers from number k on before other entries, the highest number first
abbrev pub helpers_before : Signature → Plan → Option Recursion → (k : ℕ) → List Part → Result (List Draft) Stop → Result (List Draft) Stop
helpers_before S plan r k [] others = others
helpers_before S plan r k (part ∷ parts) others =
    helpers_before S plan r (k + 1) parts (and_more (helper_entry S plan r k part) others)

abbrev pub entries_with : Signature → Plan → Option Recursion → Result (List Draft) Stop
entries_with S plan None = helpers_before S plan None 1 (drop 1 plan.parts) (and_more (function_entry S plan None) (Ok []))
entries_with S plan (Some r) =
    and_more (motive_entry plan r)
    (helpers_before S plan (Some r) 1 (drop 1 plan.parts)
    (and_more (step_entry S plan r) (and_more (function_entry S plan (Some r)) (Ok []))))

-- the entries of the function in their order
abbrev pub translate : Signature → Plan → Result (List Draft) Stop
translate S plan = entries_with S plan (recursion_of S plan)
