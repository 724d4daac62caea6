-- The entries of a function that is recursive on a pair of positions: its motive, a second motive over a below value, the second step with
-- the tree, the first step by recursion at the second position, and the function by recursion at the first one.
use Rattle.std.specs.Prelude.{ℕ, ◌+◌, ◌-◌, Option, Some, None, option_and_then, option_map, List, [], ◌∷◌, ◌++◌, length, map, take, drop, Result, Ok, codes}
use Rattle.theory.specs.Terms.{Term, Var, Sort, Const, lift}
use Rattle.theory.specs.Telescopes.{Telescope, products, functions, applied}
use Rattle.theory.specs.Signatures.{Signature}
use Rattle.core_terms.specs.declared.stop.Stop.{Stop}
use Rattle.core_sig.specs.Drafts.{Draft}
use Rattle.kernel_reduce.specs.Entries.{family_at}
use Rattle.tree_translation.specs.structural_rec.Positions.{Admission}
use Rattle.tree_translation.specs.Naming.{Naming, drafted_in_order, below_name, rec_name, motive_name, step_name}
use Rattle.tree_translation.specs.Splits.{Node}
use Rattle.tree_translation.specs.Plans.{Plan, own_part}
use Rattle.tree_translation.specs.Recursion.{NamedRecursion, Recursion, below_type, below_with, first_positions, motive_with, order_of, ordered_telescope, ordered_term, parameters_at, recursion_with, recursions_named, remaining_positions, scrutinee_at, terms_at}
use Rattle.tree_translation.specs.TreeTerms.{tree_names}
use Rattle.tree_translation.specs.Entries.{and_more, function_entry, goal_with_below, motive_entry, ordered_variables, step_goal, step_telescope, term_with, with_below}
use Rattle.lex_recursion.specs.Pairs.{Pair, pair_at}

abbrev pub motive2_name : (function : List ℕ) → List ℕ
motive2_name function = function ++ codes "!motive2"

abbrev pub step2_name : (function : List ℕ) → List ℕ
step2_name function = function ++ codes "!step2"

-- ---- the recursions of a pair

-- at its first position, and at the second one, where all that the first goes over is fixed
pub record PairRecursion : Type 0 where
  pub outer : Recursion
  pub inner : Recursion

-- recursion at a position with its admission, where the family of this is known
abbrev pub recursion_by : Signature → (j : ℕ) → Admission → Option Recursion
recursion_by S j a = option_map (recursion_with j a) (family_at S a.number)

abbrev pub recursions_joined : (outer inner : Recursion) → PairRecursion
recursions_joined outer inner = record { outer = outer; inner = inner }

abbrev pub pair_recursion_of : Signature → Pair → Option PairRecursion
pair_recursion_of S p =
    option_and_then (λ outer. option_map (recursions_joined outer) (recursion_by S p.second p.inner)) (recursion_by S p.first p.outer)

abbrev pub pair_recursion_at : Signature → Telescope → (j k : ℕ) → Option PairRecursion
pair_recursion_at S tele j k = option_and_then (pair_recursion_of S) (pair_at S tele j k)

-- at the position of the plan, and a second one
abbrev pub pair_recursion : Signature → Plan → (second : ℕ) → Option PairRecursion
pair_recursion S plan second = option_and_then (λ j. pair_recursion_at S (own_part plan).tele j second) plan.position

-- |F is x|: the level of b
abbrev pub first_count : PairRecursion → ℕ
first_count p = length (first_positions p.outer)

-- |F is x b G js y|: the level of b2
abbrev pub second_count : PairRecursion → ℕ
second_count p = length (first_positions p.inner) + 1

-- the pair order
abbrev pub order_over : Plan → PairRecursion → List ℕ
order_over plan p = order_of (length (own_part plan).tele) (Some p.inner)

-- recursion at the second position, with `b` after what the first one goes over, for the second motive or the second step
abbrev pub second_named : (name : List ℕ) → PairRecursion → NamedRecursion
second_named name p = record { recursion = p.inner; motive = name; places = first_count p ∷ [] }

abbrev pub pair_recursions : Plan → PairRecursion → List NamedRecursion
pair_recursions plan p = recursions_named (motive_name plan.name) (Some p.outer) ++ second_named (motive2_name plan.name) p ∷ []

-- ---- the second motive

-- (F) (is) (x) (b : D!below.L ps (F!motive F) is x) (G) (js) (y) (Q)
abbrev pub pair_telescope : Plan → PairRecursion → Naming → Telescope
pair_telescope plan p number =
    let order = order_over plan p in
    with_below (first_count p) (below_type number plan p.outer (ordered_variables order (first_count p)))
    (ordered_telescope (own_part plan).tele order)

-- the goal over it
abbrev pub pair_goal : Plan → PairRecursion → Term
pair_goal plan p =
    let count = length (own_part plan).tele in
    goal_with_below (first_count p) count (ordered_term count (order_over plan p) (own_part plan).goal)

-- the names in the type of `b`
abbrev pub below_names : Plan → PairRecursion → List (List ℕ)
below_names plan p = below_name p.outer.family plan.level ∷ motive_name plan.name ∷ []

-- F!motive2 : (F) -> (is) -> (x) -> (b) -> (G) -> (js) -> (y) -> Type L, with the body \F is x b G js y. (Q) -> goal
abbrev pub motive2_entry : Plan → PairRecursion → Result Draft Stop
motive2_entry plan p =
    let first = second_count p in
    drafted_in_order (motive2_name plan.name) plan.base (below_names plan p)
    (λ number. products (take first (pair_telescope plan p number)) (Sort plan.level))
    (λ number.
    functions (take first (pair_telescope plan p number)) (products (drop first (pair_telescope plan p number)) (pair_goal plan p)))

-- ---- the second step

-- terms, over a context of `depth` variables, as ones with `b` among these
abbrev pub behind_first : PairRecursion → (depth : ℕ) → List Term → List Term
behind_first p depth terms = map (λ t. lift t 1 (depth - first_count p)) terms

-- the variables of the old positions after (F) (is) (x) (b) (G) (js) (y)
abbrev pub begun_terms : Plan → PairRecursion → List Term
begun_terms plan p =
    let depth = length (first_positions p.inner) in behind_first p depth (ordered_variables (order_over plan p) depth)

-- b there
abbrev pub begun_value : PairRecursion → Term
begun_value p = Var (length (first_positions p.inner) - first_count p)

-- E!below.L qs (F!motive2 F is x b G) js y
abbrev pub second_below : Plan → PairRecursion → Naming → Term
second_below plan p number =
    let terms = begun_terms plan p in
    below_with number plan p.inner (motive_with number (second_named (motive2_name plan.name) p) terms (begun_value p ∷ [])) terms

abbrev pub step2_node : Plan → PairRecursion → Naming → Node
step2_node plan p number = record {
  context = with_below (second_count p) (second_below plan p number) (pair_telescope plan p number);
  goal = goal_with_below (second_count p) (length (own_part plan).tele + 1) (pair_goal plan p);
  hidden = first_count p ∷ second_count p ∷ [];
}

-- the names of the types of `b` and `b2`
abbrev pub step2_names : Plan → PairRecursion → List (List ℕ)
step2_names plan p = below_names plan p ++ below_name p.inner.family plan.level ∷ motive2_name plan.name ∷ []

-- F!step2 : (F) -> (is) -> (x) -> (b) -> (G) -> (js) -> (y) -> (b2) -> (Q) -> goal, with the tree for its body
abbrev pub step2_entry : Signature → Plan → PairRecursion → Result Draft Stop
step2_entry S plan p =
    let part = own_part plan in
    drafted_in_order (step2_name plan.name) plan.base
    (step2_names plan p ++ tree_names S part.level part.tree (step2_node plan p (λ name. plan.base)))
    (λ number. products (step2_node plan p number).context (step2_node plan p number).goal)
    (λ number.
    functions (step2_node plan p number).context
    (term_with S plan (pair_recursions plan p) part (order_over plan p) (step2_node plan p number) number))

-- ---- the first step

-- the variables of the old positions over (F) (is) (x) (b) (R)
abbrev pub step_terms : Plan → PairRecursion → List Term
step_terms plan p =
    let count = length (own_part plan).tele in behind_first p count (ordered_variables (order_of count (Some p.outer)) count)

-- b there
abbrev pub step_value : Plan → PairRecursion → Term
step_value plan p = Var (length (own_part plan).tele - first_count p)

-- E!rec.L qs (F!motive2 F is x b G) (F!step2 F is x b G) js y Q
abbrev pub second_call : Plan → PairRecursion → Naming → Term
second_call plan p number =
    let tele = (own_part plan).tele in
    let terms = step_terms plan p in
    let values = step_value plan p ∷ [] in
    applied (Const (number (rec_name p.inner.family plan.level)))
    (parameters_at tele p.inner terms
    ++ motive_with number (second_named (motive2_name plan.name) p) terms values
    ∷ motive_with number (second_named (step2_name plan.name) p) terms values
    ∷ (scrutinee_at p.inner terms ++ terms_at (remaining_positions (length tele) p.inner) terms))

abbrev pub first_step_names : Plan → PairRecursion → List (List ℕ)
first_step_names plan p =
    below_names plan p ++ rec_name p.inner.family plan.level ∷ motive2_name plan.name ∷ step2_name plan.name ∷ []

-- F!step : (F) -> (is) -> (x) -> (b) -> (R) -> goal, by recursion at the second position
abbrev pub first_step_entry : Plan → PairRecursion → Result Draft Stop
first_step_entry plan p =
    drafted_in_order (step_name plan.name) plan.base (first_step_names plan p)
    (λ number. products (step_telescope plan p.outer number) (step_goal plan p.outer))
    (λ number. functions (step_telescope plan p.outer number) (second_call plan p number))

-- ---- all of them

abbrev pub pair_entries_with : Signature → Plan → PairRecursion → Result (List Draft) Stop
pair_entries_with S plan p =
    and_more (motive_entry plan p.outer)
    (and_more (motive2_entry plan p)
    (and_more (step2_entry S plan p)
    (and_more (first_step_entry plan p) (and_more (function_entry S plan (Some p.outer)) (Ok [])))))

abbrev pub pair_entries_at : Signature → Plan → Option PairRecursion → Result (List Draft) Stop
pair_entries_at S plan None = Ok []
pair_entries_at S plan (Some p) = pair_entries_with S plan p

-- the entries in their order, of a function that is recursive at the position of the plan and a second one
abbrev pub pair_entries : Signature → Plan → (second : ℕ) → Result (List Draft) Stop
pair_entries S plan second = pair_entries_at S plan (pair_recursion S plan second)
