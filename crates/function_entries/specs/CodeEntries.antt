-- The entries of a function as the code makes them, from the function's own part: Deep comes where a tree is Deep, and where the type or
-- the term of an entry is higher than 2,000.
use Rattle.std.specs.Prelude.{ℕ, ◌+◌, Option, Some, None, List, [], ◌∷◌, ◌++◌, length, take, drop, Result, Ok}
use Rattle.theory.specs.Terms.{Term, Sort, Const}
use Rattle.theory.specs.Telescopes.{Telescope, products, functions, applied, variables}
use Rattle.theory.specs.Signatures.{Signature}
use Rattle.core_terms.specs.Answers.{and_then}
use Rattle.core_terms.specs.declared.stop.Stop.{Stop}
use Rattle.core_sig.specs.Drafts.{Draft}
use Rattle.tree_translation.specs.Naming.{Naming, number_in, with_names, rec_name, motive_name, step_name, helper_name}
use Rattle.tree_translation.specs.Splits.{Node}
use Rattle.tree_translation.specs.Plans.{Plan, Part, own_part}
use Rattle.tree_translation.specs.Recursion.{Recursion, first_positions, order_of, remaining_positions, ordered_telescope, ordered_term, terms_at, parameters_at, motive_at, NamedRecursion, recursions_in, scrutinee_at, below_type}
use Rattle.tree_translation.specs.TreeTerms.{Translation}
use Rattle.tree_translation.specs.Entries.{goal_with_below, helper_node, ordered_variables, side_names, with_below}
use Rattle.leaf_terms.specs.RecursionMade.{recursion_made}
use Rattle.leaf_terms.specs.CodeNumbering.{numbered}
use Rattle.function_entries.specs.CodeTrees.{tree_made, tree_names_made}

-- ---- the function's own part in the order of recursion

abbrev pub first_count : Recursion → ℕ
first_count r = length (first_positions r)

abbrev pub own_order : Part → Recursion → List ℕ
own_order own r = order_of (length own.tele) (Some r)

abbrev pub own_telescope : Part → Recursion → Telescope
own_telescope own r = ordered_telescope own.tele (own_order own r)

abbrev pub own_goal : Part → Recursion → Term
own_goal own r = ordered_term (length own.tele) (own_order own r) own.goal

-- ---- the motive

abbrev pub motive_type : (L first : ℕ) → Telescope → Term
motive_type L first tele = products (take first tele) (Sort L)

abbrev pub motive_body : (first : ℕ) → Telescope → (goal : Term) → Term
motive_body first tele goal = functions (take first tele) (products (drop first tele) goal)

abbrev pub motive_made : Plan → Part → Recursion → Result Draft Stop
motive_made plan own r =
    numbered (motive_name plan.name) plan.base [] (motive_type plan.level (first_count r) (own_telescope own r))
    (motive_body (first_count r) (own_telescope own r) (own_goal own r))

-- ---- entries with a tree

-- the names that one may mention: these, and those of the tree
abbrev pub table_from : Signature → (names : List (List ℕ)) → Part → Node → Result (List (List ℕ)) Stop
table_from S names part node = and_then (tree_names_made S part.level part.tree node names) (λ names. Ok (with_names [] names))

abbrev pub table_made : Signature → Plan → Option Recursion → (at : ℕ) → Part → Node → Result (List (List ℕ)) Stop
table_made S plan r at part node = table_from S (side_names plan r at) part node

abbrev pub body_made : Translation → Node → Result Term Stop
body_made w node = and_then (tree_made w w.part.tree node) (λ t. Ok (functions node.context t))

-- with these names
abbrev pub tree_entry_made : (name : List ℕ) → (table : List (List ℕ)) → Translation → Node → (type : Term) → Result Draft Stop
tree_entry_made name table w node type = and_then (body_made w node) (λ t. numbered name w.plan.base table type t)

-- (context) -> goal
abbrev pub node_type : Node → Term
node_type node = products node.context node.goal

-- what the leaves of an entry with a tree are made of
abbrev pub translation_over : Signature → Plan → List NamedRecursion → Part → (order : List ℕ) → Naming → Translation
translation_over S plan recursions part order number =
    record { signature = S; number = number; plan = plan; recursions = recursions; part = part; order = order }

abbrev pub translation_with : Signature → Plan → Option Recursion → Part → (order : List ℕ) → Naming → Translation
translation_with S plan r part order number = translation_over S plan (recursions_in plan r) part order number

-- ---- the step

-- the type of the below value after the first positions
abbrev pub step_below : Plan → Part → Recursion → Naming → Term
step_below plan own r number = below_type number plan r (ordered_variables (own_order own r) (first_count r))

abbrev pub step_telescope : Plan → Part → Recursion → Naming → Telescope
step_telescope plan own r number = with_below (first_count r) (step_below plan own r number) (own_telescope own r)

abbrev pub step_goal : Part → Recursion → Term
step_goal own r = goal_with_below (first_count r) (length own.tele) (own_goal own r)

abbrev pub step_node : Plan → Part → Recursion → Naming → Node
step_node plan own r number =
    record { context = step_telescope plan own r number; goal = step_goal own r; hidden = first_count r ∷ [] }

abbrev pub step_with : Signature → Plan → Part → Recursion → (table : List (List ℕ)) → Result Draft Stop
step_with S plan own r table =
    let number = number_in plan.base table in
    let node = step_node plan own r number in
    tree_entry_made (step_name plan.name) table (translation_with S plan (Some r) own (own_order own r) number) node (node_type node)

abbrev pub step_made : Signature → Plan → Part → Recursion → Result Draft Stop
step_made S plan own r =
    and_then (table_made S plan (Some r) 0 own (step_node plan own r (number_in plan.base []))) (λ table. step_with S plan own r table)

-- ---- helpers

abbrev pub old_order : Part → List ℕ
old_order part = order_of (length part.tele) None

abbrev pub helper_with : Signature → Plan → Option Recursion → (k : ℕ) → Part → (table : List (List ℕ)) → Result Draft Stop
helper_with S plan r k part table =
    let number = number_in plan.base table in
    let node = helper_node plan r part number in
    tree_entry_made (helper_name plan.name k) table (translation_with S plan r part (old_order part) number) node (node_type node)

abbrev pub helper_made : Signature → Plan → Option Recursion → (k : ℕ) → Part → Result Draft Stop
helper_made S plan r k part =
    and_then (table_made S plan r k part (helper_node plan r part (number_in plan.base []))) (λ table. helper_with S plan r k part table)

-- ---- the function

-- the names that the function mentions where it is recursive
abbrev pub recursive_names : Plan → Recursion → List (List ℕ)
recursive_names plan r = rec_name r.family plan.level ∷ motive_name plan.name ∷ step_name plan.name ∷ []

-- F!step F
abbrev pub step_at : Naming → Plan → Recursion → List Term → Term
step_at number plan r terms = applied (Const (number (step_name plan.name))) (terms_at r.admission.fixed terms)

-- is x R
abbrev pub scrutinee_and_rest : Part → Recursion → List Term → List Term
scrutinee_and_rest own r terms = scrutinee_at r terms ++ terms_at (remaining_positions (length own.tele) r) terms

-- ps (F!motive F) (F!step F)
abbrev pub motive_and_step : Plan → Part → Recursion → Naming → List Term → List Term
motive_and_step plan own r number terms =
    parameters_at own.tele r terms ++ motive_at number plan r terms ∷ step_at number plan r terms ∷ []

-- ps (F!motive F) (F!step F) is x R
abbrev pub function_arguments : Plan → Part → Recursion → Naming → List Term → List Term
function_arguments plan own r number terms =
    parameters_at own.tele r terms ++ motive_at number plan r terms ∷ step_at number plan r terms ∷ scrutinee_and_rest own r terms

abbrev pub recursive_call : Plan → Part → Recursion → Naming → Term
recursive_call plan own r number =
    applied (Const (number (rec_name r.family plan.level))) (function_arguments plan own r number (variables (length own.tele)))

abbrev pub function_by_recursion : Plan → Part → Recursion → Naming → Term
function_by_recursion plan own r number = functions own.tele (recursive_call plan own r number)

abbrev pub recursive_made : Plan → Part → Recursion → Result Draft Stop
recursive_made plan own r =
    let table = with_names [] (recursive_names plan r) in
    numbered plan.name plan.base table plan.type (function_by_recursion plan own r (number_in plan.base table))

abbrev pub plain_with : Signature → Plan → Part → (table : List (List ℕ)) → Result Draft Stop
plain_with S plan own table =
    let number = number_in plan.base table in
    tree_entry_made plan.name table (translation_with S plan None own (old_order own) number) (helper_node plan None own number) plan.type

-- without recursion
abbrev pub plain_made : Signature → Plan → Part → Result Draft Stop
plain_made S plan own =
    and_then (table_made S plan None 0 own (helper_node plan None own (number_in plan.base []))) (λ table. plain_with S plan own table)

-- ---- all of them

-- drafts, followed by those of helpers from number k on, the highest number first
abbrev pub helpers_made : Signature → Plan → Option Recursion → (k : ℕ) → List Part → (drafts : List Draft) → Result (List Draft) Stop
helpers_made S plan r k [] drafts = Ok drafts
helpers_made S plan r k (part ∷ parts) drafts =
    and_then (helpers_made S plan r (k + 1) parts drafts) (λ all. and_then (helper_made S plan r k part) (λ d. Ok (all ++ d ∷ [])))

abbrev pub with_draft : List Draft → Result Draft Stop → Result (List Draft) Stop
with_draft drafts made = and_then made (λ d. Ok (drafts ++ d ∷ []))

-- the motive and the helpers
abbrev pub first_entries : Signature → Plan → Part → (helpers : List Part) → Recursion → Result (List Draft) Stop
first_entries S plan own helpers r = and_then (motive_made plan own r) (λ d. helpers_made S plan (Some r) 1 helpers (d ∷ []))

-- drafts, followed by the step and the function
abbrev pub last_entries : Signature → Plan → Part → Recursion → (drafts : List Draft) → Result (List Draft) Stop
last_entries S plan own r drafts =
    and_then (with_draft drafts (step_made S plan own r)) (λ all. with_draft all (recursive_made plan own r))

abbrev pub recursive_entries : Signature → Plan → Part → (helpers : List Part) → Recursion → Result (List Draft) Stop
recursive_entries S plan own helpers r = and_then (first_entries S plan own helpers r) (last_entries S plan own r)

abbrev pub plain_entries : Signature → Plan → Part → (helpers : List Part) → Result (List Draft) Stop
plain_entries S plan own helpers =
    and_then (helpers_made S plan None 1 helpers []) (λ drafts. with_draft drafts (plain_made S plan own))

abbrev pub entries_made : Signature → Plan → Part → (helpers : List Part) → Option Recursion → Result (List Draft) Stop
entries_made S plan own helpers None = plain_entries S plan own helpers
entries_made S plan own helpers (Some r) = recursive_entries S plan own helpers r

abbrev pub entries_from : Signature → Plan → Part → (helpers : List Part) → Result (List Draft) Stop
entries_from S plan own helpers = and_then (recursion_made S plan) (entries_made S plan own helpers)

abbrev pub translate_made : Signature → Plan → Result (List Draft) Stop
translate_made S plan = entries_from S plan (own_part plan) (drop 1 plan.parts)
