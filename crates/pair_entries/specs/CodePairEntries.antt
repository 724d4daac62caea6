-- The entries of a function over a pair of positions as the code makes them, from the function's own part: Deep comes where a type of the
-- telescope is higher than 2,000, where the tree is Deep, and where the type or the term of an entry is higher than 2,000.
use Rattle.std.specs.Prelude.{ℕ, ◌+◌, ◌-◌, cond, Option, Some, None, option_and_then, List, [], ◌∷◌, ◌++◌, length, Result, Ok, Err}
use Rattle.theory.specs.Terms.{Term, Var, Const}
use Rattle.theory.specs.Telescopes.{Telescope, products, functions, applied}
use Rattle.theory.specs.Signatures.{Signature}
use Rattle.core_terms.specs.Answers.{and_then, are_low}
use Rattle.core_terms.specs.declared.stop.Stop.{Stop}
use Rattle.core_terms.specs.declared.stop.Stop.TheVariants.{Deep}
use Rattle.core_sig.specs.Drafts.{Draft}
use Rattle.tree_translation.specs.structural_rec.Positions.{Admission}
use Rattle.tree_translation.specs.Naming.{Naming, number_in, rec_name, step_name, with_names}
use Rattle.tree_translation.specs.Splits.{Node}
use Rattle.tree_translation.specs.Plans.{Part, Plan, own_part}
use Rattle.tree_translation.specs.Recursion.{NamedRecursion, below_type, below_with, first_positions, motive_with, parameters_at, recursions_named, remaining_positions, scrutinee_at, terms_at}
use Rattle.tree_translation.specs.Entries.{goal_with_below, ordered_variables, with_below}
use Rattle.leaf_terms.specs.CodeNumbering.{numbered}
use Rattle.function_entries.specs.CodeEntries.{motive_body, motive_made, motive_type, node_type, own_goal, own_order, own_telescope, recursive_made, step_goal, step_telescope, table_from, translation_over, tree_entry_made, with_draft}
use Rattle.lex_recursion.specs.Pairs as pairs
use Rattle.lex_recursion.specs.PairEntries.{PairRecursion, behind_first, below_names, first_count, first_step_names, motive2_name, pair_recursion_at, pair_recursion_of, pair_recursions, second_count, second_named, step2_name, step2_names}

-- ---- the recursions

-- where position j admits recursion
abbrev pub pair_behind : Signature → Telescope → (j k : ℕ) → Admission → Option PairRecursion
pair_behind S tele j k a = option_and_then (pair_recursion_of S) (pairs.pair_behind S tele j a k)

-- at positions of a telescope, or Deep
abbrev pub pair_at_made : Signature → Telescope → (j k : ℕ) → Result (Option PairRecursion) Stop
pair_at_made S tele j k = cond (are_low tele) (Ok (pair_recursion_at S tele j k)) (Err Deep)

-- nothing is looked for without a position
abbrev pub pair_with_made : Signature → Telescope → (position : Option ℕ) → (k : ℕ) → Result (Option PairRecursion) Stop
pair_with_made S tele None k = Ok None
pair_with_made S tele (Some j) k = pair_at_made S tele j k

abbrev pub pair_recursion_made : Signature → Plan → (second : ℕ) → Result (Option PairRecursion) Stop
pair_recursion_made S plan second = pair_with_made S (own_part plan).tele plan.position second

-- ---- the second motive

abbrev pub pair_below : Plan → Part → PairRecursion → Naming → Term
pair_below plan own p number = below_type number plan p.outer (ordered_variables (own_order own p.inner) (first_count p))

abbrev pub pair_telescope : Plan → Part → PairRecursion → Naming → Telescope
pair_telescope plan own p number = with_below (first_count p) (pair_below plan own p number) (own_telescope own p.inner)

abbrev pub pair_goal : Part → PairRecursion → Term
pair_goal own p = goal_with_below (first_count p) (length own.tele) (own_goal own p.inner)

abbrev pub motive2_with : Plan → Part → PairRecursion → (table : List (List ℕ)) → Result Draft Stop
motive2_with plan own p table =
    let tele = pair_telescope plan own p (number_in plan.base table) in
    numbered (motive2_name plan.name) plan.base table (motive_type plan.level (second_count p) tele)
    (motive_body (second_count p) tele (pair_goal own p))

abbrev pub motive2_made : Plan → Part → PairRecursion → Result Draft Stop
motive2_made plan own p = motive2_with plan own p (with_names [] (below_names plan p))

-- ---- the second step

abbrev pub begun_terms : Part → PairRecursion → List Term
begun_terms own p =
    let depth = length (first_positions p.inner) in behind_first p depth (ordered_variables (own_order own p.inner) depth)

-- `b` alone, over a context of `depth` variables and it
abbrev pub value_at : PairRecursion → (depth : ℕ) → List Term
value_at p depth = Var (depth - first_count p) ∷ []

-- F!motive2 F is x b G
abbrev pub begun_motive : Plan → PairRecursion → Naming → List Term → Term
begun_motive plan p number terms =
    motive_with number (second_named (motive2_name plan.name) p) terms (value_at p (length (first_positions p.inner)))

abbrev pub second_below : Plan → Part → PairRecursion → Naming → Term
second_below plan own p number =
    below_with number plan p.inner (begun_motive plan p number (begun_terms own p)) (begun_terms own p)

abbrev pub step2_telescope : Plan → Part → PairRecursion → Naming → Telescope
step2_telescope plan own p number = with_below (second_count p) (second_below plan own p number) (pair_telescope plan own p number)

abbrev pub step2_goal : Part → PairRecursion → Term
step2_goal own p = goal_with_below (second_count p) (length own.tele + 1) (pair_goal own p)

abbrev pub step2_node : Plan → Part → PairRecursion → Naming → Node
step2_node plan own p number =
    record { context = step2_telescope plan own p number; goal = step2_goal own p; hidden = first_count p ∷ second_count p ∷ [] }

abbrev pub step2_table : Signature → Plan → Part → PairRecursion → Result (List (List ℕ)) Stop
step2_table S plan own p = table_from S (step2_names plan p) own (step2_node plan own p (number_in plan.base []))

-- the second recursion, and both of them, with motives of these names
abbrev pub named_with : PairRecursion → (motive : List ℕ) → (places : List ℕ) → NamedRecursion
named_with p motive places = record { recursion = p.inner; motive = motive; places = places }

abbrev pub both_recursions : PairRecursion → (motive motive2 : List ℕ) → (places : List ℕ) → List NamedRecursion
both_recursions p motive motive2 places = recursions_named motive (Some p.outer) ++ named_with p motive2 places ∷ []

abbrev pub step2_with : Signature → Plan → Part → PairRecursion → (table : List (List ℕ)) → Result Draft Stop
step2_with S plan own p table =
    let number = number_in plan.base table in
    let node = step2_node plan own p number in
    tree_entry_made (step2_name plan.name) table (translation_over S plan (pair_recursions plan p) own (own_order own p.inner) number) node
    (node_type node)

abbrev pub step2_made : Signature → Plan → Part → PairRecursion → Result Draft Stop
step2_made S plan own p = and_then (step2_table S plan own p) (step2_with S plan own p)

-- ---- the first step

abbrev pub step_terms : Part → PairRecursion → List Term
step_terms own p =
    let count = length own.tele in behind_first p count (ordered_variables (own_order own p.outer) count)

-- F!motive2 or F!step2 at F is x b G
abbrev pub second_at : (name : List ℕ) → Part → PairRecursion → Naming → List Term → Term
second_at name own p number terms = motive_with number (second_named name p) terms (value_at p (length own.tele))

-- js y Q
abbrev pub second_rest : Part → PairRecursion → List Term → List Term
second_rest own p terms = scrutinee_at p.inner terms ++ terms_at (remaining_positions (length own.tele) p.inner) terms

-- qs (F!motive2 F is x b G) (F!step2 F is x b G)
abbrev pub second_motives : Plan → Part → PairRecursion → Naming → List Term → List Term
second_motives plan own p number terms =
    parameters_at own.tele p.inner terms
    ++ second_at (motive2_name plan.name) own p number terms ∷ second_at (step2_name plan.name) own p number terms ∷ []

abbrev pub second_arguments : Plan → Part → PairRecursion → Naming → List Term → List Term
second_arguments plan own p number terms =
    parameters_at own.tele p.inner terms
    ++ second_at (motive2_name plan.name) own p number terms ∷ second_at (step2_name plan.name) own p number terms
    ∷ second_rest own p terms

abbrev pub second_call : Plan → Part → PairRecursion → Naming → Term
second_call plan own p number =
    applied (Const (number (rec_name p.inner.family plan.level))) (second_arguments plan own p number (step_terms own p))

-- (F) -> (is) -> (x) -> (b) -> (R) -> goal
abbrev pub step_type : Part → PairRecursion → Telescope → Term
step_type own p tele = products tele (step_goal own p.outer)

abbrev pub first_step_with : Plan → Part → PairRecursion → (table : List (List ℕ)) → Result Draft Stop
first_step_with plan own p table =
    let number = number_in plan.base table in
    let tele = step_telescope plan own p.outer number in
    numbered (step_name plan.name) plan.base table (step_type own p tele) (functions tele (second_call plan own p number))

abbrev pub first_step_made : Plan → Part → PairRecursion → Result Draft Stop
first_step_made plan own p = first_step_with plan own p (with_names [] (first_step_names plan p))

-- ---- all of them

abbrev pub motives_made : Plan → Part → PairRecursion → Result (List Draft) Stop
motives_made plan own p = and_then (motive_made plan own p.outer) (λ d. with_draft (d ∷ []) (motive2_made plan own p))

-- drafts, followed by the steps
abbrev pub with_steps : Signature → Plan → Part → PairRecursion → (drafts : List Draft) → Result (List Draft) Stop
with_steps S plan own p drafts =
    and_then (with_draft drafts (step2_made S plan own p)) (λ all. with_draft all (first_step_made plan own p))

abbrev pub with_function : Plan → Part → PairRecursion → (drafts : List Draft) → Result (List Draft) Stop
with_function plan own p drafts = with_draft drafts (recursive_made plan own p.outer)

abbrev pub entries_with : Signature → Plan → Part → PairRecursion → Result (List Draft) Stop
entries_with S plan own p = and_then (motives_made plan own p) (λ ds. and_then (with_steps S plan own p ds) (with_function plan own p))

abbrev pub entries_of : Signature → Plan → Part → Option PairRecursion → Result (List Draft) Stop
entries_of S plan own None = Ok []
entries_of S plan own (Some p) = entries_with S plan own p

abbrev pub entries_from : Signature → Plan → Part → (second : ℕ) → Result (List Draft) Stop
entries_from S plan own second = and_then (pair_recursion_made S plan second) (entries_of S plan own)

abbrev pub pair_entries_made : Signature → Plan → (second : ℕ) → Result (List Draft) Stop
pair_entries_made S plan second = entries_from S plan (own_part plan) second
