-- The entries of a function that the code makes are those that are meant, and the only refusal is Deep.
use Rattle.std.proofs.Common.{ℕ, ◌+◌, Option, Some, None, List, [], ◌∷◌, length, drop, slice_get, Result}
use Rattle.theory.specs.Terms.{Term}
use Rattle.theory.specs.Families.{Constructor}
use Rattle.theory.specs.Signatures.{Signature}
use Rattle.core_sig.specs.Drafts.{Draft, drafted}
use Rattle.core_sig.specs.Settling.{renumbered}
use Rattle.core_terms.specs.Answers.{bounded}
use Rattle.core_terms.specs.CaseTrees as tree
use Rattle.core_terms.specs.CaseTrees.{Branch, Branches, Step, Tree}
use Rattle.core_terms.specs.declared.stop.Stop.{Stop}
use Rattle.case_trees.specs.Problems.{Member}
use Rattle.tree_translation.specs.Naming.{helper_name, motive_name, number_among, number_in, step_name, with_names}
use Rattle.tree_translation.specs.Entries.{helper_node, side_names}
use Rattle.tree_translation.specs.Plans.{Part, Plan, own_part}
use Rattle.tree_translation.specs.Recursion.{Recursion}
use Rattle.tree_translation.specs.Splits.{Node}
use Rattle.tree_translation.specs.TreeTerms.{Translation, runs_of, type_in, variable_in}
use Rattle.run_terms.specs.CodeRuns.{after_run}
use Rattle.split_terms.specs.CodeSplits.{member_made, standing_made}
use Rattle.leaf_terms.specs.RecursionMade.{made_at, recursion_made}
use Rattle.leaf_terms.proofs.LeafTerms.{leaf-is-deep}
use Rattle.function_entries.specs.CodeEntries.{body_made, entries_made, first_count, first_entries, function_by_recursion, helper_made, helpers_made, motive_body, motive_made, motive_type, node_type, old_order, own_goal, own_order, own_telescope, plain_made, recursive_made, recursive_names, step_made, step_node, table_made, translation_with, tree_entry_made, with_draft}
use Rattle.leaf_terms.specs.CodeNumbering.{names_at, numbered, places_of}
use Rattle.function_entries.specs.CodeTrees.{branch_names_made, branches_names_made, end_made, ends_made, names_at_split, next_made, node_after, tree_made, tree_names_made}
use Rattle.function_entries.proofs.EntriesMade.{translate-is}
use Rattle.entry_laws.proofs.replay_laws.ReplayedSteps.{OnlyDeep, after_run-only_deep, after_step-is_step, if-deep, never, then-deep}
use Rattle.exact_laws.proofs.run_laws.MadeSplits.{split-only_deep, split_names-only_deep, standing-deep}
use Rattle.exact_laws.specs.translation_laws.EntryLaws.{TranslateMadeIsEntries, TranslateMadeOnlyDeep}

pub translate_made-is_entries : TranslateMadeIsEntries
translate_made-is_entries S plan drafts e = translate-is S (after_step-is_step S) plan drafts e

-- ---- refusals

member-deep : (S : Signature) (type : Term) → OnlyDeep (member_made S type)
member-deep S type = if-deep _ _ (never _)

found-deep : (S : Signature) (node : Node) (m : Member) (x number : ℕ) (steps : List Step) (o : Option Constructor)
    → OnlyDeep (node_after S node m x number steps o)
found-deep S node m x number steps None = never _
found-deep S node m x number steps (Some c) =
    then-deep (standing_made node m x number c) _ (standing-deep node m x number c) (λ s.
    then-deep (after_run S steps s) _ (after_run-only_deep S steps s) (λ end. never _))

next-deep : (S : Signature) (node : Node) (x number : ℕ) (steps : List Step) (o : Option Member) → OnlyDeep (next_made S node x number steps o)
next-deep S node x number steps None = never _
next-deep S node x number steps (Some m) = found-deep S node m x number steps (slice_get m.family.constructors number)

mutual
  tree-deep : (w : Translation) (t : Tree) (node : Node) → OnlyDeep (tree_made w t node)
  tree-deep w (tree.Leaf clause context goal substitution terms binds) node =
      leaf-is-deep w.number w.plan w.recursions w.part w.order (length node.context) node.hidden clause substitution terms binds
  tree-deep w (tree.Split context x n type branches) node =
      then-deep (member_made w.signature (type_in node type)) _ (member-deep w.signature (type_in node type)) (λ o.
      then-deep (ends_made w branches node (variable_in node x) o 0 []) _ (ends-deep w branches node (variable_in node x) o 0 []) (λ ends.
      split-only_deep w.signature w.number w.part.level node (variable_in node x) (type_in node type) (runs_of branches) ends))

  ends-deep : (w : Translation) (branches : Branches) (node : Node) (x : ℕ) (o : Option Member) (number : ℕ) (made : List Term)
      → OnlyDeep (ends_made w branches node x o number made)
  ends-deep w tree.nil node x o number made = never _
  ends-deep w (tree.cons branch branches) node x o number made =
      then-deep (end_made w branch node x o number made) _ (end-deep w branch node x o number made) (λ all.
      ends-deep w branches node x o (number + 1) all)

  end-deep : (w : Translation) (branch : Branch) (node : Node) (x : ℕ) (o : Option Member) (number : ℕ) (made : List Term)
      → OnlyDeep (end_made w branch node x o number made)
  end-deep w (tree.Absurd steps context u v) node x o number made = never _
  end-deep w (tree.Solved steps origins subtree) node x o number made =
      then-deep (next_made w.signature node x number steps o) _ (next-deep w.signature node x number steps o) (λ next.
      then-deep (tree_made w subtree next) _ (tree-deep w subtree next) (λ t. never _))

mutual
  names-deep : (S : Signature) (L : ℕ) (t : Tree) (node : Node) (names : List (List ℕ)) → OnlyDeep (tree_names_made S L t node names)
  names-deep S L (tree.Leaf clause context goal substitution terms binds) node names = never _
  names-deep S L (tree.Split context x n type branches) node names =
      then-deep (member_made S (type_in node type)) _ (member-deep S (type_in node type)) (λ o.
      then-deep (names_at_split S L node (variable_in node x) (type_in node type) branches names) _
      (split_names-only_deep S L node (variable_in node x) (type_in node type) (runs_of branches) names) (λ all.
      branches-names-deep S L branches node (variable_in node x) o 0 all))

  branches-names-deep : (S : Signature) (L : ℕ) (branches : Branches) (node : Node) (x : ℕ) (o : Option Member) (number : ℕ) (names : List (List ℕ))
      → OnlyDeep (branches_names_made S L branches node x o number names)
  branches-names-deep S L tree.nil node x o number names = never _
  branches-names-deep S L (tree.cons branch branches) node x o number names =
      then-deep (branch_names_made S L branch node x o number names) _ (branch-names-deep S L branch node x o number names) (λ all.
      branches-names-deep S L branches node x o (number + 1) all)

  branch-names-deep : (S : Signature) (L : ℕ) (branch : Branch) (node : Node) (x : ℕ) (o : Option Member) (number : ℕ) (names : List (List ℕ))
      → OnlyDeep (branch_names_made S L branch node x o number names)
  branch-names-deep S L (tree.Absurd steps context u v) node x o number names = never _
  branch-names-deep S L (tree.Solved steps origins subtree) node x o number names =
      then-deep (next_made S node x number steps o) _ (next-deep S node x number steps o) (λ next. names-deep S L subtree next names)

-- ---- entries

bounded-deep : (t : Term) → OnlyDeep (bounded t)
bounded-deep t = if-deep _ _ (never _)

drafted-deep : (name : List ℕ) (base : ℕ) (names : List (List ℕ)) (t u : Term) → OnlyDeep (drafted name base names t u)
drafted-deep name base names t u = then-deep (bounded t) _ (bounded-deep t) (λ a. then-deep (bounded u) _ (bounded-deep u) (λ b. never _))

numbered-deep : (name : List ℕ) (base : ℕ) (table : List (List ℕ)) (t u : Term) → OnlyDeep (numbered name base table t u)
numbered-deep name base table t u =
    let places = places_of base t u in
    drafted-deep name base (names_at table places) (renumbered (number_among base places) t) (renumbered (number_among base places) u)

table-deep : (S : Signature) (plan : Plan) (r : Option Recursion) (at : ℕ) (part : Part) (node : Node) → OnlyDeep (table_made S plan r at part node)
table-deep S plan r at part node =
    let names = side_names plan r at in
    then-deep (tree_names_made S part.level part.tree node names) _ (names-deep S part.level part.tree node names) (λ names. never _)

entry-deep : (name : List ℕ) (table : List (List ℕ)) (w : Translation) (node : Node) (type : Term) → OnlyDeep (tree_entry_made name table w node type)
entry-deep name table w node type =
    then-deep (body_made w node) _ (then-deep (tree_made w w.part.tree node) _ (tree-deep w w.part.tree node) (λ t. never _)) (λ t.
    numbered-deep name w.plan.base table type t)

helper-deep : (S : Signature) (plan : Plan) (r : Option Recursion) (k : ℕ) (part : Part) → OnlyDeep (helper_made S plan r k part)
helper-deep S plan r k part =
    then-deep (table_made S plan r k part (helper_node plan r part (number_in plan.base []))) _
    (table-deep S plan r k part (helper_node plan r part (number_in plan.base []))) (λ table.
    let number = number_in plan.base table in
    let node = helper_node plan r part number in
    entry-deep (helper_name plan.name k) table (translation_with S plan r part (old_order part) number) node (node_type node))

helpers-deep : (S : Signature) (plan : Plan) (r : Option Recursion) (k : ℕ) (parts : List Part) (drafts : List Draft)
    → OnlyDeep (helpers_made S plan r k parts drafts)
helpers-deep S plan r k [] drafts = never _
helpers-deep S plan r k (part ∷ parts) drafts =
    then-deep (helpers_made S plan r (k + 1) parts drafts) _ (helpers-deep S plan r (k + 1) parts drafts) (λ all.
    then-deep (helper_made S plan r k part) _ (helper-deep S plan r k part) (λ d. never _))

with-deep : (drafts : List Draft) (made : Result Draft Stop) → OnlyDeep made → OnlyDeep (with_draft drafts made)
with-deep drafts made h = then-deep made _ h (λ d. never _)

plain-deep : (S : Signature) (plan : Plan) (own : Part) → OnlyDeep (plain_made S plan own)
plain-deep S plan own =
    then-deep (table_made S plan None 0 own (helper_node plan None own (number_in plan.base []))) _
    (table-deep S plan None 0 own (helper_node plan None own (number_in plan.base []))) (λ table.
    let number = number_in plan.base table in
    entry-deep plan.name table (translation_with S plan None own (old_order own) number) (helper_node plan None own number) plan.type)

step-deep : (S : Signature) (plan : Plan) (own : Part) (r : Recursion) → OnlyDeep (step_made S plan own r)
step-deep S plan own r =
    then-deep (table_made S plan (Some r) 0 own (step_node plan own r (number_in plan.base []))) _
    (table-deep S plan (Some r) 0 own (step_node plan own r (number_in plan.base []))) (λ table.
    let number = number_in plan.base table in
    let node = step_node plan own r number in
    entry-deep (step_name plan.name) table (translation_with S plan (Some r) own (own_order own r) number) node (node_type node))

motive-deep : (plan : Plan) (own : Part) (r : Recursion) → OnlyDeep (motive_made plan own r)
motive-deep plan own r =
    numbered-deep (motive_name plan.name) plan.base [] (motive_type plan.level (first_count r) (own_telescope own r))
    (motive_body (first_count r) (own_telescope own r) (own_goal own r))

function-deep : (plan : Plan) (own : Part) (r : Recursion) → OnlyDeep (recursive_made plan own r)
function-deep plan own r =
    let table = with_names [] (recursive_names plan r) in
    numbered-deep plan.name plan.base table plan.type (function_by_recursion plan own r (number_in plan.base table))

entries-deep : (S : Signature) (plan : Plan) (own : Part) (helpers : List Part) (r : Option Recursion) → OnlyDeep (entries_made S plan own helpers r)
entries-deep S plan own helpers None =
    then-deep (helpers_made S plan None 1 helpers []) _ (helpers-deep S plan None 1 helpers []) (λ drafts.
    with-deep drafts (plain_made S plan own) (plain-deep S plan own))
entries-deep S plan own helpers (Some r) =
    then-deep (first_entries S plan own helpers r) _
    (then-deep (motive_made plan own r) _ (motive-deep plan own r) (λ d. helpers-deep S plan (Some r) 1 helpers (d ∷ []))) (λ drafts.
    then-deep (with_draft drafts (step_made S plan own r)) _ (with-deep drafts (step_made S plan own r) (step-deep S plan own r)) (λ all.
    with-deep all (recursive_made plan own r) (function-deep plan own r)))

found-recursion-deep : (S : Signature) (plan : Plan) → OnlyDeep (recursion_made S plan)
found-recursion-deep S plan = by plan.position
  where
    by : (position : Option ℕ) → OnlyDeep (made_at S (own_part plan).tele position)
    by None = never _
    by (Some j) = if-deep _ _ (never _)

pub translate_made-only_deep : TranslateMadeOnlyDeep
translate_made-only_deep S plan =
    then-deep (recursion_made S plan) _ (found-recursion-deep S plan) (λ r. entries-deep S plan (own_part plan) (drop 1 plan.parts) r)
