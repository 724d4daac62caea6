-- The entries that the code makes of a plan are those that are meant.
use Rattle.std.proofs.Common.{◌≡◌, ℕ, ◌+◌, Option, Some, None, List, [], ◌∷◌, ◌++◌, drop, Result, Ok, refl, sym, ap, ap₂, ◌∙◌, subst as transport, arith}
use mathlib.Core.Path.{fun_ext}
use Rattle.theory.specs.Terms.{Term}
use Rattle.theory.specs.Telescopes.{functions}
use Rattle.theory.specs.Signatures.{Signature}
use Rattle.core_terms.specs.declared.stop.Stop.{Stop}
use Rattle.core_terms.proofs.Builders.{ok_is}
use Rattle.core_sig.specs.Drafts.{Draft}
use Rattle.tele_eq.proofs.Growing.{append-none}
use Rattle.tree_translation.specs.Entries.{and_more, entries_with, function_entry, helper_entry, helper_node, helpers_before, motive_entry, side_names, step_entry}
use Rattle.tree_translation.specs.Naming.{Naming, helper_name, number_in, step_name, with_names}
use Rattle.tree_translation.specs.Plans.{Plan, Part, own_part}
use Rattle.tree_translation.specs.Recursion.{Recursion}
use Rattle.tree_translation.specs.Splits.{Node}
use Rattle.tree_translation.specs.TreeTerms.{Translation, tree_names, tree_term}
use Rattle.run_terms.proofs.MadeTerms.{if-both}
use Rattle.split_terms.specs.Laws.{StepsAreThese}
use Rattle.leaf_terms.specs.RecursionMade.{recursion_made}
use Rattle.leaf_terms.proofs.RecursionFound.{recursion-found}
use Rattle.function_entries.specs.CodeEntries.{body_made, entries_made, first_entries, helper_made, helper_with, helpers_made, last_entries, motive_made, node_type, old_order, own_order, plain_entries, plain_made, plain_with, recursive_entries, recursive_made, step_made, step_node, step_with, table_from, table_made, translation_with, tree_entry_made, with_draft}
use Rattle.leaf_terms.specs.CodeNumbering.{numbered}
use Rattle.function_entries.specs.CodeTrees.{tree_made, tree_names_made}
use Rattle.function_entries.specs.Laws.{TranslateIsEntries}
use Rattle.leaf_terms.proofs.Mentions.{append-append}
use Rattle.function_entries.proofs.TreesMade.{tree-is, tree-names-are}

-- ---- entries with a tree

-- without names each name has the number of the first one
base-number : (base : ℕ) → number_in base [] ≡ (λ name. base)
base-number base = fun_ext (λ name. omega arith)

-- the names that an entry with a tree may mention
abbrev table-of : Signature → Plan → Option Recursion → (at : ℕ) → Part → Node → List (List ℕ)
table-of S plan r at part node = with_names [] (side_names plan r at ++ tree_names S part.level part.tree node)

-- of these names and those of a tree
pub table-from-is : (S : Signature) → StepsAreThese S → (base : ℕ) (names : List (List ℕ)) (part : Part) (node : Naming → Node) (table : List (List ℕ))
    → table_from S names part (node (number_in base [])) ≡ Ok table
    → table ≡ with_names [] (names ++ tree_names S part.level part.tree (node (λ name. base)))
table-from-is S these base names part node table e =
    let start = node (number_in base []) in
    let both = if-both (tree_names_made S part.level part.tree start names) (λ names. Ok (with_names [] names)) table e in
    sym (ok_is both.2)
    ∙ ap (with_names []) (tree-names-are S these part.level part.tree start names both.0 both.1)
    ∙ ap (λ number. with_names [] (names ++ tree_names S part.level part.tree (node number))) (base-number base)

table-is : (S : Signature) → StepsAreThese S → (plan : Plan) (r : Option Recursion) (at : ℕ) (part : Part) (node : Naming → Node) (table : List (List ℕ))
    → table_made S plan r at part (node (number_in plan.base [])) ≡ Ok table → table ≡ table-of S plan r at part (node (λ name. plan.base))
table-is S these plan r at part node table e = table-from-is S these plan.base (side_names plan r at) part node table e

pub entry-is : (name : List ℕ) (table : List (List ℕ)) (w : Translation) → StepsAreThese w.signature → (node : Node) (type : Term) (d : Draft)
    → tree_entry_made name table w node type ≡ Ok d
    → numbered name w.plan.base table type (functions node.context (tree_term w w.part.tree node)) ≡ Ok d
entry-is name table w these node type d e =
    let first = if-both (body_made w node) (numbered name w.plan.base table type) d e in
    let second = if-both (tree_made w w.part.tree node) (λ t. Ok (functions node.context t)) first.0 first.1 in
    ap (numbered name w.plan.base table type)
    (sym (ap (functions node.context) (tree-is w these w.part.tree node second.0 second.1)) ∙ ok_is second.2)
    ∙ first.2

step-is : (S : Signature) → StepsAreThese S → (plan : Plan) (r : Recursion) (d : Draft) → step_made S plan (own_part plan) r ≡ Ok d
    → step_entry S plan r ≡ Ok d
step-is S these plan r d e =
    let own = own_part plan in
    let node : Naming → Node = step_node plan own r in
    let both = if-both (table_made S plan (Some r) 0 own (node (number_in plan.base []))) (step_with S plan own r) d e in
    let table = table-of S plan (Some r) 0 own (node (λ name. plan.base)) in
    let number = number_in plan.base table in
    let same = table-is S these plan (Some r) 0 own node both.0 both.1 in
    entry-is (step_name plan.name) table (translation_with S plan (Some r) own (own_order own r) number) these (node number)
    (node_type (node number)) d
    (transport (λ table. step_with S plan own r table ≡ Ok d) same both.2)

helper-is : (S : Signature) → StepsAreThese S → (plan : Plan) (r : Option Recursion) (k : ℕ) (part : Part) (d : Draft)
    → helper_made S plan r k part ≡ Ok d → helper_entry S plan r k part ≡ Ok d
helper-is S these plan r k part d e =
    let node : Naming → Node = helper_node plan r part in
    let both = if-both (table_made S plan r k part (node (number_in plan.base []))) (helper_with S plan r k part) d e in
    let table = table-of S plan r k part (node (λ name. plan.base)) in
    let number = number_in plan.base table in
    let same = table-is S these plan r k part node both.0 both.1 in
    entry-is (helper_name plan.name k) table (translation_with S plan r part (old_order part) number) these (node number)
    (node_type (node number)) d
    (transport (λ table. helper_with S plan r k part table ≡ Ok d) same both.2)

plain-is : (S : Signature) → StepsAreThese S → (plan : Plan) (d : Draft) → plain_made S plan (own_part plan) ≡ Ok d
    → function_entry S plan None ≡ Ok d
plain-is S these plan d e =
    let own = own_part plan in
    let node : Naming → Node = helper_node plan None own in
    let both = if-both (table_made S plan None 0 own (node (number_in plan.base []))) (plain_with S plan own) d e in
    let table = table-of S plan None 0 own (node (λ name. plan.base)) in
    let number = number_in plan.base table in
    let same = table-is S these plan None 0 own node both.0 both.1 in
    entry-is plan.name table (translation_with S plan None own (old_order own) number) these (node number) plan.type d
    (transport (λ table. plain_with S plan own table ≡ Ok d) same both.2)

-- ---- lists of entries

pub more : (first : Result Draft Stop) (others : Result (List Draft) Stop) (d : Draft) (ds : List Draft) → first ≡ Ok d → others ≡ Ok ds
    → and_more first others ≡ Ok (d ∷ ds)
more first others d ds e f = ap₂ and_more e f

-- the drafts of helpers follow those that are made already, whatever these are
helpers-are : (S : Signature) → StepsAreThese S → (plan : Plan) (r : Option Recursion) (k : ℕ) (parts : List Part) (drafts all : List Draft)
    → helpers_made S plan r k parts drafts ≡ Ok all
    → (hs : List Draft) × (all ≡ drafts ++ hs)
    × ((others : Result (List Draft) Stop) (ds : List Draft) → others ≡ Ok ds → helpers_before S plan r k parts others ≡ Ok (hs ++ ds))
helpers-are S these plan r k [] drafts all e = ([], sym (ok_is e) ∙ sym (append-none drafts), λ others ds h. h)
helpers-are S these plan r k (part ∷ parts) drafts all e =
    let first = if-both (helpers_made S plan r (k + 1) parts drafts) (λ all. with_draft all (helper_made S plan r k part)) all e in
    let second = if-both (helper_made S plan r k part) (λ d. Ok (first.0 ++ d ∷ [])) all first.2 in
    let rest = helpers-are S these plan r (k + 1) parts drafts first.0 first.1 in
    let one = second.0 ∷ [] in (
      rest.0 ++ one,
      sym (ok_is second.2) ∙ ap (λ ds. ds ++ one) rest.1 ∙ append-append drafts rest.0 one,
      λ others ds h.
          rest.2 (and_more (helper_entry S plan r k part) others) (second.0 ∷ ds)
          (more (helper_entry S plan r k part) others second.0 ds (helper-is S these plan r k part second.0 second.1) h)
          ∙ ap Ok (sym (append-append rest.0 one ds)),
    )

plain-are : (S : Signature) → StepsAreThese S → (plan : Plan) (ds : List Draft) → plain_entries S plan (own_part plan) (drop 1 plan.parts) ≡ Ok ds
    → entries_with S plan None ≡ Ok ds
plain-are S these plan ds e =
    let own = own_part plan in
    let helpers = drop 1 plan.parts in
    let first = if-both (helpers_made S plan None 1 helpers []) (λ drafts. with_draft drafts (plain_made S plan own)) ds e in
    let second = if-both (plain_made S plan own) (λ d. Ok (first.0 ++ d ∷ [])) ds first.2 in
    let before = helpers-are S these plan None 1 helpers [] first.0 first.1 in
    let one = second.0 ∷ [] in
    before.2 (and_more (function_entry S plan None) (Ok [])) one
    (more (function_entry S plan None) (Ok []) second.0 [] (plain-is S these plan second.0 second.1) refl)
    ∙ ap Ok (sym (ap (λ drafts. drafts ++ one) before.1) ∙ ok_is second.2)

recursive-are : (S : Signature) → StepsAreThese S → (plan : Plan) (r : Recursion) (ds : List Draft)
    → recursive_entries S plan (own_part plan) (drop 1 plan.parts) r ≡ Ok ds → entries_with S plan (Some r) ≡ Ok ds
recursive-are S these plan r ds e =
    let own = own_part plan in
    let helpers = drop 1 plan.parts in
    let both = if-both (first_entries S plan own helpers r) (last_entries S plan own r) ds e in
    let motive = if-both (motive_made plan own r) (λ d. helpers_made S plan (Some r) 1 helpers (d ∷ [])) both.0 both.1 in
    let before = helpers-are S these plan (Some r) 1 helpers (motive.0 ∷ []) both.0 motive.2 in
    let last = if-both (with_draft both.0 (step_made S plan own r)) (λ all. with_draft all (recursive_made plan own r)) ds both.2 in
    let step = if-both (step_made S plan own r) (λ d. Ok (both.0 ++ d ∷ [])) last.0 last.1 in
    let whole = if-both (recursive_made plan own r) (λ d. Ok (last.0 ++ d ∷ [])) ds last.2 in
    let function = more (function_entry S plan (Some r)) (Ok []) whole.0 [] whole.1 refl in
    let two = step.0 ∷ whole.0 ∷ [] in
    let after = more (step_entry S plan r) (and_more (function_entry S plan (Some r)) (Ok [])) step.0 (whole.0 ∷ [])
    (step-is S these plan r step.0 step.1) function in
    let second = before.2 (and_more (step_entry S plan r) (and_more (function_entry S plan (Some r)) (Ok []))) two after in
    more (motive_entry plan r) _ motive.0 (before.0 ++ two) motive.1 second
    ∙ ap Ok
    (sym (ap (λ drafts. (drafts ++ step.0 ∷ []) ++ whole.0 ∷ []) before.1 ∙ append-append (motive.0 ∷ before.0) (step.0 ∷ []) (whole.0 ∷ []))
    ∙ ap (λ drafts. drafts ++ whole.0 ∷ []) (ok_is step.2)
    ∙ ok_is whole.2)

entries-are : (S : Signature) → StepsAreThese S → (plan : Plan) (r : Option Recursion) (ds : List Draft)
    → entries_made S plan (own_part plan) (drop 1 plan.parts) r ≡ Ok ds → entries_with S plan r ≡ Ok ds
entries-are S these plan None ds e = plain-are S these plan ds e
entries-are S these plan (Some r) ds e = recursive-are S these plan r ds e

pub translate-is : TranslateIsEntries
translate-is S these plan ds e =
    let both = if-both (recursion_made S plan) (entries_made S plan (own_part plan) (drop 1 plan.parts)) ds e in
    transport (λ r. entries_with S plan r ≡ Ok ds) (recursion-found S plan both.0 both.1) (entries-are S these plan both.0 ds both.2)
