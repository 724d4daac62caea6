-- The entries that the code makes of a function over a pair of positions are those that are meant.
use Rattle.std.proofs.Common.{◌≡◌, ℕ, ◌++◌, Option, Some, None, List, [], ◌∷◌, length, Result, Ok, refl, sym, ap, ◌∙◌, subst as transport}
use Rattle.theory.specs.Signatures.{Signature}
use Rattle.core_terms.specs.Answers.{and_then, are_low}
use Rattle.core_terms.specs.declared.stop.Stop.{Stop}
use Rattle.core_terms.proofs.Builders.{ok_is}
use Rattle.core_sig.specs.Drafts.{Draft}
use Rattle.tree_translation.specs.Entries.{and_more, function_entry, motive_entry}
use Rattle.tree_translation.specs.Naming.{Naming, number_in, with_names}
use Rattle.tree_translation.specs.Plans.{Plan, own_part}
use Rattle.tree_translation.specs.Splits.{Node}
use Rattle.tree_translation.specs.TreeTerms.{tree_names}
use Rattle.run_terms.proofs.MadeTerms.{if-both, if-low}
use Rattle.split_terms.specs.Laws.{StepsAreThese}
use Rattle.function_entries.specs.CodeEntries.{motive_made, node_type, own_order, recursive_made, translation_over, with_draft}
use Rattle.function_entries.proofs.EntriesMade.{entry-is, more, table-from-is}
use Rattle.lex_recursion.specs.PairEntries.{PairRecursion, first_step_entry, motive2_entry, pair_entries_at, pair_entries_with, pair_recursion, pair_recursion_at, pair_recursions, step2_entry, step2_name, step2_names}
use Rattle.pair_entries.specs.CodePairEntries.{entries_of, entries_with, first_step_made, motive2_made, motives_made, pair_recursion_made, pair_with_made, step2_made, step2_node, step2_table, step2_with, with_function, with_steps}
use Rattle.pair_entries.specs.PairLaws.{PairEntriesAreThese}

pub pair-found : (S : Signature) (plan : Plan) (second : ℕ) (o : Option PairRecursion) → pair_recursion_made S plan second ≡ Ok o → o ≡ pair_recursion S plan second
pair-found S plan second o e = by plan.position e
  where
    by : (position : Option ℕ) → pair_with_made S (own_part plan).tele position second ≡ Ok o
        → o ≡ pair_recursion S (record plan { position = position }) second
    by None e = sym (ok_is e)
    by (Some j) e = if-low (are_low (own_part plan).tele) (pair_recursion_at S (own_part plan).tele j second) o e

step2-is : (S : Signature) → StepsAreThese S → (plan : Plan) (p : PairRecursion) (d : Draft) → step2_made S plan (own_part plan) p ≡ Ok d → step2_entry S plan p ≡ Ok d
step2-is S these plan p d e =
    let own = own_part plan in
    let node : Naming → Node = step2_node plan own p in
    let both = if-both (step2_table S plan own p) (step2_with S plan own p) d e in
    let table = with_names [] (step2_names plan p ++ tree_names S own.level own.tree (node (λ name. plan.base))) in
    let number = number_in plan.base table in
    let same = table-from-is S these plan.base (step2_names plan p) own node both.0 both.1 in
    entry-is (step2_name plan.name) table (translation_over S plan (pair_recursions plan p) own (own_order own p.inner) number) these (node number)
    (node_type (node number)) d
    (transport (λ table. step2_with S plan own p table ≡ Ok d) same both.2)

pair-are : (S : Signature) → StepsAreThese S → (plan : Plan) (p : PairRecursion) (ds : List Draft) → entries_with S plan (own_part plan) p ≡ Ok ds
    → pair_entries_with S plan p ≡ Ok ds
pair-are S these plan p ds e =
    let own = own_part plan in
    let all = if-both (motives_made plan own p) (λ ds. and_then (with_steps S plan own p ds) (with_function plan own p)) ds e in
    let first = if-both (motive_made plan own p.outer) (λ d. with_draft (d ∷ []) (motive2_made plan own p)) all.0 all.1 in
    let second = if-both (motive2_made plan own p) (λ d. Ok ((first.0 ∷ []) ++ d ∷ [])) all.0 first.2 in
    let rest = if-both (with_steps S plan own p all.0) (with_function plan own p) ds all.2 in
    let steps = if-both (with_draft all.0 (step2_made S plan own p)) (λ ds. with_draft ds (first_step_made plan own p)) rest.0 rest.1 in
    let third = if-both (step2_made S plan own p) (λ d. Ok (all.0 ++ d ∷ [])) steps.0 steps.1 in
    let fourth = if-both (first_step_made plan own p) (λ d. Ok (steps.0 ++ d ∷ [])) rest.0 steps.2 in
    let last = if-both (recursive_made plan own p.outer) (λ d. Ok (rest.0 ++ d ∷ [])) ds rest.2 in
    let end : Result (List Draft) Stop = Ok [] in
    let five = and_more (function_entry S plan (Some p.outer)) end in
    let four = and_more (first_step_entry plan p) five in
    let three = and_more (step2_entry S plan p) four in
    more (motive_entry plan p.outer) (and_more (motive2_entry plan p) three) first.0 (second.0 ∷ third.0 ∷ fourth.0 ∷ last.0 ∷ []) first.1
    (more (motive2_entry plan p) three second.0 (third.0 ∷ fourth.0 ∷ last.0 ∷ []) second.1
    (more (step2_entry S plan p) four third.0 (fourth.0 ∷ last.0 ∷ []) (step2-is S these plan p third.0 third.1)
    (more (first_step_entry plan p) five fourth.0 (last.0 ∷ []) fourth.1
    (more (function_entry S plan (Some p.outer)) end last.0 [] last.1 refl))))
    ∙ ap Ok
    (ap (λ xs. ((xs ++ third.0 ∷ []) ++ fourth.0 ∷ []) ++ last.0 ∷ []) (ok_is second.2)
    ∙ (ap (λ xs. (xs ++ fourth.0 ∷ []) ++ last.0 ∷ []) (ok_is third.2)
    ∙ (ap (λ xs. xs ++ last.0 ∷ []) (ok_is fourth.2) ∙ ok_is last.2)))

pub pair-entries-are : PairEntriesAreThese
pair-entries-are S these plan second drafts e =
    let both = if-both (pair_recursion_made S plan second) (entries_of S plan (own_part plan)) drafts e in
    transport (λ o. pair_entries_at S plan o ≡ Ok drafts) (pair-found S plan second both.0 both.1) (by both.0 both.2)
  where
    by : (o : Option PairRecursion) → entries_of S plan (own_part plan) o ≡ Ok drafts → pair_entries_at S plan o ≡ Ok drafts
    by None e = e
    by (Some p) e = pair-are S these plan p drafts e
