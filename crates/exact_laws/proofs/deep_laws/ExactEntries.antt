-- The code makes the entries that a plan translates to: each entry, and so all of them.
use Rattle.std.proofs.Common.{◌≡◌, ◌≢◌, ℕ, suc, ◌+◌, ◌≤◌, true, cond, Option, Some, None, option_and_then, option_map, IfSome, List, [], ◌∷◌, ◌++◌, length, drop, get_or, slice_get, All, Result, Ok, Err, refl, sym, ap, ◌∙◌, subst as transport, append_assoc, arith}
use Rattle.std.proofs.lemmas.Option.{none-some}
use Rattle.theory.specs.Terms.{Sort, height}
use Rattle.theory.specs.Telescopes.{Telescope, functions, products}
use Rattle.theory.specs.Families.{Family}
use Rattle.theory.specs.Signatures.{Signature}
use Rattle.theory.specs.SignatureScopes.{IsScoped}
use Rattle.core_terms.specs.Answers.{and_then, are_low}
use Rattle.core_terms.specs.declared.stop.Stop.{Stop}
use Rattle.core_terms.specs.declared.stop.Stop.TheVariants.{Deep}
use Rattle.theory.proofs.Lists.{some_is}
use Rattle.core_sig.specs.Drafts.{Draft}
use Rattle.kernel_reduce.specs.Entries.{family_at}
use Rattle.problems.proofs.LowTerms.{terms-low}
use Rattle.tree_translation.specs.structural_rec.Positions.{Admission, admission}
use Rattle.tree_translation.specs.structural_rec.Uses.{Use}
use Rattle.tree_translation.specs.Conditions.{IsOwnPart, IsPartOf}
use Rattle.tree_translation.specs.Entries.{function_by_recursion, function_entry, helper_entry, helper_node, ordered_variables, part_term, side_names, step_entry, step_node, translate}
use Rattle.tree_translation.specs.Naming.{helper_name, number_in, step_name, with_names}
use Rattle.tree_translation.specs.Plans.{Part, Plan, no_part, own_part}
use Rattle.tree_translation.specs.Recursion.{Recursion, order_of, ordered_telescope, ordered_term, recursion_at, recursion_of, recursion_with}
use Rattle.tree_translation.specs.TreeTerms.{tree_names}
use Rattle.tree_translation.proofs.Drafting.{AreEntries, AreHelpers, entries-are, entries-deep}
use Rattle.tree_translation.proofs.LevelLists.{length-levels}
use Rattle.entry_laws.proofs.replay_laws.LowParts.{low-products}
use Rattle.leaf_terms.specs.CallsApart.{CallsStandApart}
use Rattle.leaf_terms.specs.RecursionMade.{made_at, recursion_made}
use Rattle.function_entries.specs.CodeEntries.{entries_made, helper_made, helpers_made, last_entries, node_type, old_order, own_order, plain_made, recursive_made, recursive_names, step_made, translate_made, with_draft}
use Rattle.entry_laws.proofs.order_scopes.OrderLengths.{order-counted}
use Rattle.entry_laws.proofs.order_scopes.OrderedScopes.{length-ordered, variables-scoped}
use Rattle.entry_laws.proofs.node_roots.RootNodes.{helper_node-over, step_node-over}
use Rattle.entry_laws.proofs.OnlyEntries.{helper-like, step-like}
use Rattle.exact_laws.proofs.translation_laws.MadeEntries.{translate_made-is_entries, translate_made-only_deep}
use Rattle.exact_laws.proofs.own_scopes.PlainFunctions.{own-plain}
use Rattle.exact_laws.proofs.step_scopes.PlanOrders.{order-there, plan-ordered}
use Rattle.exact_laws.specs.leaf_laws.Laws.{PartIsExact}
use Rattle.exact_laws.specs.deep_laws.Laws.{IsKeptPlan, TranslateAnswers, TranslateIsExact}
use Rattle.exact_laws.proofs.deep_laws.MadeParts.{entry-there, numbered-low, part-begins}

-- ---- the own part

-- it starts from the order of recursion
own-ordered : (S : Signature) (plan : Plan) (uses : List Use) (r : Recursion) → recursion_of S plan ≡ Some r → IsOwnPart S plan uses
    → IsPartOf S plan uses 0 (own_part plan) (ordered_telescope (own_part plan).tele (order_of (length (own_part plan).tele) (Some r)))
    (ordered_term (length (own_part plan).tele) (order_of (length (own_part plan).tele) (Some r)) (own_part plan).goal)
    (ordered_variables (order_of (length (own_part plan).tele) (Some r)) (length (own_part plan).tele))
own-ordered S plan uses r some is =
    let own = own_part plan in
    let count = length own.tele in
    transport
    (λ o.
    IsPartOf S plan uses 0 own (ordered_telescope own.tele (order_of count o)) (ordered_term count (order_of count o) own.goal) (ordered_variables (order_of count o) count))
    some is

first-part : (parts : List Part) → parts ≢ [] → slice_get parts 0 ≡ Some (get_or parts 0 no_part)
first-part [] there = absurd (there refl)
first-part (part ∷ parts) there = refl

-- the parts after the first one
later-part : (parts : List Part) (j : ℕ) (part : Part) → slice_get (drop 1 parts) j ≡ Some part → slice_get parts (j + 1) ≡ Some part
later-part [] j part at = absurd (none-some part at)
later-part (first ∷ parts) j part at = let place : suc j ≡ j + 1 = omega arith in ap (slice_get (first ∷ parts)) (sym place) ∙ at

-- ---- recursion

found-at : (S : Signature) (tele : Telescope) (position : Option ℕ) → are_low tele ≡ true → made_at S tele position ≡ Ok (option_and_then (recursion_at S tele) position)
found-at S tele None low = refl
found-at S tele (Some j) low = ap (λ b. cond {A = Result (Option Recursion) Stop} b (Ok (recursion_at S tele j)) (Err Deep)) low

-- the telescope is part of the written type, which is low
recursion-there : (S : Signature) (plan : Plan) → plan.type ≡ products (own_part plan).tele (own_part plan).goal → height plan.type ≤ 2000
    → recursion_made S plan ≡ Ok (recursion_of S plan)
recursion-there S plan type low =
    let own = own_part plan in
    found-at S own.tele plan.position (terms-low own.tele (low-products own.tele own.goal (transport (λ t. height t ≤ 2000) type low)).0)

function-low : (S : Signature) (plan : Plan) (o : Option Recursion) (d : Draft) → function_entry S plan o ≡ Ok d → height plan.type ≤ 2000
function-low S plan None d e =
    let own = own_part plan in
    let node = helper_node plan None own (λ name. plan.base) in
    let table = with_names [] (side_names plan None 0 ++ tree_names S own.level own.tree node) in
    (numbered-low plan.name plan.base table plan.type
    (functions own.tele (part_term S plan None own (order_of (length own.tele) None) node (number_in plan.base table))) d e).0
function-low S plan (Some r) d e =
    let table = with_names [] (recursive_names plan r) in
    (numbered-low plan.name plan.base table plan.type (function_by_recursion plan r (number_in plan.base table)) d e).0

-- recursion is at the position that a plan has
position-at : (S : Signature) (j : ℕ) (o : Option Admission) (r : Recursion)
    → option_and_then (λ a. option_map (recursion_with j a) (family_at S a.number)) o ≡ Some r → j ≡ r.position
position-at S j None r e = absurd (none-some r e)
position-at S j (Some a) r e = by (family_at S a.number) e
  where
    by : (f : Option Family) → option_map (recursion_with j a) f ≡ Some r → j ≡ r.position
    by None e = absurd (none-some r e)
    by (Some f) e = ap (λ (r : Recursion). r.position) (some_is e)

position-there : (S : Signature) (tele : Telescope) (position : Option ℕ) (r : Recursion) (P : ℕ → Type 0)
    → option_and_then (recursion_at S tele) position ≡ Some r → IfSome position P → P r.position
position-there S tele None r P e h = absurd (none-some r e)
position-there S tele (Some j) r P e h = transport P (position-at S j (admission S tele j) r e) h

-- ---- each entry

module _ (exact : PartIsExact) (S : Signature) (plan : Plan) (kept : IsKeptPlan S plan) where
  calls-apart : (o : Option Recursion) (k : ℕ) (part : Part) → recursion_of S plan ≡ o → slice_get plan.parts k ≡ Some part → (clause : ℕ)
      → IfSome o (λ r. CallsStandApart plan.base r.position (get_or part.sides clause (Sort 0)))
  calls-apart None k part is at clause = tt
  calls-apart (Some r) k part is at clause =
      position-there S (own_part plan).tele plan.position r (λ j. CallsStandApart plan.base j (get_or part.sides clause (Sort 0))) is (kept.apart k part at clause)

  helper-there : (o : Option Recursion) (k : ℕ) (part : Part) (d : Draft) → recursion_of S plan ≡ o → slice_get plan.parts (k + 1) ≡ Some part
      → helper_entry S plan o (k + 1) part ≡ Ok d → helper_made S plan o (k + 1) part ≡ Ok d
  helper-there o k part d is at e =
      let whole = kept.planned.helpers k part at in
      entry-there exact S plan kept.planned.uses (k + 1) part o (old_order part) part.tele part.goal part.terms (helper_node plan o part) (helper_name plan.name (k + 1))
      (λ number. node_type (helper_node plan o part number)) d kept.ready kept.planned.base
      (part-begins S plan kept.planned.uses (k + 1) part part.tele part.goal part.terms (helper_node plan o part) kept.ready whole whole.context_scoped whole.goal_scoped
      whole.terms_scoped (λ number. helper_node-over plan o part number) (λ number other. helper-like plan o part number other))
      (calls-apart o (k + 1) part is at) e

  own-at : slice_get plan.parts 0 ≡ Some (own_part plan)
  own-at = first-part plan.parts kept.planned.there

  step-there : (r : Recursion) (d : Draft) → recursion_of S plan ≡ Some r → step_entry S plan r ≡ Ok d → step_made S plan (own_part plan) r ≡ Ok d
  step-there r d is e =
      let own = own_part plan in
      let count = length own.tele in
      let order = order_of count (Some r) in
      let tele = ordered_telescope own.tele order in
      let goal = ordered_term count order own.goal in
      let terms = ordered_variables order count in
      let whole = order-there S plan r is in
      let long : length tele ≡ count = length-ordered own.tele order whole in
      let counted : length order ≡ count = order-counted count order whole in
      let ordered = plan-ordered S plan r kept.planned is in
      entry-there exact S plan kept.planned.uses 0 own (Some r) (own_order own r) tele goal terms (step_node plan r) (step_name plan.name)
      (λ number. node_type (step_node plan r number)) d kept.ready kept.planned.base
      (part-begins S plan kept.planned.uses 0 own tele goal terms (step_node plan r) kept.ready (own-ordered S plan kept.planned.uses r is kept.planned.own)
      ordered.telescope ordered.goal (transport (λ n. All (IsScoped S n) terms) (sym long) (variables-scoped S order count (omega (arith, counted))))
      (λ number. step_node-over plan r number) (λ number other. step-like plan r number other))
      (calls-apart (Some r) 0 own is own-at) e

  plain-there : (d : Draft) → recursion_of S plan ≡ None → function_entry S plan None ≡ Ok d → plain_made S plan (own_part plan) ≡ Ok d
  plain-there d is e =
      let own = own_part plan in
      let count = length own.tele in
      let order = order_of count None in
      let terms = ordered_variables order count in
      let whole = own-plain S plan kept.planned.uses is kept.planned.own in
      let long : length order ≡ count = length-levels 0 count in
      entry-there exact S plan kept.planned.uses 0 own None (old_order own) own.tele own.goal terms (helper_node plan None own) plan.name (λ number. plan.type) d kept.ready
      kept.planned.base
      (part-begins S plan kept.planned.uses 0 own own.tele own.goal terms (helper_node plan None own) kept.ready whole whole.context_scoped whole.goal_scoped
      (variables-scoped S order count (omega (arith, long))) (λ number. helper_node-over plan None own number) (λ number other. helper-like plan None own number other))
      (calls-apart None 0 own is own-at) e

  -- ---- all of them

  helpers-there : (o : Option Recursion) (k : ℕ) (parts : List Part) (helpers drafts : List Draft) → recursion_of S plan ≡ o
      → ((j : ℕ) (part : Part) → slice_get parts j ≡ Some part → slice_get plan.parts (k + 1 + j) ≡ Some part) → AreHelpers S plan o (k + 1) parts helpers
      → helpers_made S plan o (k + 1) parts drafts ≡ Ok (drafts ++ helpers)
  helpers-there o k [] [] drafts is there AreHelpers.none = ap (λ all. Ok all) (sym (append-nothing drafts))
    where
      append-nothing : (ds : List Draft) → ds ++ [] ≡ ds
      append-nothing [] = refl
      append-nothing (d ∷ ds) = ap (λ rest. d ∷ rest) (append-nothing ds)
  helpers-there o k [] (d ∷ others) drafts is there are = elim are [ ]
  helpers-there o k (part ∷ parts) all drafts is there (AreHelpers.more {helpers = helpers} {d = d} e are) =
      let place : k + 1 + 0 ≡ k + 1 = omega arith in
      let at : slice_get plan.parts (k + 1) ≡ Some part = ap (slice_get plan.parts) (sym place) ∙ there 0 part refl in
      let next : (j : ℕ) (other : Part) → slice_get parts j ≡ Some other → slice_get plan.parts (k + 1 + 1 + j) ≡ Some other =
      λ j other at. (let shift : k + 1 + suc j ≡ k + 1 + 1 + j = omega arith in ap (slice_get plan.parts) (sym shift) ∙ there (suc j) other at) in
      ap (λ (r : Result (List Draft) Stop). and_then r (λ all. and_then (helper_made S plan o (k + 1) part) (λ d. Ok (all ++ d ∷ []))))
      (helpers-there o (k + 1) parts helpers drafts is next are)
      ∙ (ap (λ (r : Result Draft Stop). and_then r (λ d. Ok ((drafts ++ helpers) ++ d ∷ []))) (helper-there o k part d is at e)
      ∙ ap (λ all. Ok all) (append_assoc drafts helpers (d ∷ [])))

  all-helpers : (o : Option Recursion) (helpers drafts : List Draft) → recursion_of S plan ≡ o → AreHelpers S plan o 1 (drop 1 plan.parts) helpers
      → helpers_made S plan o 1 (drop 1 plan.parts) drafts ≡ Ok (drafts ++ helpers)
  all-helpers o helpers drafts is are =
      helpers-there o 0 (drop 1 plan.parts) helpers drafts is
      (λ j part at. (let place : j + 1 ≡ 0 + 1 + j = omega arith in ap (slice_get plan.parts) (sym place) ∙ later-part plan.parts j part at)) are

  entries-there : (o : Option Recursion) (all : List Draft) → recursion_of S plan ≡ o → AreEntries S plan o all
      → (recursion_made S plan ≡ Ok (recursion_of S plan)) × (entries_made S plan (own_part plan) (drop 1 plan.parts) o ≡ Ok all)
  entries-there None all is (AreEntries.alone {helpers = helpers} {f = d} are e) = (
    recursion-there S plan kept.planned.type (function-low S plan None d e),
    ap (λ (r : Result (List Draft) Stop). and_then r (λ drafts. with_draft drafts (plain_made S plan (own_part plan)))) (all-helpers None helpers [] is are)
        ∙ ap (λ (r : Result Draft Stop). and_then r (λ d. Ok (helpers ++ d ∷ []))) (plain-there d is e),
  )
  entries-there (Some r) all is (AreEntries.recursive {motive = motive} {step = step} {f = d} {helpers = helpers} first are second third) =
      let own = own_part plan in
      let parts = drop 1 plan.parts in
      let last : (drafts : List Draft) → Result (List Draft) Stop = λ drafts. last_entries S plan own r drafts in
      let before = motive ∷ helpers in (
        recursion-there S plan kept.planned.type (function-low S plan (Some r) d third),
        ap (λ (t : Result Draft Stop). and_then (and_then t (λ d. helpers_made S plan (Some r) 1 parts (d ∷ []))) last) first
            ∙ (ap (λ (t : Result (List Draft) Stop). and_then t last) (all-helpers (Some r) helpers (motive ∷ []) is are)
            ∙ (ap (λ (t : Result Draft Stop). and_then (with_draft before t) (λ all. with_draft all (recursive_made plan own r))) (step-there r step is second)
            ∙ (ap (λ (t : Result Draft Stop). with_draft (before ++ step ∷ []) t) third ∙ ap (λ all. Ok all) (append_assoc before (step ∷ []) (d ∷ []))))),
      )

pub translate-answers : PartIsExact → TranslateAnswers
translate-answers exact S plan drafts kept e =
    let both = entries-there exact S plan kept (recursion_of S plan) drafts refl (entries-are S plan (recursion_of S plan) drafts e) in
    ap (λ (r : Result (Option Recursion) Stop). and_then r (entries_made S plan (own_part plan) (drop 1 plan.parts))) both.0 ∙ both.1

pub translate-exact : PartIsExact → TranslateIsExact
translate-exact exact S plan kept = by (translate_made S plan) (translate S plan) refl refl
  where
    by : (made meant : Result (List Draft) Stop) → translate_made S plan ≡ made → translate S plan ≡ meant → made ≡ meant
    by made (Ok drafts) f e = sym f ∙ translate-answers exact S plan drafts kept e
    by (Ok drafts) (Err x) f e = sym (translate_made-is_entries S plan drafts f) ∙ e
    by (Err x) (Err y) f e = ap (λ stop. Err stop) (translate_made-only_deep S plan x f ∙ sym (entries-deep S plan (recursion_of S plan) y e))
