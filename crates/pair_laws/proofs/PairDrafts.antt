-- The entries of a function over a pair of positions, taken apart: their names, the written type, their refusals, and the order of the
-- names that they mention.
use Rattle.std.proofs.Common.{◌≡◌, ℕ, Option, Some, None, List, [], ◌∷◌, length, map, All, Result, Ok, refl, sym, ap, ap₂, ◌∙◌, arith}
use Rattle.std.proofs.lemmas.Option.{none-some}
use Rattle.std.proofs.lemmas.List.Elements.{All-cons}
use Rattle.theory.specs.Signatures.{Signature, Definition}
use Rattle.core_terms.specs.declared.stop.Stop.{Stop}
use Rattle.core_sig.specs.Drafts.{Draft}
use Rattle.core_sig.specs.Settling.{renumbered}
use Rattle.tree_translation.specs.Entries.{and_more, function_entry, motive_entry}
use Rattle.tree_translation.specs.Naming.{motive_name, number_among, once, step_name}
use Rattle.tree_translation.specs.Plans.{Plan, own_part}
use Rattle.tree_translation.specs.Standings.{levels_from}
use Rattle.tree_translation.specs.Laws.{mentioned_by, name_of}
use Rattle.tree_translation.proofs.Drafting.{IsDeepAlone, drafted-deep, function-deep, last-is, more-deep, more-is, motive-deep, ok-deep}
use Rattle.tree_translation.proofs.EntryNames.{IsMade, function-made, made, made-name, motive-made, ordered}
use Rattle.tree_translation.proofs.WrittenType.{function-typed, products-kept}
use Rattle.theory.proofs.Lists.{only}
use Rattle.lex_recursion.specs.PairEntries.{PairRecursion, first_step_entry, motive2_entry, motive2_name, pair_entries_at, pair_recursion, step2_entry, step2_name}
use Rattle.pair_laws.specs.Laws.{PairEntriesAreFive, PairNamesInOrder, PairOnlyDeep, PairTypeIsWritten}

-- the five drafts
pub record AreFive (S : Signature) (plan : Plan) (p : PairRecursion) (all : List Draft) : Type 0 where
  pub motive : Draft
  pub motive2 : Draft
  pub step2 : Draft
  pub step : Draft
  pub function : Draft
  pub motive_is : motive_entry plan p.outer ≡ Ok motive
  pub motive2_is : motive2_entry plan p ≡ Ok motive2
  pub step2_is : step2_entry S plan p ≡ Ok step2
  pub step_is : first_step_entry plan p ≡ Ok step
  pub function_is : function_entry S plan (Some p.outer) ≡ Ok function
  pub whole : all ≡ motive ∷ motive2 ∷ step2 ∷ step ∷ function ∷ []

pub are-five : (S : Signature) (plan : Plan) (p : PairRecursion) (all : List Draft) → pair_entries_at S plan (Some p) ≡ Ok all → AreFive S plan p all
are-five S plan p all h =
    let end : Result (List Draft) Stop = Ok [] in
    let five = and_more (function_entry S plan (Some p.outer)) end in
    let four = and_more (first_step_entry plan p) five in
    let three = and_more (step2_entry S plan p) four in
    let first = more-is (motive_entry plan p.outer) (and_more (motive2_entry plan p) three) all h in
    let second = more-is (motive2_entry plan p) three first.rest first.goes in
    let third = more-is (step2_entry S plan p) four second.rest second.goes in
    let fourth = more-is (first_step_entry plan p) five third.rest third.goes in
    let last = last-is (function_entry S plan (Some p.outer)) fourth.rest fourth.goes in
    record {
      motive = first.d;
      motive2 = second.d;
      step2 = third.d;
      step = fourth.d;
      function = last.0;
      motive_is = first.is;
      motive2_is = second.is;
      step2_is = third.is;
      step_is = fourth.is;
      function_is = last.1;
      whole = first.whole
          ∙ ap (λ ds. first.d ∷ ds)
          (second.whole ∙ ap (λ ds. second.d ∷ ds) (third.whole ∙ ap (λ ds. third.d ∷ ds) (fourth.whole ∙ ap (λ ds. fourth.d ∷ ds) last.2)));
    }

-- those of the pair of a plan
pub five-of : (S : Signature) (plan : Plan) (second : ℕ) (p : PairRecursion) (all : List Draft) → pair_recursion S plan second ≡ Some p
    → pair_entries_at S plan (pair_recursion S plan second) ≡ Ok all → AreFive S plan p all
five-of S plan second p all e h = are-five S plan p all (sym (ap (pair_entries_at S plan) e) ∙ h)

-- ---- each entry

pub motive2-made : (plan : Plan) (p : PairRecursion) (d : Draft) → motive2_entry plan p ≡ Ok d → IsMade (motive2_name plan.name) plan.base d
motive2-made plan p d h = search made

pub step2-made : (S : Signature) (plan : Plan) (p : PairRecursion) (d : Draft) → step2_entry S plan p ≡ Ok d → IsMade (step2_name plan.name) plan.base d
step2-made S plan p d h = search made

pub first_step-made : (plan : Plan) (p : PairRecursion) (d : Draft) → first_step_entry plan p ≡ Ok d → IsMade (step_name plan.name) plan.base d
first_step-made plan p d h = search made

pub five-names : PairEntriesAreFive
five-names S plan second drafts planned h =
    let p = planned.pair in
    let five = five-of S plan second p drafts planned.recursion h in
    ap (map name_of) five.whole
    ∙ ap₂ ◌∷◌ (made-name (motive_name plan.name) plan.base five.motive (motive-made plan p.outer five.motive five.motive_is))
    (ap₂ ◌∷◌ (made-name (motive2_name plan.name) plan.base five.motive2 (motive2-made plan p five.motive2 five.motive2_is))
    (ap₂ ◌∷◌ (made-name (step2_name plan.name) plan.base five.step2 (step2-made S plan p five.step2 five.step2_is))
    (ap₂ ◌∷◌ (made-name (step_name plan.name) plan.base five.step (first_step-made plan p five.step five.step_is))
    (ap (λ name. name ∷ []) (made-name plan.name plan.base five.function (function-made S plan (Some p.outer) five.function five.function_is))))))

-- a property of the five drafts is one of all
pub each-five : (P : Draft → Type 0) (S : Signature) (plan : Plan) (p : PairRecursion) (all : List Draft) (five : AreFive S plan p all)
    → P five.motive → P five.motive2 → P five.step2 → P five.step → P five.function → All P all
each-five P S plan p all five a b c d e =
    rw five.whole
    (All-cons P five.motive (five.motive2 ∷ five.step2 ∷ five.step ∷ five.function ∷ []) a
    (All-cons P five.motive2 (five.step2 ∷ five.step ∷ five.function ∷ []) b
    (All-cons P five.step2 (five.step ∷ five.function ∷ []) c (All-cons P five.step (five.function ∷ []) d (only P five.function e)))))

pub names-in-order : PairNamesInOrder
names-in-order S plan second drafts planned h =
    let p = planned.pair in
    let five = five-of S plan second p drafts planned.recursion h in
    each-five (λ d. once [] (mentioned_by d) ≡ levels_from 0 (length d.names)) S plan p drafts five
    (ordered (motive_name plan.name) plan.base five.motive (motive-made plan p.outer five.motive five.motive_is))
    (ordered (motive2_name plan.name) plan.base five.motive2 (motive2-made plan p five.motive2 five.motive2_is))
    (ordered (step2_name plan.name) plan.base five.step2 (step2-made S plan p five.step2 five.step2_is))
    (ordered (step_name plan.name) plan.base five.step (first_step-made plan p five.step five.step_is))
    (ordered plan.name plan.base five.function (function-made S plan (Some p.outer) five.function five.function_is))

pub written-type : PairTypeIsWritten
written-type S plan second drafts planned h =
    let p = planned.pair in
    let five = five-of S plan second p drafts planned.recursion h in
    let t = function-typed S plan (Some p.outer) five.function five.function_is in
    let own = own_part plan in
    let kept : renumbered (number_among plan.base t.places) plan.type ≡ plan.type =
    ap₂ (λ base type. renumbered (number_among base t.places) type) planned.base planned.type
    ∙ (products-kept S t.places 0 (length own.tele) own.tele own.goal planned.own.context_scoped planned.own.goal_scoped ∙ sym planned.type) in
    (five.motive ∷ five.motive2 ∷ five.step2 ∷ five.step ∷ [], five.function, t.body, five.whole, t.entry ∙ ap (λ type. Definition plan.name type t.body) kept)

-- ---- refusals

motive2-deep : (plan : Plan) (p : PairRecursion) → IsDeepAlone (motive2_entry plan p)
motive2-deep plan p = search drafted-deep

step2-deep : (S : Signature) (plan : Plan) (p : PairRecursion) → IsDeepAlone (step2_entry S plan p)
step2-deep S plan p = search drafted-deep

first_step-deep : (plan : Plan) (p : PairRecursion) → IsDeepAlone (first_step_entry plan p)
first_step-deep plan p = search drafted-deep

pub only-deep : PairOnlyDeep
only-deep S plan second e h = by (pair_recursion S plan second) e h
  where
    by : (o : Option PairRecursion) → IsDeepAlone (pair_entries_at S plan o)
    by None = ok-deep []
    by (Some p) =
        let end : Result (List Draft) Stop = Ok [] in
        more-deep (motive_entry plan p.outer) _ (motive-deep plan p.outer)
        (more-deep (motive2_entry plan p) _ (motive2-deep plan p)
        (more-deep (step2_entry S plan p) _ (step2-deep S plan p)
        (more-deep (first_step_entry plan p) _ (first_step-deep plan p)
        (more-deep (function_entry S plan (Some p.outer)) end (function-deep S plan (Some p.outer)) (ok-deep [])))))
