use Rattle.std.proofs.Common.{◌≡◌, Bool, true, false, length, List, ap, sym, ◌∙◌}
use Rattle.std.proofs.lemmas.List.{length-map}
use Rattle.core_terms.specs.Answers.{are_low}
use Rattle.core_terms.specs.Meanings.{tree_of, tele_of}
use Rattle.core_terms.specs.declared.term.Term.{Term}
use Rattle.tele_eq.specs.Items.{item_of, items_of}
use Rattle.tele_eq.specs.declared.item.Item.{Item}
use Rattle.unification.specs.Heights.{are_low_items}
use Rattle.problems.proofs.LowTerms.{deep-left, deep-right, small-items, small-terms}
use Rattle.problems.proofs.heights.equations_made.Goals as goal

-- there is a term for each item
as-many : (terms : List Term) (tele : List Item) → length terms ≡ length tele → length (tele_of terms) ≡ length (items_of tele)
as-many terms tele e = length-map terms tree_of ∙ (e ∙ sym (length-map tele item_of))

of-list : (terms slice : List Term) (b c : Bool) → slice ≡ terms → b ≡ are_low (tele_of slice) → b ≡ c → are_low (tele_of terms) ≡ c
of-list terms slice b c es eb ec = ap (λ xs. are_low (tele_of xs)) (sym es) ∙ (sym eb ∙ ec)

pub returns-then-not-are_low : goal.returns-then-not-are_low
returns-then-not-are_low c =
    λ _. sym (deep-left (items_of c.args.tele.now) (tele_of c.args.left.now) (tele_of c.args.right.now)
    (as-many c.args.left.now c.args.tele.now c.requires.left) (as-many c.args.right.now c.args.tele.now c.requires.right)
    (of-list c.args.left.now c.as_slice-2.result.now c.are_low.result false c.as_slice-2.ensures c.are_low.ensures c.if-not-are_low.true))

pub returns-then-not-are_low-2 : goal.returns-then-not-are_low-2
returns-then-not-are_low-2 c =
    λ _. sym (deep-right (items_of c.args.tele.now) (tele_of c.args.left.now) (tele_of c.args.right.now)
    (as-many c.args.left.now c.args.tele.now c.requires.left) (as-many c.args.right.now c.args.tele.now c.requires.right)
    (of-list c.args.right.now c.as_slice-3.result.now c.are_low-2.result false c.as_slice-3.ensures c.are_low-2.ensures c.if-not-are_low-2.true))

pub tele_equations-requires-clause-items : goal.tele_equations-requires-clause-items
tele_equations-requires-clause-items c =
    small-items (items_of c.args.tele.now)
    (ap (λ xs. are_low_items (items_of xs)) (sym c.as_slice-else-not-few.ensures) ∙ (sym c.are_low_items.ensures ∙ c.if-not-are_low_items.false))
    c.requires.few_items

pub tele_equations-requires-clause-left : goal.tele_equations-requires-clause-left
tele_equations-requires-clause-left c =
    small-terms (tele_of c.args.left.now)
    (of-list c.args.left.now c.as_slice-2.result.now c.are_low.result true c.as_slice-2.ensures c.are_low.ensures c.if-not-are_low.false)
    c.requires.few_left

pub tele_equations-requires-clause-right : goal.tele_equations-requires-clause-right
tele_equations-requires-clause-right c =
    small-terms (tele_of c.args.right.now)
    (of-list c.args.right.now c.as_slice-3.result.now c.are_low-2.result true c.as_slice-3.ensures c.are_low-2.ensures c.if-not-are_low-2.false)
    c.requires.few_right
