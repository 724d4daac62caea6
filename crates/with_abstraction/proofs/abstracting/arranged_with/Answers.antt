use Rattle.std.proofs.Common.{List, sym, ◌∙◌, subst as transport}
use Rattle.core_terms.specs.Meanings.{tree_of, tele_of}
use Rattle.with_abstraction.specs.Conditions.{AreLow}
use Rattle.with_abstraction.proofs.Widths.{low-end, levels-fit}
use Rattle.with_abstraction.proofs.abstracting.arranged_with.Goals as goal

pub placed-requires-clause-types : goal.placed-requires-clause-types
placed-requires-clause-types c =
    let P : List _ → Type 0 = λ terms. AreLow (tele_of terms) in
    transport P (sym (c.as_slice-3.ensures ∙ c.in_ok-push.ensures.ok))
    (low-end c.args.types c.in_ok-lifted.field-0 (tree_of c.args.ty.now) c.in_ok-lifted.ensures c.requires.ty.low c.requires.types)

pub placed-requires-clause-levels : goal.placed-requires-clause-levels
placed-requires-clause-levels c =
    levels-fit c.args.n c.args.types c.as_slice.result.now c.in_ok-front.front.items c.in_ok-behind.behind.items c.new.result.items
    c.as_slice-2.result.now c.as_slice-4.result.now c.as_slice-5.result.now c.as_slice.ensures c.requires.count c.in_ok-behind.ensures
    c.as_slice-2.ensures.value c.new.ensures.items c.in_ok-front.ensures c.as_slice-4.ensures.value c.as_slice-5.ensures.value
