use Rattle.std.proofs.Common.{◌≤◌, ◌-◌, length, arith}
use Rattle.theory.specs.Terms.{free_of}
use Rattle.core_terms.specs.Meanings.{tree_of}
use Rattle.core_terms.proofs.Lists.{value-has}
use Rattle.core_terms.proofs.Instances.{under-value, under-none, under-low, makes-bounded}
use Rattle.core_terms.proofs.instantiation.value.Goals as goal

pub lift-requires : goal.lift-requires
lift-requires c =
    let values = c.args.values.now in
    let at = length values - 1 - (c.args.n - c.args.under) in
    let bound : free_of (tree_of c.index-values-values.result) ≤ 3221225472 =
    value-has (λ v. free_of v ≤ 3221225472) values at c.index-values-values.result (omega arith) c.index-values-values.is c.requires.values in
    omega arith

pub returns-then-place-values : goal.returns-then-place-values
returns-then-place-values c =
    makes-bounded c.lift.result _ _ c.lift.ensures
    (under-value c.args.under c.args.n c.args.values.now c.index-values-values.result c.if-n-under.false c.if-place-values.true c.index-values-values.is)

pub returns-else-place-values : goal.returns-else-place-values
returns-else-place-values c = under-none _ _ c.args.values.now c.if-n-under.false c.if-place-values.false

pub returns-then-n-under : goal.returns-then-n-under
returns-then-n-under c = under-low _ _ _ c.if-n-under.true
