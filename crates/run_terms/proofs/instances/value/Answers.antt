use Rattle.std.proofs.Common.{Ok, ap, subst as transport}
use Rattle.theory.specs.Terms.{Term}
use Rattle.core_terms.specs.Answers.{Gives}
use Rattle.core_terms.specs.Meanings.{tree_of}
use Rattle.core_terms.proofs.Instances.{under-value, under-none, under-low}
use Rattle.run_terms.proofs.instances.value.Goals as goal

pub returns-then-place-values : goal.returns-then-place-values
returns-then-place-values c =
    let P : Term → Type 0 = λ t. Gives tree_of c.raised.result (Ok t) in
    transport P
    (under-value c.args.under c.args.n c.args.values.now c.index-values-values.result c.if-n-under.false c.if-place-values.true c.index-values-values.is)
    c.raised.ensures

pub returns-else-place-values : goal.returns-else-place-values
returns-else-place-values c = ap Ok (under-none _ _ c.args.values.now c.if-n-under.false c.if-place-values.false)

pub returns-then-n-under : goal.returns-then-n-under
returns-then-n-under c = ap Ok (under-low _ _ _ c.if-n-under.true)
