use Rattle.std.proofs.Common.{[], ◌∷◌, arith}
use Rattle.std.proofs.lemmas.List.{length-append}
use Rattle.core_terms.specs.Meanings.{tree_of}
use Rattle.leaf_terms.proofs.Taking.{further-applied}
use Rattle.leaf_terms.proofs.applying.applied_to_further.Goals as goal

pub loop-t-preserved : goal.loop-t-preserved
loop-t-preserved c =
    let step = further-applied (tree_of c.args.head) c.args.count c.loop-t.yielded c.in-Some.t (omega (arith, c.if-passed-count.false, c.loop-t.invariant.1)) in
    let longer = length-append c.loop-t.yielded (c.in-Some.t ∷ []) in
    (grind (arith, step), omega (arith, longer, c.if-passed-count.false, c.loop-t.invariant.1))
