use Rattle.std.proofs.Common.{arith}
use Rattle.core_sig.proofs.NameLists.{length-named-before}
use Rattle.core_sig.proofs.signature.names_before.Goals as goal

pub overflow_sub-names : goal.overflow_sub-names
overflow_sub-names c =
    let before = length-named-before c.args.entries.now c.loop-at.at c.name_count-names.result c.index-entries-at.result (omega arith) c.loop-at.invariant.1 c.index-entries-at.is c.name_count-names.ensures in
    omega arith

pub loop-at-preserved : goal.loop-at-preserved
loop-at-preserved c =
    let before = length-named-before c.args.entries.now c.loop-at.at c.name_count-names.result c.index-entries-at.result (omega arith) c.loop-at.invariant.1 c.index-entries-at.is c.name_count-names.ensures in
    (omega arith, omega arith, omega arith)
