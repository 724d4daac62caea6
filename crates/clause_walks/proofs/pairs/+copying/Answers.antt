use Rattle.std.proofs.Common.{rules, Ok, ap}
use Rattle.case_trees.proofs.pattern_vectors.CommonColumns.{rest-of}
use Rattle.clause_walks.proofs.Behind.{copied-none, copied-more}
use Rattle.clause_walks.proofs.pairs.+copying.Goals as goal

pub copy_after-returns-in-empty : goal.copy_after-returns-in-empty
copy_after-returns-in-empty t c = ap Ok (copied-none c.args.made c.args.pairs.now c.in-empty.len_below)

pub copy_after-returns-in_ok-push-in-len1-up : goal.copy_after-returns-in_ok-push-in-len1-up
copy_after-returns-in_ok-push-in-len1-up t c =
    let step = copied-more c.args.made c.args.pairs.now c.pair-item.result c.in_ok-copy_pair-in-len1-up.field-0 c.in-len1-up.len_at_least c.pair-item.is in
    let same = step (search rules) in
    search (rules, same, rest-of c.args.pairs.now)
