use Rattle.std.proofs.Common.{rules, refl}
use Rattle.std.proofs.lemmas.Result.{err_from_is_err_and}
use Rattle.core_terms.specs.Meanings.{tele_of}
use Rattle.case_trees.proofs.pattern_vectors.CommonColumns.{rest-of}
use Rattle.clause_splitting.proofs.NodeCodes.{moved-more, moved-refused}
use Rattle.clause_splitting.proofs.nodes.+moved_live.Goals as goal

pub returns-in_err-pairs-in-len1-up : goal.returns-in_err-pairs-in-len1-up
returns-in_err-pairs-in-len1-up t c =
    let q = err_from_is_err_and c.from_residual.result c.from_residual.ensures.1 in
    rw (q.1, q.2)
    (moved-refused (tele_of c.args.solution.now) c.args.made c.args.live.now c.c-item.result c.as_slice.result.now c.in-len1-up.len_at_least c.c-item.is c.as_slice.ensures _
    c.in_err-pairs-in-len1-up.ensures)

pub returns-in_ok-push-in-len1-up : goal.returns-in_ok-push-in-len1-up
returns-in_ok-push-in-len1-up t c =
    let same = moved-more (tele_of c.args.solution.now) c.args.made c.args.live.now c.c-item.result c.as_slice.result.now c.in-len1-up.len_at_least c.c-item.is c.as_slice.ensures
    (record { number = c.c-item.result.number; pairs = c.in_ok-pairs-in-len1-up.pairs }) refl c.in_ok-pairs-in-len1-up.ensures in
    search (rules, same, rest-of c.args.live.now)
