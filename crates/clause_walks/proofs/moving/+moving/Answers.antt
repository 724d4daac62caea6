use Rattle.std.proofs.Common.{rules}
use Rattle.core_terms.specs.Meanings.{tele_of}
use Rattle.case_trees.proofs.pattern_vectors.CommonColumns.{rest-of}
use Rattle.clause_walks.proofs.MovedPairs.{moved-none, moved-more}
use Rattle.clause_walks.proofs.moving.+moving.Goals as goal

pub moved_onto-returns-in-empty : goal.moved_onto-returns-in-empty
moved_onto-returns-in-empty t c = moved-none (tele_of c.args.solution.now) c.args.made c.args.pairs.now c.in-empty.len_below

pub moved_onto-returns-in_ok-push-in-len1-up : goal.moved_onto-returns-in_ok-push-in-len1-up
moved_onto-returns-in_ok-push-in-len1-up t c =
    let step = moved-more (tele_of c.args.solution.now) c.args.made c.args.pairs.now c.pair-item.result c.in_ok-moved_pair-in-len1-up.field-0 c.in-len1-up.len_at_least c.pair-item.is in
    let same = step (search rules) in
    search (rules, same, rest-of c.args.pairs.now)
