use Rattle.std.proofs.Common.{rules, Ok, ap}
use Rattle.case_trees.proofs.pattern_vectors.CommonColumns.{rest-of}
use Rattle.clause_walks.proofs.Behind.{waits-none, waits-no_terms, waits-more}
use Rattle.clause_walks.proofs.pairs.+waiting_after.Goals as goal

pub returns-in-empty : goal.returns-in-empty
returns-in-empty t c = ap Ok (waits-none c.args.made c.args.pats.now c.args.terms.now c.in-empty.len_below)

pub returns-in-empty-terms : goal.returns-in-empty-terms
returns-in-empty-terms t c = ap Ok (waits-no_terms c.args.made c.args.pats.now c.args.terms.now c.in-len1-up.len_at_least c.in-empty-terms.len_below)

pub returns-in_ok-push-in-len1-up-terms : goal.returns-in_ok-push-in-len1-up-terms
returns-in_ok-push-in-len1-up-terms t c =
    let step = waits-more c.args.made c.args.pats.now c.args.terms.now c.pat-item.result c.t-item.result c.in_ok-waits-in-len1-up-terms.field-0 c.in-len1-up.len_at_least c.in-len1-up-terms.len_at_least c.pat-item.is c.t-item.is in
    let same = step (search rules) in
    search (rules, same, rest-of c.args.pats.now, rest-of c.args.terms.now)
