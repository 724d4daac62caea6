use Rattle.std.proofs.Common.{rules, Ok, ap, sym, ◌∙◌}
use Rattle.case_trees.proofs.pattern_vectors.CommonColumns.{both-end, left-ends, right-ends, column-clashes, column-meets, rest-of}
use Rattle.case_trees.proofs.pattern_vectors.meeting.+meeting.Goals as goal

pub meet_columns-returns-in-empty : goal.meet_columns-returns-in-empty
meet_columns-returns-in-empty t c = ap Ok (both-end c.args.made c.args.a.now c.args.b.now c.in-empty.len_below (sym c.is_empty.ensures ∙ c.if-is_empty.true))

pub meet_columns-returns-in-empty-2 : goal.meet_columns-returns-in-empty-2
meet_columns-returns-in-empty-2 t c = ap Ok (left-ends c.args.made c.args.a.now c.args.b.now c.in-empty.len_below (sym c.is_empty.ensures ∙ c.if-is_empty.false))

pub meet_columns-returns-in-empty-b : goal.meet_columns-returns-in-empty-b
meet_columns-returns-in-empty-b t c = ap Ok (right-ends c.args.made c.args.a.now c.args.b.now c.in-len1-up.len_at_least c.in-empty-b.len_below)

pub meet_columns-returns-in-None : goal.meet_columns-returns-in-None
meet_columns-returns-in-None t c =
    let step = column-clashes c.args.made c.args.a.now c.args.b.now c.first-item.result c.second-item.result c.in-len1-up.len_at_least c.in-len1-up-b.len_at_least c.first-item.is c.second-item.is in
    ap Ok (step (search rules))

pub meet_columns-returns-in_ok-push-in-Some : goal.meet_columns-returns-in_ok-push-in-Some
meet_columns-returns-in_ok-push-in-Some t c =
    let step = column-meets c.args.made c.args.a.now c.args.b.now c.first-item.result c.second-item.result c.in-Some.both c.in-len1-up.len_at_least c.in-len1-up-b.len_at_least c.first-item.is c.second-item.is in
    let same = step (search rules) in
    search (rules, same, rest-of c.args.a.now, rest-of c.args.b.now)
