use Rattle.std.proofs.Common.{rules, ◌≡◌, filter, ap, subst, ◌∙◌}
use Rattle.indexmap.proofs.CallerLemmas.{filter-RetainsPairs}
use Rattle.term_pool.specs.Memo.{is_row_below, if_below, row_at}
use Rattle.term_pool.proofs.Memos.{rows-below}
use Rattle.term_pool.proofs.memo.Memo.keep_below.Goals as goal

pub returns-clause-rows : goal.returns-clause-rows
returns-clause-rows c =
    subst (λ es. c.retain.new.self.entries ≡ filter (is_row_below c.args.count) es) c.self.view_is
    (filter-RetainsPairs _ _ _ (λ k v b w g call. search rules) _ _ c.retain.ensures.filtered)

pub returns-clause-at : goal.returns-clause-at
returns-clause-at c n key =
    let kept : c.retain.new.self.entries ≡ filter (is_row_below c.args.count) c.self.inside.rows.entries
    = filter-RetainsPairs _ _ _ (λ k v b w g call. search rules) _ _ c.retain.ensures.filtered in
    ap (λ es. row_at es n key) kept
    ∙ subst (λ es. row_at (filter (is_row_below c.args.count) c.self.inside.rows.entries) n key ≡ if_below c.args.count n key (row_at es n key)) c.self.view_is
    (rows-below _ c.args.count c.self.inside.rows.entries (λ x y. search rules) c.len-unique.ensures.unique n key)
