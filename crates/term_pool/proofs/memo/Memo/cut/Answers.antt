use Rattle.std.proofs.Common.{rules, ◌≡◌, filter, nat_le, subst}
use Rattle.indexmap.proofs.CallerLemmas.{filter-RetainsPairs}
use Rattle.term_pool.proofs.memo.Memo.cut.Goals as goal

pub returns : goal.returns
returns c =
    subst (λ es. c.retain.new.self.entries ≡ filter (λ e. nat_le e.0.0 c.args.len) es) c.self.view_is
    (filter-RetainsPairs _ _ _ (λ k v b w g call. search rules) _ _ c.retain.ensures.filtered)
