use Rattle.std.proofs.Common.{rules, ◌≡◌, ap, subst}
use Rattle.term_pool.specs.Memo.{row_at}
use Rattle.term_pool.proofs.Memos.{either, others-stay}
use Rattle.term_pool.proofs.memo.Memo.put.Goals as goal

pub returns-clause-others : goal.returns-clause-others
returns-clause-others c n k other =
    subst (λ es. row_at c.insert.new.self.entries n k ≡ row_at es n k) c.self.view_is (
    either c.insert.result _ _ (row_at c.insert.new.self.entries n k ≡ row_at c.self.inside.rows.entries n k)
    c.insert.ensures.updates c.insert.ensures.err
    (λ u. others-stay _ c.self.inside.rows c.insert.new.self c.args.len c.args.key c.args.row (λ x y. search rules) u n k other)
    (λ same. ap (λ es. row_at es n k) same)
    )
