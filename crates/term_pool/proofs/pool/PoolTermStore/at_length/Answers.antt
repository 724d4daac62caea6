use Rattle.std.proofs.Common.{None, nat_le, if◌then◌else◌, refl, ap, ◌∙◌}
use Rattle.term_pool.specs.Memo.{row_at}
use Rattle.term_pool.proofs.Memos.{rows-cut}
use Rattle.term_pool.proofs.pool.PoolTermStore.at_length.Goals as goal

pub returns-clause-tells : goal.returns-clause-tells
returns-clause-tells c =
    record {
      told = refl;
      rows = λ n k.
          ap (λ rows. row_at rows n k) c.cut.ensures
          ∙ (rows-cut c.args.len c.self.inside.memo n k
          ∙ ap (λ p. if nat_le n c.args.len then row_at p.rows n k else None) c.self.view_is);
      missed = ap (λ p. p.missed) c.self.view_is;
    }
