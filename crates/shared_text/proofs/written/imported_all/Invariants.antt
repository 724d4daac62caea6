use Rattle.std.proofs.Common.{take}
use Rattle.core_terms.specs.Meanings.{tele_of}
use Rattle.term_pool.specs.Held.{Extends}
use Rattle.term_pool.specs.Pools.{pool_held}
use Rattle.shared_text.specs.CodeMeanings.{AreIdsOf}
use Rattle.shared_text.proofs.written.imported_all.Given as goal

abbrev pub invariant-loop-t : goal.invariant-loop-t
invariant-loop-t l =
    record {
      ids : AreIdsOf l.pool l.ids.items (tele_of (take l.t-index l.terms));
      extends : Extends (pool_held l.fn.pool) (pool_held l.pool);
    }
