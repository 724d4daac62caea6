use Rattle.std.proofs.Common.{map, take}
use Rattle.core_sig.specs.Raw.{raw_constructor_of}
use Rattle.term_pool.specs.Held.{Extends}
use Rattle.term_pool.specs.Pools.{pool_held}
use Rattle.shared_text.specs.CodeMeanings.{AreIdsOf}
use Rattle.shared_text.proofs.written.imported_types.Given as goal

abbrev pub invariant-loop-con : goal.invariant-loop-con
invariant-loop-con l =
    record {
      ids : AreIdsOf l.pool l.ids.items (map (λ c. c.type) (map raw_constructor_of (take l.con-index l.cons)));
      extends : Extends (pool_held l.fn.pool) (pool_held l.pool);
    }
