use Rattle.std.proofs.Common.{take}
use Rattle.term_pool.specs.Held.{Extends}
use Rattle.core_sig.specs.EntryIds.{Correspond}
use Rattle.kernel_check.specs.Scopes.{IsWritten}
use Rattle.kernel_check.proofs.written_terms.import_types.Given as goal

abbrev pub invariant-loop-ty : goal.invariant-loop-ty
invariant-loop-ty g l =
    let now = g.S.TermStore.held l.store in
    record {
      ids : Correspond (IsWritten now) (take l.ty-index l.types) l.ids.items;
      extends : Extends (g.S.TermStore.held l.fn.store) now;
    }
