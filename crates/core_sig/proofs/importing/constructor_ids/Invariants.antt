use Rattle.std.proofs.Common.{length, map, take}
use Rattle.term_pool.specs.Held.{Extends}
use Rattle.core_sig.specs.EntryIds.{Correspond, IsConstructorId}
use Rattle.core_sig.specs.Meanings.{constructor_of, family_of}
use Rattle.core_sig.proofs.importing.constructor_ids.Given as goal

abbrev pub invariant-loop-con : goal.invariant-loop-con
invariant-loop-con g l =
    let now = g.S.TermStore.held l.store in
    record {
      ids : Correspond (λ number. IsConstructorId now l.n (family_of l.f)) (map (constructor_of (length l.f.params)) (take l.con-index l.f.cons)) l.ids.items;
      extends : Extends (g.S.TermStore.held l.fn.store) now;
    }
