use Rattle.std.proofs.Common.{map, subst}
use Rattle.theory.specs.Signatures.{Signature}
use Rattle.term_pool.specs.Pools.{pool_held}
use Rattle.core_sig.specs.EntryIds.{Stands}
use Rattle.core_sig.specs.Meanings.{entry_of}
use Rattle.core_sig.proofs.StoredEntries.{stands-pooled}
use Rattle.core_sig.proofs.signature.Signature.stored.Goals as goal

pub returns : goal.returns
returns c =
    let s = c.self.inside in
    subst (λ (S : Signature). Stands (pool_held s.terms.pool) S.entries s.terms.ids) c.self.view_is
    (stands-pooled s.terms.pool (map entry_of s.entries.items) s.terms.ids c.self.invariant.stored.now)
