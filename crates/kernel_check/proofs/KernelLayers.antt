-- The ids of the entries stand for them in a kernel's layer: at first it holds what the pool holds, and later it has grown.
use Rattle.std.proofs.Common.{◌≡◌, [], List, IsTrue, length, nat_lt, ap, sym, subst, append-nil}
use Rattle.theory.specs.Signatures.{Entry, Signature}
use Rattle.core_sig.specs.EntryIds.{Stands}
use Rattle.core_sig.specs.declared.entry_ids.EntryIds.{EntryIds}
use Rattle.core_sig.proofs.StandingEntries.{stands-kept, stands-stay}
use Rattle.term_pool.specs.Held.{Extends}
use Rattle.term_pool.specs.Layers.{Layered, layer_held}
use Rattle.term_pool.specs.Pools.{Pooled, id_place, pool_held}
use Rattle.term_pool.specs.Shelves.{tree_at}
use Rattle.term_pool.specs.declared.ids.Id.{Id}
use Rattle.kernel_check.specs.Kernels.{IsKernel}

abbrev bare : Pooled → Layered
bare p = record { base = p; nodes = []; told = 0 }

pub stands-over : (p : Pooled) (l : Layered) (entries : List Entry) (ids : EntryIds Id) → l ≡ record { base = p; nodes = []; told = 0 } → Stands (pool_held p) entries ids
    → Stands (layer_held l) entries ids
stands-over p l entries ids e s =
    subst (λ (x : Layered). Stands (layer_held x) entries ids) (sym e)
    (stands-kept (pool_held p) (layer_held (bare p)) (λ id live. subst (λ ns. IsTrue (nat_lt id.at (length ns))) (sym (append-nil p.nodes)) live)
    (λ id live. ap (λ ns. tree_at id_place ns id.at) (append-nil p.nodes)) entries ids s)

pub kernel-goes : (old new : Layered) (S : Signature) (ids : EntryIds Id) → Extends (layer_held old) (layer_held new) → IsKernel old S ids → IsKernel new S ids
kernel-goes old new S ids e k = record { scoped = k.scoped; stored = stands-stay (layer_held old) (layer_held new) e S.entries ids k.stored }
