use Rattle.kernel_check.proofs.KernelLayers.{stands-over}
use Rattle.kernel_check.proofs.kernel.Kernel.new.Goals as goal

pub invariant_of-result : goal.invariant_of-result
invariant_of-result c =
    record { scoped = c.requires; stored = stands-over c.stored-stored.result.pool.now c.over.result c.args.sig.now.entries c.stored-stored.result.ids.now c.over.ensures c.stored-stored.ensures }
