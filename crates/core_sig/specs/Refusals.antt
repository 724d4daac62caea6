-- How a refusal of the pool is answered by a signature.
use Rattle.core_terms.specs.declared.stop.Stop.{Stop}
use Rattle.core_terms.specs.declared.stop.Stop.TheVariants.{Memory, PoolFull}

-- want of room is answered as want of memory
abbrev pub memory_for : Stop → Stop
memory_for PoolFull = Memory
memory_for e = e
