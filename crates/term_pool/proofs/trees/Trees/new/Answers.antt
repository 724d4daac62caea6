use Rattle.term_pool.proofs.Shelving.{shelved-none}
use Rattle.term_pool.specs.Trees.{tree_place}
use Rattle.term_pool.proofs.trees.Trees.new.Goals as goal

pub invariant_of-result : goal.invariant_of-result
invariant_of-result c = rw (c.new.ensures.items, c.new-2.ensures.items) (shelved-none tree_place)
