use Rattle.std.proofs.Common.{◌≡◌, map, take}
use Rattle.core_terms.specs.Meanings.{tree_of}
use Rattle.kernel_check.proofs.scope.export_types.Given as goal

abbrev pub invariant-loop-id : goal.invariant-loop-id
invariant-loop-id g l = map tree_of l.types ≡ map (g.S.TermStore.held l.store).tree (take l.id-index l.ids)
