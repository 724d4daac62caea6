use Rattle.std.proofs.Common.{◌≡◌, map, take}
use Rattle.core_terms.specs.Meanings.{tree_of, tele_of}
use Rattle.core_sig.proofs.types.types_of.Given as goal

abbrev pub invariant-loop-arg : goal.invariant-loop-arg
invariant-loop-arg l = tele_of l.types.items ≡ map (λ a. tree_of a.ty) (take l.arg-index l.args)
