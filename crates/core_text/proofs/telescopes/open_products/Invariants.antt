use Rattle.std.proofs.Common.{◌≡◌, ◌++◌, drop, map}
use Rattle.core_terms.specs.Meanings.{tree_of}
use Rattle.core_text.specs.ProductParts.{opened}
use Rattle.core_text.proofs.telescopes.open_products.Given as goal

abbrev pub invariant-loop-arg : goal.invariant-loop-arg
invariant-loop-arg l =
    l.out.items ++ opened l.sig (map (λ a. tree_of a.ty) (drop l.arg-index l.args))
    ≡ l.fn.out.items ++ opened l.sig (map (λ a. tree_of a.ty) l.args)
