use Rattle.std.proofs.Common.{◌≡◌, ◌++◌}
use Rattle.core_text.specs.ProductParts.{closed}
use Rattle.core_text.proofs.telescopes.close_products.Given as goal

abbrev pub invariant-loop : goal.invariant-loop
invariant-loop l = l.out.items ≡ l.fn.out.items ++ closed l.counter
