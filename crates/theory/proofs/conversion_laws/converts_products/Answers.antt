use Rattle.theory.proofs.Congruence.{converts_products}
use Rattle.theory.proofs.conversion_laws.converts_products.Goals as goal

pub returns : goal.returns
returns c = converts_products
