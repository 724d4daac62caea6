use Rattle.theory.proofs.Scopes.{free_of-products}
use Rattle.theory.proofs.scope_laws.free_of_products.Goals as goal

pub returns : goal.returns
returns c = free_of-products
