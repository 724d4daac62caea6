use Rattle.kernel_check.proofs.DeclaredTypes.{given-declared, given-past}
use Rattle.kernel_check.proofs.scope.declared_given.Goals as goal

pub returns-in-Some : goal.returns-in-Some
returns-in-Some g c = λ held live. given-declared held c.args.types.now c.args.n c.in-Some.id live c.in-Some.ensures

pub returns-in-None : goal.returns-in-None
returns-in-None g c = λ held live. given-past held c.args.types.now c.args.n c.in-None.ensures
