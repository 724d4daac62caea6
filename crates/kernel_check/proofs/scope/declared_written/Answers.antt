use Rattle.kernel_check.proofs.DeclaredTypes.{written-declared, written-past}
use Rattle.kernel_check.proofs.scope.declared_written.Goals as goal

pub returns-in-Some : goal.returns-in-Some
returns-in-Some g c =
    λ held live. written-declared held c.args.types.now c.args.ids.now c.args.n c.in-Some.ty c.known.result live c.in-Some.ensures c.known.ensures

pub returns-in-None : goal.returns-in-None
returns-in-None g c = λ held live. written-past held c.args.types.now c.args.ids.now c.args.n live c.in-None.ensures
