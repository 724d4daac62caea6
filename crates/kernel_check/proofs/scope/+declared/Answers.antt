use Rattle.std.proofs.Common.{arith}
use Rattle.kernel_check.proofs.DeclaredTypes.{binder-declared, outer-declared, scope-declared}
use Rattle.kernel_check.proofs.scope.+declared.Goals as goal

pub returns-in-Given : goal.returns-in-Given
returns-in-Given g t c = λ held. scope-declared held c.args.scope.now _ c.args.n c.declared_given.result c.in-Given.is (c.declared_given.ensures held)

pub returns-in-Written : goal.returns-in-Written
returns-in-Written g t c = λ held. scope-declared held c.args.scope.now _ c.args.n c.declared_written.result c.in-Written.is (c.declared_written.ensures held)

pub returns-then-n-eq0 : goal.returns-then-n-eq0
returns-then-n-eq0 g t c = λ held. binder-declared held c.args.scope.now c.in-Under.ty c.in-Under.outer c.args.n c.in-Under.is c.if-n-eq0.true

pub returns-else-n-eq0 : goal.returns-else-n-eq0
returns-else-n-eq0 g t c =
    λ held. outer-declared held c.args.scope.now c.in-Under.ty c.in-Under.outer c.args.n c.declared.result c.in-Under.is (omega (arith, c.if-n-eq0.false))
    (c.declared.ensures held)
