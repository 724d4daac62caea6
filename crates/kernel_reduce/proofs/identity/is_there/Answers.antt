use Rattle.std.proofs.Common.{refl, arith}
use Rattle.kernel_reduce.proofs.Identities.{identity-tested}
use Rattle.kernel_reduce.proofs.identity.is_there.Goals as goal

pub returns-in-Some : goal.returns-in-Some
returns-in-Some c =
    identity-tested c.args.sig.now c.args.i _ _ _ (omega arith) c.in-Some.ensures.family c.is_identity.ensures

pub returns-in-None : goal.returns-in-None
returns-in-None c = identity-tested c.args.sig.now c.args.i _ _ _ (omega arith) c.in-None.ensures.family refl
