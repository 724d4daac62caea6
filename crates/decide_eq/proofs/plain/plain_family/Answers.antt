use Rattle.decide_eq.proofs.CodeFamilies.{plain-family}
use Rattle.decide_eq.proofs.plain.plain_family.Goals as goal

pub returns-in-Some : goal.returns-in-Some
returns-in-Some c =
    plain-family c.decidable.result c.args.sig.now c.args.fam c.args.dec c.as_slice.result.now c.args.known.now c.in-Some.f.now c.in-Some.ensures.kinds c.in-Some.ensures.family c.as_slice.ensures c.decidable.ensures
