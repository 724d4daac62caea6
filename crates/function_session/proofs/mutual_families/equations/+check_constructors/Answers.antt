use Rattle.function_session.proofs.mutual_families.SliceAnswers.{sides-first}
use Rattle.function_session.proofs.mutual_families.equations.+check_constructors.Goals as goal
use Rattle.mutual_pack.specs.MutualFamilies.{packed_of}

pub check_equation-requires-clause-sides : goal.check_equation-requires-clause-sides
check_equation-requires-clause-sides t c =
    sides-first c.args.sig.now (packed_of c.args.packed.now) c.args.k c.args.con c.args.cons.now c.c-item.result c.in-len1-up.len_at_least c.c-item.is c.requires.sides
