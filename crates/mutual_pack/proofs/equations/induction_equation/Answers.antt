use Rattle.std.proofs.Common.{sym, ◌∙◌}
use Rattle.mutual_pack.specs.MutualFamilies.{packed_of}
use Rattle.mutual_pack.proofs.Entries.{equation-is, found-family}
use Rattle.mutual_pack.proofs.equations.induction_equation.Goals as goal

pub returns : goal.returns
returns c = λ f at.
    equation-is c.equation_in.result c.args.sig.now (packed_of c.args.packed.now) f c.in_ok-f.f.now c.args.member c.args.con
    c.in_ok-f.ensures.kinds (found-family f c.in_ok-f.f.now (sym c.in_ok-f.ensures.family ∙ at))
    c.equation_in.ensures
