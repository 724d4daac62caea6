use Rattle.std.proofs.Common.{subst}
use Rattle.std.proofs.lemmas.Bool.{false≢true}
use Rattle.std.specs.Bool.{IsTrue}
use Rattle.core_sig.specs.Shapes.{shape_of}
use Rattle.mutual_pack.specs.Equations.{inductions_in, constructor_number, arguments_of}
use Rattle.mutual_pack.specs.MutualFamilies.{packed_of}
use Rattle.mutual_pack.proofs.HighEquations.{equation-deep}
use Rattle.mutual_pack.proofs.equations.equation_in.Goals as goal

pub returns-then-not-fits_induction : goal.returns-then-not-fits_induction
returns-then-not-fits_induction c foreseen =
    let packed = packed_of c.args.packed.now in
    let f = shape_of c.args.f.now in
    let number = constructor_number packed.owners c.args.member c.args.con in
    equation-deep packed f (inductions_in c.args.sig.now packed.members) c.args.member number (arguments_of f number)
    (λ fits. let yes = subst IsTrue c.if-not-fits_induction.true (c.fits_induction.ensures.1 fits) in absurd (false≢true yes))
