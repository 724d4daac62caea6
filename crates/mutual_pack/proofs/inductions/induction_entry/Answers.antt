use Rattle.std.proofs.Common.{subst}
use Rattle.std.proofs.lemmas.Bool.{false≢true}
use Rattle.std.specs.Bool.{IsTrue}
use Rattle.core_sig.specs.Shapes.{shape_of}
use Rattle.mutual_pack.specs.MutualFamilies.{packed_of}
use Rattle.mutual_pack.proofs.TooHigh.{induction-deep}
use Rattle.mutual_pack.proofs.inductions.induction_entry.Goals as goal

pub returns-then-not-fits_induction : goal.returns-then-not-fits_induction
returns-then-not-fits_induction c foreseen =
    induction-deep c.args.base (packed_of c.args.packed.now) (shape_of c.args.f.now) c.args.k c.args.name.now
    (λ fits. let yes = subst IsTrue c.if-not-fits_induction.true (c.fits_induction.ensures.1 fits) in absurd (false≢true yes))
