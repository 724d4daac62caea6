use Rattle.std.proofs.Common.{◌∷◌, [], codes, subst, ◌+◌}
use Rattle.std.proofs.lemmas.Bool.{false≢true}
use Rattle.std.specs.Bool.{IsTrue}
use Rattle.core_sig.specs.Drafts.{generated_name}
use Rattle.core_sig.specs.Shapes.{constructor_shape, shape_of}
use Rattle.generators.specs.noconf_gen.Fitting.{FitsConfusion}
use Rattle.generators.specs.noconf_gen.NoConfusionTypes.{nct_type, nct_term, confusion_level, constructor_mark}
use Rattle.generators.proofs.noconf_gen.TooHigh.{deep-drafted, confusion-fits}
use Rattle.generators.proofs.noconf_gen.nct.nct_of_subject.Goals as goal

pub returns-then-not-fits_confusion : goal.returns-then-not-fits_confusion
returns-then-not-fits_confusion c foreseen =
    let subject = c.args.subject in
    let f = shape_of subject.family.now in
    let d = constructor_shape subject.con.now in
    let name = subject.family.now.name in
    let j = confusion_level f c.args.m in
    deep-drafted (FitsConfusion f d) (generated_name name (constructor_mark (codes "!nct.") subject.con.now.name) c.args.m) c.args.base (generated_name name (codes "!case.") (j + 1) ∷ [])
    (nct_type subject.fam f subject.number d j) (nct_term subject.fam f subject.number d c.args.m j c.args.base)
    (confusion-fits subject.fam f subject.number d c.args.m j c.args.base)
    (λ fits. let yes = subst IsTrue c.if-not-fits_confusion.true (c.fits_confusion.ensures.1 fits) in absurd (false≢true yes))
