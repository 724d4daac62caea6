use Rattle.std.proofs.Common.{◌≡◌, ℕ, ◌≤◌, ◌∷◌, [], codes, subst, sym, ap, ◌∙◌, arith, rules}
use Rattle.std.proofs.lemmas.Bool.{false≢true}
use Rattle.std.specs.Bool.{IsTrue}
use Rattle.theory.specs.Terms.{height}
use Rattle.core_sig.specs.Drafts.{generated_name}
use Rattle.core_sig.specs.Shapes.{constructor_shape, shape_of}
use Rattle.generators.specs.noconf_gen.Fitting.{FitsSubject}
use Rattle.generators.specs.noconf_gen.NoConfusionTypes.{confusion_level, constructor_mark}
use Rattle.generators.specs.noconf_gen.NoConfusion.{noconf_type, noconf_term, reflexive_base, whole_depth, equal_members_over, elimination_from}
use Rattle.std.proofs.lemmas.Bool.Decides.{nat_tests}
use Rattle.core_terms.specs.Meanings.{tree_of}
use Rattle.core_terms.specs.declared.levels.Binder.TheVariants.{Function}
use Rattle.core_terms.proofs.Builders.{ok_is}
use Rattle.generators.proofs.noconf_gen.Entries.{draft-same}
use Rattle.generators.proofs.noconf_gen.TooHigh.{deep-drafted, noconf-fits, base-low}
use Rattle.generators.proofs.noconf_gen.noconf.noconf_of_subject.Goals as goal

pub returns-then-not-fits_subject : goal.returns-then-not-fits_subject
returns-then-not-fits_subject c foreseen =
    let subject = c.args.subject in
    let f = shape_of subject.family.now in
    let d = constructor_shape subject.con.now in
    let name = subject.family.now.name in
    let j = confusion_level f c.args.m in
    deep-drafted (FitsSubject f d) (generated_name name (constructor_mark (codes "!noconf.") subject.con.now.name) c.args.m) c.args.base
    (generated_name name (constructor_mark (codes "!nct.") subject.con.now.name) c.args.m ∷ [])
    (noconf_type subject.fam f subject.number d c.args.base) (noconf_term subject.fam f subject.number d c.args.m j c.args.base)
    (λ type term. noconf-fits subject.fam f subject.number d c.args.base type)
    (λ fits. let yes = subst IsTrue c.if-not-fits_subject.true (c.fits_subject.ensures.1 fits) in absurd (false≢true yes))

pub returns-then-height-gt-MAX_HEIGHT : goal.returns-then-height-gt-MAX_HEIGHT
returns-then-height-gt-MAX_HEIGHT c foreseen =
    let subject = c.args.subject in
    let f = shape_of subject.family.now in
    let d = constructor_shape subject.con.now in
    let name = subject.family.now.name in
    let j = confusion_level f c.args.m in
    let base = reflexive_base subject.fam f subject.number d c.args.m (whole_depth f d) in
    let same : tree_of c.in_ok-start.start ≡ base = ok_is c.in_ok-start.ensures.is ∙ ap (reflexive_base subject.fam f subject.number d c.args.m) c.whole_depth.ensures in
    deep-drafted (height base ≤ 2000) (generated_name name (constructor_mark (codes "!noconf.") subject.con.now.name) c.args.m) c.args.base
    (generated_name name (constructor_mark (codes "!nct.") subject.con.now.name) c.args.m ∷ [])
    (noconf_type subject.fam f subject.number d c.args.base) (noconf_term subject.fam f subject.number d c.args.m j c.args.base)
    (λ type term. base-low subject.fam f subject.number d j c.args.base base term)
    (λ low. let there : height (tree_of c.in_ok-start.start) ≤ 2000 = subst (λ t. height t ≤ 2000) (sym same) low in absurd (grind (arith, nat_tests)))

pub returns : goal.returns
returns c =
    let subject = c.args.subject in
    let f = shape_of subject.family.now in
    let d = constructor_shape subject.con.now in
    let name = subject.family.now.name in
    let j = confusion_level f c.args.m in
    let base = reflexive_base subject.fam f subject.number d c.args.m (whole_depth f d) in
    let same : tree_of c.in_ok-start.start ≡ base = ok_is c.in_ok-start.ensures.is ∙ ap (reflexive_base subject.fam f subject.number d c.args.m) c.whole_depth.ensures in
    let same_level : c.max-j.result ≡ j = c.max-j.ensures in
    let term : tree_of c.in_ok-body.body ≡ noconf_term subject.fam f subject.number d c.args.m j c.args.base =
    ok_is c.in_ok-body.ensures
    ∙ (ap (λ (x : ℕ). equal_members_over Function subject.fam f subject.number d (elimination_from subject.fam f subject.number d x c.args.base (tree_of c.in_ok-start.start))) same_level
    ∙ ap (λ b. equal_members_over Function subject.fam f subject.number d (elimination_from subject.fam f subject.number d j c.args.base b)) same) in
    draft-same c.drafted.result _ (generated_name name (constructor_mark (codes "!noconf.") subject.con.now.name) c.args.m) c.args.base
    _ (generated_name name (constructor_mark (codes "!nct.") subject.con.now.name) c.args.m ∷ [])
    _ (noconf_type subject.fam f subject.number d c.args.base) _ (noconf_term subject.fam f subject.number d c.args.m j c.args.base)
    (search rules) (search rules) (ok_is c.in_ok-ty.ensures) term c.drafted.ensures
