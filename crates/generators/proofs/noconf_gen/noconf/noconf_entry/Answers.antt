use Rattle.std.proofs.Common.{Some, sym, ap, ◌∙◌, length, subst}
use Rattle.core_sig.specs.Kinds.{HasEntryKinds}
use Rattle.core_sig.specs.Meanings.{entry_of}
use Rattle.generators.specs.noconf_gen.NoConfusion.{noconf_of_constructor}
use Rattle.core_sig.proofs.ScopedDrafts.{answer-scoped}
use Rattle.generators.proofs.noconf_gen.ScopedConfusion.{noconf-scoped}
use Rattle.generators.proofs.noconf_gen.Entries.{confusion-entry, number-in, level-fits}
use Rattle.generators.proofs.noconf_gen.noconf.noconf_entry.Goals as goal

pub subject_of-subject-requires : goal.subject_of-subject-requires
subject_of-subject-requires c =
    let family = c.in-Some-Family.family in
    number-in c.args.sig.now c.args.fam c.args.con family (ap (λ e. Some (entry_of e)) (sym c.in-Some-Family.field-0-is) ∙ c.in-Some-Family.ensures.entry) c.requires.constructor

pub noconf_of_subject-requires : goal.noconf_of_subject-requires
noconf_of_subject-requires c =
    let family = c.in-Some-Family.family in
    level-fits c.args.sig.now c.args.fam c.args.m c.subject_of-subject.result.family.now family
    (ap (λ e. Some (entry_of e)) (sym c.in-Some-Family.field-0-is) ∙ c.in-Some-Family.ensures.entry) c.subject_of-subject.ensures.family c.requires.level

pub returns-clause-answer : goal.returns-clause-answer
returns-clause-answer c = λ f at.
    let family = c.in-Some-Family.family in
    let subject = c.subject_of-subject.result in
    let found = sym c.in-Some-Family.ensures.entry ∙ ap (λ e. Some (entry_of e)) c.in-Some-Family.field-0-is in
    confusion-entry noconf_of_constructor c.noconf_of_subject.result c.len.result (length c.args.sig.now.entries) subject.fam c.args.fam subject.number c.args.con c.args.m f subject.family.now family subject.con.now
    (subst (HasEntryKinds c.args.fam) c.in-Some-Family.field-0-is c.in-Some-Family.ensures.kinds) c.len.ensures c.subject_of-subject.ensures.fam c.subject_of-subject.ensures.number c.subject_of-subject.ensures.family
    c.subject_of-subject.ensures.con (sym found ∙ at) c.noconf_of_subject.ensures

pub returns-clause-scoped : goal.returns-clause-scoped
returns-clause-scoped c = λ T scoped first longer.
    let (f, at, low) = c.requires.constructor in
    answer-scoped T c.noconf_of_subject.result _ (returns-clause-answer c f at)
    (noconf-scoped c.args.sig.now T c.args.fam f c.args.con c.args.m scoped first at low longer)
