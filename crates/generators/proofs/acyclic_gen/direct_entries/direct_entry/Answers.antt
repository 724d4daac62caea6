use Rattle.std.proofs.Common.{Some, sym, ap, ◌∙◌, length, subst, arith}
use Rattle.core_sig.specs.Drafts.{draft_of}
use Rattle.core_sig.specs.Kinds.{HasEntryKinds}
use Rattle.core_sig.specs.Meanings.{entry_of, family_of}
use Rattle.core_sig.specs.Shapes.{shape_of}
use Rattle.generators.specs.acyclic_gen.Answers.{Yields}
use Rattle.generators.proofs.acyclic_gen.Entries.{entry-is}
use Rattle.generators.proofs.acyclic_gen.ScopedAcyclic.{direct-scoped, yields-scoped}
use Rattle.generators.specs.acyclic_gen.DirectEntries.{direct_of_shape}
use Rattle.generators.proofs.acyclic_gen.direct_entries.direct_entry.Goals as goal

pub direct_of_family-requires : goal.direct_of_family-requires
direct_of_family-requires c =
    let family = c.in-Some-Family.family in
    let found = sym c.in-Some-Family.ensures.entry ∙ ap (λ e. Some (entry_of e)) c.in-Some-Family.field-0-is in
    let low = c.requires.level (family_of family) found in
    omega arith

pub returns-clause-answer : goal.returns-clause-answer
returns-clause-answer c = λ f at.
    let family = c.in-Some-Family.family in
    let found = sym c.in-Some-Family.ensures.entry ∙ ap (λ e. Some (entry_of e)) c.in-Some-Family.field-0-is in
    entry-is (λ name names shape. direct_of_shape (length c.args.sig.now.entries) name c.args.fam shape) c.direct_of_family.result c.args.fam f family
    (subst (HasEntryKinds c.args.fam) c.in-Some-Family.field-0-is c.in-Some-Family.ensures.kinds) (sym found ∙ at)
    (subst (λ b. Yields draft_of c.direct_of_family.result (direct_of_shape b family.name c.args.fam (shape_of family))) c.len.ensures c.direct_of_family.ensures)

pub returns-clause-scoped : goal.returns-clause-scoped
returns-clause-scoped c = λ T scoped first longer.
    let (f, at) = c.requires.family in
    yields-scoped T c.direct_of_family.result _ (returns-clause-answer c f at)
    (direct-scoped c.args.sig.now T c.args.fam f scoped first at longer)
