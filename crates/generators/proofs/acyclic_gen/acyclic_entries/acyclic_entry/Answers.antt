use Rattle.std.proofs.Common.{Some, sym, ap, ◌∙◌, length, map, subst, arith}
use Rattle.core_sig.specs.Drafts.{draft_of}
use Rattle.core_sig.specs.Kinds.{HasEntryKinds}
use Rattle.core_sig.specs.Meanings.{entry_of, family_of}
use Rattle.core_sig.specs.Shapes.{shape_of}
use Rattle.generators.specs.acyclic_gen.Answers.{Yields}
use Rattle.generators.proofs.acyclic_gen.Entries.{entry-is}
use Rattle.generators.proofs.acyclic_gen.ScopedAcyclic.{acyclic-scoped, yields-scoped}
use Rattle.generators.specs.acyclic_gen.AcyclicEntries.{acyclic_of_shape}
use Rattle.generators.proofs.acyclic_gen.acyclic_entries.acyclic_entry.Goals as goal

pub acyclic_of_family-requires : goal.acyclic_of_family-requires
acyclic_of_family-requires c =
    let family = c.in-Some-Family.family in
    let found = sym c.in-Some-Family.ensures.entry ∙ ap (λ e. Some (entry_of e)) c.in-Some-Family.field-0-is in
    let low = c.requires.level (family_of family) found in
    omega arith

pub returns-clause-answer : goal.returns-clause-answer
returns-clause-answer c = λ f at.
    let family = c.in-Some-Family.family in
    let found = sym c.in-Some-Family.ensures.entry ∙ ap (λ e. Some (entry_of e)) c.in-Some-Family.field-0-is in
    entry-is (λ name names shape. acyclic_of_shape (length c.args.sig.now.entries) name names c.args.fam shape) c.acyclic_of_family.result c.args.fam f family
    (subst (HasEntryKinds c.args.fam) c.in-Some-Family.field-0-is c.in-Some-Family.ensures.kinds) (sym found ∙ at)
    (subst (λ b. Yields draft_of c.acyclic_of_family.result (acyclic_of_shape b family.name (map (λ c. c.name) family.cons) c.args.fam (shape_of family))) c.len.ensures c.acyclic_of_family.ensures)

pub returns-clause-scoped : goal.returns-clause-scoped
returns-clause-scoped c = λ T scoped first longer.
    let (f, at) = c.requires.family in
    yields-scoped T c.acyclic_of_family.result _ (returns-clause-answer c f at)
    (acyclic-scoped c.args.sig.now T c.args.fam f scoped first at longer)
