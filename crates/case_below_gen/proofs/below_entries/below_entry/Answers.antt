use Rattle.std.proofs.Common.{arith, Some, sym, ap, ◌∙◌, length, subst}
use Rattle.core_terms.specs.Answers.{Gives}
use Rattle.core_sig.specs.Kinds.{HasEntryKinds}
use Rattle.core_sig.specs.Meanings.{entry_of}
use Rattle.core_sig.specs.Shapes.{shape_of}
use Rattle.case_below_gen.specs.CourseEntries.{below_of_shape}
use Rattle.core_sig.specs.Drafts.{draft_of}
use Rattle.core_sig.proofs.ScopedDrafts.{answer-scoped}
use Rattle.core_sig.proofs.ShapesOfCode.{entry-is}
use Rattle.case_below_gen.proofs.ScopedEntries.{below-scoped}
use Rattle.case_below_gen.proofs.below_entries.below_entry.Goals as goal

pub returns-clause-answer : goal.returns-clause-answer
returns-clause-answer c = λ f at.
    let family = c.in-Some-Family.family in
    let found = sym c.in-Some-Family.ensures.entry ∙ ap (λ e. Some (entry_of e)) c.in-Some-Family.field-0-is in
    entry-is (λ name shape. below_of_shape (length c.args.sig.now.entries) name c.args.fam shape c.args.m) c.below_of_family.result c.args.fam f family
    (subst (HasEntryKinds c.args.fam) c.in-Some-Family.field-0-is c.in-Some-Family.ensures.kinds) (sym found ∙ at)
    (subst (λ b. Gives draft_of c.below_of_family.result (below_of_shape b family.name c.args.fam (shape_of family) c.args.m)) c.len.ensures c.below_of_family.ensures)

pub returns-clause-scoped : goal.returns-clause-scoped
returns-clause-scoped c = λ T scoped first longer.
    let (f, at) = c.requires.family in
    answer-scoped T c.below_of_family.result _ (returns-clause-answer c f at)
    (below-scoped c.args.sig.now T c.args.fam f c.args.m scoped first (omega (arith, c.requires.level)) at longer)
