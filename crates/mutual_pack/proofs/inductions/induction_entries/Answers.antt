use Rattle.std.proofs.Common.{sym, ◌∙◌}
use Rattle.mutual_pack.specs.MutualFamilies.{packed_of}
use Rattle.mutual_pack.proofs.Entries.{entries-are, answers-scoped, found-family}
use Rattle.mutual_pack.proofs.ScopedInductions.{inductions-scoped}
use Rattle.mutual_pack.proofs.inductions.induction_entries.Goals as goal

pub returns-clause-answer : goal.returns-clause-answer
returns-clause-answer c = λ f at.
    entries-are c.induction_entries_of.result c.len.result _ (packed_of c.args.packed.now) f c.in_ok-f.f.now c.in_ok-f.ensures.kinds c.len.ensures (found-family f c.in_ok-f.f.now (sym c.in_ok-f.ensures.family ∙ at))
    c.induction_entries_of.ensures

pub returns-clause-scoped : goal.returns-clause-scoped
returns-clause-scoped c = λ T scoped has longer.
    let (f, at) = c.requires.family in
    answers-scoped T c.induction_entries_of.result _ (returns-clause-answer c f at)
    (inductions-scoped c.args.sig.now T (packed_of c.args.packed.now) f scoped has at longer)
