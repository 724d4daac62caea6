use Rattle.core_sig.proofs.ScopedDrafts.{answer-scoped}
use Rattle.case_below_gen.proofs.ScopedLeft.{left-scoped}
use Rattle.case_below_gen.proofs.left_entries.left_entry.Goals as goal

pub returns-clause-scoped : goal.returns-clause-scoped
returns-clause-scoped c = λ T first longer.
    answer-scoped T c.left_draft.result _ c.left_draft.ensures
    (left-scoped c.args.sig.now T c.len.result c.args.i c.args.m first c.requires.level longer)
