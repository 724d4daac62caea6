use Rattle.core_sig.proofs.StandingEntries.{stands-stay}
use Rattle.kernel_check.proofs.Given.{can-given}
use Rattle.kernel_check.proofs.written_typing.infer_sort_written.Goals as goal

pub infer_sort_within-requires-clause-ids : goal.infer_sort_within-requires-clause-ids
infer_sort_within-requires-clause-ids g c =
    stands-stay (g.S.TermStore.held c.args.store.now) (g.S.TermStore.held c.import_types.new.store) c.in_ok-types.ensures.extends c.args.sig.now.entries c.args.ids.now c.requires.ids

pub infer_sort_within-requires-clause-can : goal.infer_sort_within-requires-clause-can
infer_sort_within-requires-clause-can g c =
    can-given (g.S.TermStore.held c.import_types.new.store) c.args.ctx c.as_slice.result c.in_ok-types.types.items c.as_slice.ensures.value c.in_ok-types.ensures.ids c.requires.asked
