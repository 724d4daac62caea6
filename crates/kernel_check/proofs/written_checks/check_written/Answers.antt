use Rattle.core_sig.proofs.StandingEntries.{stands-stay}
use Rattle.kernel_reduce.proofs.WellScoped.{without_first}
use Rattle.kernel_check.proofs.Given.{can-given}
use Rattle.kernel_check.proofs.written_checks.check_written.Goals as goal

pub check_within-requires-clause-ids : goal.check_within-requires-clause-ids
check_within-requires-clause-ids g c =
    stands-stay (g.S.TermStore.held c.args.store.now) (g.S.TermStore.held c.import_types.new.store) c.in_ok-types.ensures.extends c.args.sig.now.entries c.args.ids.now c.requires.ids

pub check_within-requires-clause-term : goal.check_within-requires-clause-term
check_within-requires-clause-term g c =
    can-given (g.S.TermStore.held c.import_types.new.store) c.args.ctx c.as_slice.result c.in_ok-types.types.items c.as_slice.ensures.value c.in_ok-types.ensures.ids c.requires.asked

pub check_within-requires-clause-wanted : goal.check_within-requires-clause-wanted
check_within-requires-clause-wanted g c =
    can-given (g.S.TermStore.held c.import_types.new.store) c.args.ctx c.as_slice.result c.in_ok-types.types.items c.as_slice.ensures.value c.in_ok-types.ensures.ids (without_first c.requires.asked)
