use Rattle.std.proofs.Common.{map, sym, subst as transport}
use Rattle.theory.proofs.Pushing.{prefix_transitive}
use Rattle.core_sig.specs.Meanings.{entry_of}
use Rattle.function_session.specs.mutual_families.Conditions.{AreScopedDefinitions}
use Rattle.function_session.proofs.mutual_families.SliceAnswers.{family-next, members-next}
use Rattle.function_session.proofs.mutual_families.entering.enter_entries.Goals as goal
use Rattle.mutual_pack.specs.MutualFamilies.{packed_of}

pub enter_family-requires-2-clause-can : goal.enter_family-requires-2-clause-can
enter_family-requires-2-clause-can c =
    family-next c.args.sig.now c.enter_family.new.sig c.args.start c.args.fuel c.args.units.now.left _ _ (packed_of c.args.packed.now) c.requires.can c.in_ok-enter_family.ensures.answer

pub enter_members-requires-clause-can : goal.enter_members-requires-clause-can
enter_members-requires-clause-can c =
    transport (λ members. AreScopedDefinitions c.enter_family-2.new.sig (map entry_of members)) (sym c.as_slice.ensures)
    (members-next c.args.sig.now c.enter_family.new.sig c.enter_family-2.new.sig c.args.start c.args.fuel c.args.units.now.left c.enter_family.new.units.left _ _ _ (packed_of c.args.packed.now) c.requires.can
    c.in_ok-enter_family.ensures.answer c.in_ok-enter_family-2.ensures.answer)

pub returns-clause-longer : goal.returns-clause-longer
returns-clause-longer c =
    prefix_transitive c.args.sig.now c.enter_family.new.sig c.enter_members.new.sig c.in_ok-enter_family.ensures.longer
    (prefix_transitive c.enter_family.new.sig c.enter_family-2.new.sig c.enter_members.new.sig c.in_ok-enter_family-2.ensures.longer c.enter_members.ensures.longer)
