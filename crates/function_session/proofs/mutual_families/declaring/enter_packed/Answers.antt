use Rattle.std.proofs.Common.{ap, map, sym, subst as transport}
use Rattle.std.proofs.lemmas.Result.{err_from_is_err_and}
use Rattle.core_sig.specs.Raw.{member_of, mutual_of}
use Rattle.theory.proofs.Pushing.{prefix_transitive}
use Rattle.function_session.specs.mutual_families.Conditions.{AreAllComparable}
use Rattle.function_session.proofs.mutual_families.EnterablePacked.{packed-can}
use Rattle.function_session.proofs.mutual_families.PhasedMutual.{equations-ready, equations-stop, family-stays, inductions-ready}
use Rattle.function_session.proofs.mutual_families.declaring.enter_packed.Goals as goal
use Rattle.mutual_pack.specs.MutualFamilies.{packed_of}

pub enter_entries-requires-clause-can : goal.enter_entries-requires-clause-can
enter_entries-requires-clause-can c =
    packed-can c.args.sig.now (mutual_of c.args.d.now) (packed_of c.args.packed.now) c.requires.declared c.requires.packed

pub enter_inductions-requires-clause-has : goal.enter_inductions-requires-clause-has
enter_inductions-requires-clause-has c =
    inductions-ready c.args.sig.now c.enter_entries.new.sig c.args.x.now.start c.args.fuel c.args.units.now.left _ (mutual_of c.args.d.now) (packed_of c.args.packed.now)
    c.requires.packed c.in_ok-enter_entries.ensures.answer c.in_ok-enter_entries.ensures.ready

pub check_equations-requires-clause-family : goal.check_equations-requires-clause-family
check_equations-requires-clause-family c =
    family-stays c.enter_entries.new.sig c.enter_inductions.new.sig (packed_of c.args.packed.now) c.in_ok-enter_inductions.ensures.longer
    (inductions-ready c.args.sig.now c.enter_entries.new.sig c.args.x.now.start c.args.fuel c.args.units.now.left _ (mutual_of c.args.d.now) (packed_of c.args.packed.now)
    c.requires.packed c.in_ok-enter_entries.ensures.answer c.in_ok-enter_entries.ensures.ready).family

pub check_equations-requires-clause-sides : goal.check_equations-requires-clause-sides
check_equations-requires-clause-sides c =
    transport (λ members. AreAllComparable c.enter_inductions.new.sig (packed_of c.args.packed.now) 0 (map member_of members)) (sym c.as_slice-2.ensures)
    (equations-ready c.args.sig.now c.enter_entries.new.sig c.enter_inductions.new.sig c.args.x.now.start c.args.fuel c.args.units.now.left _ _ _ (mutual_of c.args.d.now) (packed_of c.args.packed.now)
    c.requires.declared c.requires.packed c.in_ok-enter_entries.ensures.answer c.in_ok-enter_inductions.ensures.answer c.in_ok-enter_inductions.ensures.longer c.in_ok-enter_inductions.ensures.ready)

pub returns-clause-longer : goal.returns-clause-longer
returns-clause-longer c =
    prefix_transitive c.args.sig.now c.enter_entries.new.sig c.enter_inductions.new.sig c.in_ok-enter_entries.ensures.longer c.in_ok-enter_inductions.ensures.longer

pub returns-in_err-check_equations-clause-answer : goal.returns-in_err-check_equations-clause-answer
returns-in_err-check_equations-clause-answer c =
    let q = err_from_is_err_and c.from_residual-in_err-check_equations.result c.from_residual-in_err-check_equations.ensures.1 in
    rw (q.1, q.2)
    (λ other.
    equations-stop c.args.sig.now c.enter_entries.new.sig c.enter_inductions.new.sig c.args.fuel c.args.units.now.left c.enter_entries.new.units.left c.enter_inductions.new.units.left _ _ _ c.args.x.now
    (mutual_of c.args.d.now) (packed_of c.args.packed.now) _ c.as_slice.ensures (ap (map member_of) c.as_slice-2.ensures) c.in_ok-enter_entries.ensures.answer c.in_ok-enter_inductions.ensures.answer (c.in_err-check_equations.ensures.answer other))

pub returns-in_err-check_equations-clause-longer : goal.returns-in_err-check_equations-clause-longer
returns-in_err-check_equations-clause-longer c =
    prefix_transitive c.args.sig.now c.enter_entries.new.sig c.enter_inductions.new.sig c.in_ok-enter_entries.ensures.longer c.in_ok-enter_inductions.ensures.longer
