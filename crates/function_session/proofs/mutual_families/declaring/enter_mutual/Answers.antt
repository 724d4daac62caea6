use Rattle.std.proofs.Common.{length, sym, subst as transport}
use Rattle.theory.specs.SignatureScopes.{IsScopedTelescope}
use Rattle.core_terms.specs.Meanings.{tele_of}
use Rattle.core_sig.specs.Raw.{mutual_of}
use Rattle.function_session.specs.mutual_families.Refusals.{unpacked}
use Rattle.function_session.proofs.mutual_families.CallAnswers.{answered-is}
use Rattle.function_session.proofs.mutual_families.EnterablePacked.{parameters-scoped}
use Rattle.function_session.proofs.mutual_families.declaring.enter_mutual.Goals as goal
use Rattle.mutual_pack.specs.MutualFamilies.{packed_of}
use Rattle.mutual_pack.specs.Packing.{pack}

pub check_all-requires-clause-params : goal.check_all-requires-clause-params
check_all-requires-clause-params c =
    transport (λ params. IsScopedTelescope c.args.sig.now 0 (tele_of params)) (sym c.as_slice.ensures)
    (parameters-scoped c.args.sig.now (mutual_of c.args.d.now) c.requires.declared)

pub enter_packed-requires-clause-packed : goal.enter_packed-requires-clause-packed
enter_packed-requires-clause-packed c =
    answered-is (unpacked (mutual_of c.args.d.now)) (packed_of c.in_ok-packed.packed) (pack (length c.args.sig.now.entries) (mutual_of c.args.d.now)) c.in_ok-packed.ensures
