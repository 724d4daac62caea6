-- The prelude is a signature that a session may have.
use Rattle.std.proofs.Common.{◌≡◌, Bool, sym, subst as transport}
use Rattle.theory.specs.Prelude.{prelude}
use Rattle.theory.specs.Signatures.{Signature}
use Rattle.theory.proofs.PreludeWellFormed.{prelude_is_well_formed}
use Rattle.family_check.proofs.PreludeEntries.{prelude-first, prelude-settled}
use Rattle.elab_session.specs.Sessions.{IsReady}

pub prelude-ready : (S : Signature) (k : Bool) → S ≡ prelude k → IsReady S
prelude-ready S k is =
    transport IsReady (sym is) (record { well_formed = prelude_is_well_formed k; settled = prelude-settled k; prelude = prelude-first k })
