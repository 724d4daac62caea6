use Rattle.std.proofs.Common.{sym, subst as transport}
use Rattle.std.specs.Prelude.{All}
use Rattle.std.proofs.lemmas.List.Elements.{All-nil}
use Rattle.elab_session.proofs.PreludeReady.{prelude-ready}
use Rattle.function_session.specs.decisions.Laws.{IsHeld}
use Rattle.function_session.proofs.session.Session.new.Goals as goal

pub invariant_of-result : goal.invariant_of-result
invariant_of-result c =
    let S = c.in_ok-sig.sig in
    (prelude-ready S c.args.k c.in_ok-sig.ensures.ok, transport (All (IsHeld S)) (sym c.new.ensures.items) (All-nil (IsHeld S)))
