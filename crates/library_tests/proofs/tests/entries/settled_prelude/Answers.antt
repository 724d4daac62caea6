use Rattle.std.proofs.Common.{◌≡◌, Bool, refl, sym, subst as transport}
use Rattle.std.proofs.lemmas.Result.{IfOk-weaker}
use Rattle.theory.specs.Prelude.{prelude}
use Rattle.family_check.proofs.PreludeEntries.{prelude-settled, prelude-first}
use Rattle.library_tests.specs.Entering.{CanEnter}
use Rattle.library_tests.proofs.tests.entries.settled_prelude.Goals as goal

can-enter : (k : Bool) → CanEnter k (prelude k)
can-enter k = record { settled = prelude-settled k; prelude = prelude-first k; has_k = refl }

pub returns : goal.returns
returns c = IfOk-weaker _ (λ s. s ≡ prelude c.args.k) (CanEnter c.args.k) (λ s e. transport (CanEnter c.args.k) (sym e) (can-enter c.args.k)) c.prelude.ensures.ok
