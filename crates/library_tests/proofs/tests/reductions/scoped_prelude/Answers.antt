use Rattle.std.proofs.Common.{◌≡◌, false, sym, subst as transport}
use Rattle.std.proofs.lemmas.Result.{IfOk-weaker}
use Rattle.theory.specs.Prelude.{prelude}
use Rattle.theory.specs.SignatureScopes.{IsScopedSignature}
use Rattle.kernel_reduce.proofs.ScopedSignatures.{prelude-scoped}
use Rattle.library_tests.proofs.tests.reductions.scoped_prelude.Goals as goal

pub returns : goal.returns
returns c =
    IfOk-weaker _ (λ s. s ≡ prelude false) IsScopedSignature (λ s e. transport IsScopedSignature (sym e) (prelude-scoped false))
    c.prelude.ensures.ok
