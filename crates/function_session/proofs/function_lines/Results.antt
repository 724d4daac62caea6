-- Properties of the lines that are meant, as those of the lines that are answered.
use Rattle.std.proofs.Common.{◌≡◌, ℕ, [], ◌∷◌, Ok, Err, IfOk, sym, ap, ◌∙◌, subst as transport, arith}
use Rattle.theory.specs.Signatures.{Signature, IsPrefix}
use Rattle.theory.specs.Terms.{Term}
use Rattle.theory.specs.WellFormed.{IsWellFormed}
use Rattle.kernel_reduce.specs.WellScoped.{AreWellScoped}
use Rattle.theory.specs.SignatureScopes.{IsScoped, IsScopedSignature}
use Rattle.elab_session.specs.Sessions.{IsReady}
use Rattle.elab_session.proofs.Resolved.{prelude-stays}
use Rattle.drafts.proofs.entering_laws.OpenSignatures.{well_formed-settled}
use Rattle.clause_reports.specs.elaboration.Functions.{Lines}
use Rattle.clause_reports.specs.Stops.{ReportStop, Reporting}
use Rattle.clause_reports.specs.elaboration.Refusals.{Elaborating, Owner, Refusal, of_report, reporting}
use Rattle.function_session.proofs.function_lines.Agreeing.{spent}

abbrev pub Kept : Signature → Lines → Type 0
Kept S lines = IsPrefix S lines.signature × IsWellFormed lines.signature

pub told : (S : Signature) (lines : Lines) (left : ℕ) (made : Elaborating Lines) → spent (Ok lines) left ≡ made → IfOk made.0 (Kept S) → IsWellFormed lines.signature
told S lines left made is h = (transport (λ (m : Elaborating Lines). IfOk m.0 (Kept S)) (sym is) h).1

-- the signature of a session that goes on and is well formed is again one that a session may have
pub longer-ready : (S T : Signature) → IsReady S → IsPrefix S T → IsWellFormed T → IsReady T
longer-ready S T ready longer well = record {
  well_formed = well;
  settled = well_formed-settled T well;
  prelude = prelude-stays S T ready.prelude longer;
}

-- a closed type is well scoped in no context
pub closed-type : (S : Signature) (type : Term) → IsScopedSignature S → IsScoped S 0 type → AreWellScoped S [] (type ∷ [])
closed-type S type signature scoped = record { signature = signature; context = tt; few = omega arith; terms = (scoped, tt) }

-- a refusal that is shown over the signature as it was before
pub refused-after : (S T : Signature) (owner : Owner) (stop : ReportStop) (r : Refusal) (left : ℕ) (meant : Reporting Signature) → T ≡ S
    → r ≡ of_report T owner stop → spent (Err stop) left ≡ meant → spent (Err r) left ≡ reporting S owner meant
refused-after S T owner stop r left meant is shown ends =
    transport (λ (m : Reporting Signature). spent (Err r) left ≡ reporting S owner m) ends
    (ap (λ x. spent (Err x) left) (shown ∙ ap (λ U. of_report U owner stop) is))
