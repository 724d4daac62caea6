-- Where no declaration of a source file is refused, each entry is accepted by itself.
use Rattle.std.proofs.Common.{◌≡◌, true, false, [], ◌∷◌, Result, Ok, Err, IfOk}
use Rattle.std.proofs.lemmas.Bool.{true≢false}
use Rattle.elab_session.specs.declared.refusal.Refusal.{Refusal}
use Rattle.function_session.specs.Declaring.{declared_in, session_after}
use Rattle.function_session.specs.Elaborating.{Elaborated}
use Rattle.function_session.specs.Sessions.{Session}
use Rattle.elim.specs.refusal_laws.accepted_laws.Checked.{Checked, unchanged}
use Rattle.elim.proofs.refusal_laws.accepted_laws.Declarations.{declare-checked}
use Rattle.elim.proofs.refusal_laws.accepted_laws.Steps.{checked-on}
use Rattle.elim.specs.elim_program.Outputs.{declarations, declared_block, followed}
use Rattle.elim.specs.headline.verified_laws.Laws.{TextIsChecked, after_all}

pub text-checked : TextIsChecked
text-checked s [] accepted = unchanged
text-checked s (d ∷ ds) accepted = by (declared_in s d) (declare-checked s d) (λ t is. text-checked t ds is) accepted
  where
    by : (r : Result Elaborated Refusal) → IfOk r (λ a. Checked s.fuel s.signature a.signature)
        → ((t : Session) → (declarations t ds).refused ≡ false → Checked t.fuel t.signature (after_all t ds).signature)
        → (followed (declared_block s.signature d r) (declarations (session_after s d r) ds)).refused ≡ false
        → Checked s.fuel s.signature (after_all (session_after s d r) ds).signature
    by (Ok a) h rest accepted = checked-on h (rest (session_after s d (Ok a)) accepted)
    by (Err e) h rest accepted = absurd (true≢false accepted)
