-- A session: the signature so far, the decisions of equality among its entries, in the order in which they were accepted, and the units
-- that each declaration may spend.
use Rattle.std.specs.Prelude.{ℕ, List, refl}
use Rattle.std.specs.Coded.{Coded, code_by, coded_ℕ, coded_list, coded×}
use Rattle.theory.specs.Signatures.{Signature}
use Rattle.core_sig.specs.Codes.{signature_code}
use Rattle.function_session.specs.declared.decisions.decision.Decision.{Decision}

abbrev pub decision_code : Coded Decision
decision_code =
    code_by (ℕ × (ℕ × ℕ)) (coded× coded_ℕ (coded× coded_ℕ coded_ℕ)) (λ d. (d.family, (d.into, d.entry)))
    (λ p. record { family = p.0; into = p.1.0; entry = p.1.1 })
    (λ _. refl)

pub record Session : Type 0 where
  pub signature : Signature
  pub decisions : List Decision
  pub fuel : ℕ

abbrev pub session_code : Coded Session
session_code =
    code_by (Signature × (List Decision × ℕ)) (coded× signature_code (coded× (coded_list decision_code) coded_ℕ))
    (λ s. (s.signature, (s.decisions, s.fuel)))
    (λ p. record { signature = p.0; decisions = p.1.0; fuel = p.1.1 })
    (λ _. refl)
