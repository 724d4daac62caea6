-- The decisions that a session accepted, those into one family.
use Rattle.std.specs.Prelude.{ℕ, ◌==◌, cond, List, [], ◌∷◌}
use Rattle.decide_eq.specs.PlainFamilies.{Known}
use Rattle.function_session.specs.declared.decisions.decision.Decision.{Decision}

-- The families whose equality is decided into family number `into`, each with the entry of its decision. Where there are several decisions
-- of a family, the first one counts.
abbrev pub known_into : (into : ℕ) → List Decision → Known
known_into into [] = []
known_into into (d ∷ decisions) = cond (d.into == into) ((d.family, d.entry) ∷ known_into into decisions) (known_into into decisions)
