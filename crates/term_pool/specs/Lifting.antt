-- A table of lifts.
use Rattle.std.specs.Prelude.{ℕ, List}
use Rattle.theory.specs.Terms.{lift}
use Rattle.term_pool.specs.Held.{Held}
use Rattle.term_pool.specs.Shifts.{Serves}
use Rattle.term_pool.specs.declared.shifts.Shift.{Shift}

-- each row answers the lift of its tree by so much, from its depth on
abbrev pub Lifts : {I : Type 0} → ℕ → Held I → List (Shift I) → Type 0
Lifts by held rows = Serves (λ t from. lift t by from) held rows
