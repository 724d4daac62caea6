-- Trials of rules, with units. A trial starts from the plain terms and the types as they are; it says what the rule does, or
-- that it does not apply.
use Rattle.std.specs.Prelude.{ℕ, Option, Some, None, Result, Ok}
use Rattle.theory.specs.Terms.{Term, Sort, App}
use Rattle.theory.specs.Signatures.{Signature}
use Rattle.core_terms.specs.Answers.{Spent, and_next}
use Rattle.core_terms.specs.CaseTrees.{Step}
use Rattle.core_terms.specs.declared.case_tree.Rule.{Rule}
use Rattle.core_terms.specs.declared.stop.Stop.{Stop}
use Rattle.kernel_reduce.specs.Reduction.{answered}
use Rattle.kernel_reduce.specs.Tidying.{tidy_of}
use Rattle.unification.specs.States.{State}
use Rattle.unification.specs.declared.why.Why.{Why}

-- The turn of a state: it is solved; a step leads to the next state; a last step shows that it is absurd; or no rule applies. An end that
-- is no solution has two sides to show.
pub data Turn : Type 0 where
  Done : Turn
  Goes : Step → State → Turn
  Fails : Step → Term → Term → Turn
  Sticks : Why → Term → Term → Turn

abbrev pub Trial : Type 0
Trial = ℕ → Spent (Option Turn)

abbrev pub does_not_apply : Trial
does_not_apply left = answered (Ok None) left

abbrev pub applies : Turn → Trial
applies turn left = answered (Ok (Some turn)) left

-- a step to a state that is made, or Deep
abbrev pub goes_to : Step → Result State Stop → Trial
goes_to step made left = and_next (answered made left) (λ s rest. applies (Goes step s) rest)

-- both terms tidied, the left one first
abbrev pub tidied : Signature → (u v : Term) → ℕ → Spent (Term × Term)
tidied S u v left =
    and_next (tidy_of S left u) (λ u' rest. and_next (tidy_of S rest v) (λ v' end. answered (Ok (u', v')) end))

abbrev pub on_tidied : Signature → (u v : Term) → (Term → Term → Trial) → Trial
on_tidied S u v go left = and_next (tidied S u v left) (λ sides rest. go sides.0 sides.1 rest)

-- a last step, whose sides are shown tidied
abbrev pub fails_at : Signature → Step → (u v : Term) → Trial
fails_at S step u v = on_tidied S u v (λ u' v'. applies (Fails step u' v'))

-- no rule goes on, and the sides are shown tidied
abbrev pub sticks_at : Signature → Why → (u v : Term) → Trial
sticks_at S why u v = on_tidied S u v (λ u' v'. applies (Sticks why u' v'))

-- A of Eq.i A u v
abbrev pub type_in : Term → Term
type_in (App (App (App h A) u) v) = A
type_in t = Sort 0

-- a step by a rule that works on one equation
abbrev pub single : Rule → (ty u v : Term) → Step
single rule ty u v = record { group = 1; rule = rule; ty = ty; left = u; right = v }

-- the second trial where the first one finds that its rule does not apply
abbrev pub unless_found : Option Turn → Trial → Trial
unless_found (Some turn) second left = applies turn left
unless_found None second left = second left

abbrev pub or_else : Trial → Trial → Trial
or_else first second left = and_next (first left) (λ turn rest. unless_found turn second rest)
