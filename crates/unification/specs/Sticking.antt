-- Why no rule goes on with an equation. The sides are tidied.
use Rattle.std.specs.Prelude.{ℕ, Bool, false, ◌==◌, ◌&&◌, not, cond, Option, Some, None}
use Rattle.theory.specs.Terms.{Term}
use Rattle.theory.specs.Signatures.{Signature}
use Rattle.tele_eq.specs.Dependences.{has_variable}
use Rattle.unification.specs.Built.{Built, built_of, has_no_indices}
use Rattle.unification.specs.Solutions.{variable_in}
use Rattle.unification.specs.States.{Equation}
use Rattle.unification.specs.Turns.{Sticks, Trial, applies, on_tidied}
use Rattle.unification.specs.declared.why.Why.{Why}
use Rattle.unification.specs.declared.why.Why.TheVariants.{NotRigid, OccursNotRigid, Depends, NeedsIndexEquations}

-- one constructor on both sides, of a family with indices
abbrev pub are_indexed : Option Built → Option Built → Bool
are_indexed (Some b) (Some d) = ((b.n == d.n) && (b.number == d.number)) && not (has_no_indices b.family)
are_indexed _ _ = false

abbrev pub why_variable : (x : ℕ) → (other : Term) → Why
why_variable x other = cond (has_variable x other) OccursNotRigid Depends

-- by the variables that the left and the right side may be: the right one counts first
abbrev pub why_sides : Signature → (u v : Term) → (from_left from_right : Option ℕ) → Why
why_sides S u v from_left (Some y) = why_variable y u
why_sides S u v (Some x) None = why_variable x v
why_sides S u v None None = cond (are_indexed (built_of S u) (built_of S v)) NeedsIndexEquations NotRigid

abbrev pub why_stuck : Signature → (u v : Term) → Why
why_stuck S u v = why_sides S u v (variable_in u) (variable_in v)

-- The last trial, which always applies.
abbrev pub stuck_trial : Signature → Equation → Trial
stuck_trial S e = on_tidied S e.left e.right (λ u v. applies (Sticks (why_stuck S u v) u v))
