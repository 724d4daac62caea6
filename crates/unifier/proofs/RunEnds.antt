-- The outcome of a turn that is an end, after the steps before it.
use Rattle.std.proofs.Common.{◌≡◌, Option, Some, None, List, [], ◌∷◌, ◌++◌, refl, sym, ap, ◌∙◌}
use Rattle.theory.specs.Terms.{Term}
use Rattle.theory.specs.Telescopes.{Telescope}
use Rattle.core_terms.specs.CaseTrees.{Step}
use Rattle.unification.specs.Outcomes.{Outcome, Solved, Absurd, Stuck, before, behind_steps}
use Rattle.unification.specs.Runs.{end_of}
use Rattle.unification.specs.States.{State}
use Rattle.unification.specs.Turns.{Turn, Done, Goes, Fails, Sticks}
use Rattle.unification.specs.declared.why.Why.{Why}
use Rattle.problems.specs.Meanings.{turn_of}
use Rattle.problems.specs.declared.turn.Turn as code
use Rattle.problems.specs.declared.turn.Turn.TheVariants as variant

absurd-behind : (steps more : List Step) (context : Telescope) (u v : Term) → behind_steps steps (Absurd more context u v) ≡ Absurd (steps ++ more) context u v
absurd-behind [] more context u v = refl
absurd-behind (step ∷ steps) more context u v = ap (before step) (absurd-behind steps more context u v)

stuck-behind : (steps : List Step) (context : Telescope) (u v : Term) (why : Why) → behind_steps steps (Stuck [] context u v why) ≡ Stuck steps context u v why
stuck-behind [] context u v why = refl
stuck-behind (step ∷ steps) context u v why = ap (before step) (stuck-behind steps context u v why)

solved-behind : (steps : List Step) (context : Telescope) (solution : List Term) → behind_steps steps (Solved [] context solution) ≡ Solved steps context solution
solved-behind [] context solution = refl
solved-behind (step ∷ steps) context solution = ap (before step) (solved-behind steps context solution)

some-is : {A : Type 0} {a b : A} → ◌≡◌ {A = Option A} (Some a) (Some b) → a ≡ b
some-is e = cc

pub fails-end : (steps : List Step) (s : State) (turn : Turn) (step : Step) (u v : Term) (outcome : Outcome) → turn ≡ Fails step u v → end_of s turn ≡ Some outcome
    → Absurd (steps ++ step ∷ []) s.context u v ≡ behind_steps steps outcome
fails-end steps s turn step u v outcome is at =
    sym (absurd-behind steps (step ∷ []) s.context u v) ∙ ap (behind_steps steps) (some-is (sym (ap (end_of s) is) ∙ at))

pub sticks-end : (steps : List Step) (s : State) (turn : Turn) (why : Why) (u v : Term) (outcome : Outcome) → turn ≡ Sticks why u v → end_of s turn ≡ Some outcome → Stuck steps s.context u v why ≡ behind_steps steps outcome
sticks-end steps s turn why u v outcome is at =
    sym (stuck-behind steps s.context u v why) ∙ ap (behind_steps steps) (some-is (sym (ap (end_of s) is) ∙ at))

pub done-end : (steps : List Step) (s : State) (turn : Turn) (outcome : Outcome) → turn ≡ Done → end_of s turn ≡ Some outcome → Solved steps s.context s.solution ≡ behind_steps steps outcome
done-end steps s turn outcome is at =
    sym (solved-behind steps s.context s.solution) ∙ ap (behind_steps steps) (some-is (sym (ap (end_of s) is) ∙ at))

pub goes-end : (s : State) (turn : Turn) (step : Step) (t : State) (outcome : Outcome) → turn ≡ Goes step t → end_of s turn ≡ Some outcome → ⊥
goes-end s turn step t outcome is at = let e : ◌≡◌ {A = Option Outcome} None (Some outcome) = sym (ap (end_of s) is) ∙ at in cc

-- a turn of the code that does not go on does not go on
pub code-ends : (end : code.Turn) → ((step : _) (next : _) → end ≡ variant.Goes step next → ⊥) → (step : Step) (t : State) → turn_of end ≡ Goes step t → ⊥
code-ends variant.Done h step t e = cc
code-ends (variant.Goes a b) h step t e = h a b refl
code-ends (variant.Fails a u v) h step t e = cc
code-ends (variant.Sticks why u v) h step t e = cc
