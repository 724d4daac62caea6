-- Calls, none of which is the decreasing argument of another one. Such an argument is no strict part of a term of a pattern, so the right
-- sides of a function that is accepted have none.
use Rattle.std.specs.Prelude.{◌≡◌, ℕ, ◌==◌, Bool, true, false, Some, IfSome, length, get_or, slice_get}
use Rattle.theory.specs.Terms.{Term, Sort, Pi, Lam, App, Let, Const}
use Rattle.theory.specs.Spines.{head_of, spine_of}
use Rattle.tree_translation.specs.Plans.{Part, Plan}

abbrev pub is_function : (base : ℕ) → Term → Bool
is_function base (Const c) = c == base
is_function base _ = false

abbrev pub CallsStandApart : (base position : ℕ) → Term → Type 0
CallsStandApart base position (Pi a b) = CallsStandApart base position a × CallsStandApart base position b
CallsStandApart base position (Lam a b) = CallsStandApart base position a × CallsStandApart base position b
CallsStandApart base position (App f a) =
    CallsStandApart base position f
    × CallsStandApart base position a
    × (is_function base (head_of f) ≡ true → length (spine_of f) ≡ position → is_function base (head_of a) ≡ false)
CallsStandApart base position (Let a t b) =
    CallsStandApart base position a × CallsStandApart base position t × CallsStandApart base position b
CallsStandApart base position t = Unit {0}

-- no call in a right side of the plan is the decreasing argument of another one
abbrev pub PlanCallsApart : Plan → Type 0
PlanCallsApart plan =
    (k : ℕ) (part : Part) → slice_get plan.parts k ≡ Some part → (clause : ℕ) →
    IfSome plan.position (λ j. CallsStandApart plan.base j (get_or part.sides clause (Sort 0)))
