-- The test by which a type has the form of a recursive argument: (inner) -> D p targets, from the outside on.
use Rattle.std.specs.Prelude.{ℕ, zero, suc, ◌+◌, Bool, false, ◌&&◌, not, ◌==◌, if◌then◌else◌, Option, Some, None, option_map}
use Rattle.theory.specs.Terms.{Term, Var, Pi, App, Fam}
use Rattle.theory.specs.Families.{mentions}
use Rattle.core_sig.specs.declared.family.ArgKind.{ArgKind}
use Rattle.core_sig.specs.declared.family.ArgKind.TheVariants.{Plain, Recursive}

abbrev pub is_variable : ℕ → Term → Bool
is_variable number (Var n) = n == number
is_variable number t = false

-- the term is family n at p variables, the last of which is variable `at`
abbrev pub is_at_parameters : ℕ → ℕ → ℕ → Term → Bool
is_at_parameters n p at (Fam f) = p == 0 && f == n
is_at_parameters n (suc p) at (App f a) = is_variable at a && is_at_parameters n p (at + 1) f
is_at_parameters n p at t = false

-- and after these at `count` targets that lack the family
abbrev pub is_at_targets : ℕ → ℕ → ℕ → ℕ → Term → Bool
is_at_targets n p zero at t = is_at_parameters n p at t
is_at_targets n p (suc count) at (App f a) = is_at_targets n p count at f && not (mentions n a)
is_at_targets n p (suc count) at t = false

-- the number of inner arguments, where the type t has the form for family n with p parameters and `count` indices
abbrev pub inner_count : ℕ → ℕ → ℕ → ℕ → Term → Option ℕ
inner_count n p count at (Pi a b) = if mentions n a then None else option_map suc (inner_count n p count (at + 1) b)
inner_count n p count at t = if is_at_targets n p count at t then Some 0 else None

abbrev pub kind_by : Option ℕ → ArgKind
kind_by (Some count) = Recursive count
kind_by None = Plain
