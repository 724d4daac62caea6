-- The shape of a constructor's type: products over its arguments that end in the family at its targets. An argument is
-- recursive where its type has this shape as well, with the family absent from its own arguments and its targets; any
-- other argument must lack the family (Dybjer, "Inductive families", 1994).
use Rattle.std.specs.Prelude.{ℕ, ◌+◌, Bool, cond, ◌&&◌, ◌||◌, not, ◌==◌, Option, Some, None, option_map, Result, Ok, Err, List, [], ◌∷◌, length, drop}
use Rattle.std.specs.List.{list_all}
use Rattle.std.specs.Option.{is_some}
use Rattle.theory.specs.Terms.{Term}
use Rattle.theory.specs.Spines.{spine_of}
use Rattle.theory.specs.Telescopes.{Telescope, applied, weaken_by}
use Rattle.theory.specs.Families.{Argument, Plain, Recursive, Family, family_head, mentions}
use Rattle.core_terms.specs.Telescopes.{domains_of, end_of}
use Rattle.kernel_reduce.specs.Comparison.{same}

-- family n is absent from all the terms
abbrev pub all_lack : ℕ → List Term → Bool
all_lack n ts = list_all (λ t. not (mentions n t)) ts

-- The targets of family n, where t is the family at its own parameters, k binders after them, and at one target for
-- each index, and the targets lack the family.
abbrev pub targets_of : ℕ → Family → ℕ → Term → Option (List Term)
targets_of n f k t =
    let targets = drop (length f.parameters) (spine_of t) in
    cond (same t (applied (weaken_by k (family_head n f)) targets) && (length targets == length f.indices && all_lack n targets))
    (Some targets)
    None

-- the inner telescope and the targets of a recursive argument, after k others
abbrev pub recursive_parts : ℕ → Family → ℕ → Term → Option (Telescope × List Term)
recursive_parts n f k t =
    let inner = domains_of t in
    cond (all_lack n inner) (option_map (λ targets. (inner, targets)) (targets_of n f (k + length inner) (end_of t))) None

abbrev pub argument_of : Term → ℕ → Option (Telescope × List Term) → Argument
argument_of t level (Some parts) = Recursive parts.0 parts.1 level
argument_of t level None = Plain t level

-- the arguments of a constructor of family n with the given types and levels, after k others
abbrev pub arguments : ℕ → Family → ℕ → Telescope → List ℕ → List Argument
arguments n f k (t ∷ types) (level ∷ levels) =
    argument_of t level (recursive_parts n f k t) ∷ arguments n f (k + 1) types levels
arguments n f k _ _ = []

-- an argument, after k others, keeps positivity
abbrev pub is_positive : ℕ → Family → ℕ → Term → Bool
is_positive n f k t = not (mentions n t) || is_some (recursive_parts n f k t)

-- the first argument that does not, counted from 1, where k arguments come before the given ones
abbrev pub first_offender : ℕ → Family → ℕ → Telescope → Option ℕ
first_offender n f k [] = None
first_offender n f k (t ∷ types) = cond (is_positive n f k t) (first_offender n f (k + 1) types) (Some (k + 1))

-- the targets, unless an argument offends, or the result, which has the number 0
abbrev pub unless_offender : Option ℕ → Option (List Term) → Result (List Term) ℕ
unless_offender (Some k) targets = Err k
unless_offender None (Some targets) = Ok targets
unless_offender None None = Err 0

-- the targets of a constructor of family n with the type t, or the number of the first offender against positivity
abbrev pub constructor_targets : ℕ → Family → Term → Result (List Term) ℕ
constructor_targets n f t =
    let types = domains_of t in
    unless_offender (first_offender n f 0 types) (targets_of n f (length types) (end_of t))
