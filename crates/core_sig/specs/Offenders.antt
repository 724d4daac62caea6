-- The first constructor and argument that violate the positivity of a family.
use Rattle.std.specs.Prelude.{ℕ, ◌+◌, Bool, ◌||◌, if◌then◌else◌, List, [], ◌∷◌, Option, Some, None}
use Rattle.std.specs.List.{list_any}
use Rattle.std.specs.Option.{option_map_or}
use Rattle.theory.specs.Families.{Argument, Plain, Recursive, Constructor, Family, mentions}

-- family number n occurs in the argument, and not only at the end of a recursive argument's type
abbrev pub offends : ℕ → Argument → Bool
offends n (Plain type level) = mentions n type
offends n (Recursive inner targets level) = list_any (mentions n) inner || list_any (mentions n) targets

-- the number of the first argument that offends, or 0 where only the targets mention the family
abbrev pub offender_in : ℕ → List Argument → ℕ → Constructor → Option ℕ
offender_in n [] number c = if list_any (mentions n) c.targets then Some 0 else None
offender_in n (a ∷ arguments) number c = if offends n a then Some number else offender_in n arguments (number + 1) c

-- the first constructor that offends, where the first in the list has the given number, and its argument
abbrev pub offender_among : ℕ → ℕ → List Constructor → Option (ℕ × ℕ)
offender_among n number [] = None
offender_among n number (c ∷ constructors) =
    option_map_or (λ argument. Some (number, argument)) (offender_in n c.arguments 1 c) (offender_among n (number + 1) constructors)

-- The first constructor, numbered from 0, that breaks the positivity of family number n, and its first argument that
-- does, numbered from 1. Argument 0 stands for the targets, which come last.
abbrev pub first_offender : ℕ → Family → Option (ℕ × ℕ)
first_offender n f = offender_among n 0 f.constructors
