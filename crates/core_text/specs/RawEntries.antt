-- Entries as their lines have them, before a record is made of a family: its type and those of its constructors as they are written.
use Rattle.std.specs.Prelude.{ℕ, ◌+◌, nat_lt, zero, suc, Bool, false, ◌&&◌, if◌then◌else◌, List, map, length, Option, Some, None}
use Rattle.std.specs.List.{list_all}
use Rattle.std.specs.Option.{is_some}
use Rattle.theory.specs.Terms.{Term, Sort, Pi, App, top}
use Rattle.theory.specs.Telescopes.{products, applied, weaken_by}
use Rattle.theory.specs.Families.{Constructor, Family, index_types, family_head, constructor_telescope}
use Rattle.theory.specs.Signatures.{Entry, FamilyOf, EliminatorAt, AxiomKAt, Definition}
use Rattle.core_terms.specs.Telescopes.{domains_of}
use Rattle.core_sig.specs.KindTests.{is_at_parameters}
use Rattle.core_sig.specs.Raw.{RawConstructor, RawFamily}

pub data RawEntry : Type 0 where
  RawFamilyOf : RawFamily → RawEntry
  RawEliminator : (family level : ℕ) → RawEntry
  RawAxiomK : (i level : ℕ) → RawEntry
  RawDefinition : List ℕ → Term → Term → RawEntry

-- (I) -> Type l, in the context of the parameters
abbrev pub type_shown : Family → Term
type_shown f = products (index_types f) (Sort f.level)

-- (Ac) -> D p us_c, in the context of the parameters, for a constructor of family number n
abbrev pub constructor_type_shown : ℕ → Family → Constructor → Term
constructor_type_shown n f c =
    products (constructor_telescope n f c) (applied (weaken_by (length c.arguments) (family_head n f)) c.targets)

-- a constructor of family number n as its line shows it
abbrev pub constructor_line : ℕ → Family → Constructor → RawConstructor
constructor_line n f c = record { name = c.name; type = constructor_type_shown n f c }

-- family number n as its line shows it
abbrev pub family_shown : ℕ → Family → RawFamily
family_shown n f =
    record { name = f.name; parameters = f.parameters; type = type_shown f; constructors = map (constructor_line n f) f.constructors }

-- entry number n as its line shows it
abbrev pub entry_shown : ℕ → Entry → RawEntry
entry_shown n (FamilyOf f) = RawFamilyOf (family_shown n f)
entry_shown n (EliminatorAt family m) = RawEliminator family m
entry_shown n (AxiomKAt i m) = RawAxiomK i m
entry_shown n (Definition name type body) = RawDefinition name type body

-- the level of the sort in which the type ends, where a family may have it
abbrev pub end_level : Term → Option ℕ
end_level (Pi a b) = end_level b
end_level (Sort level) = if nat_lt level top then Some level else None
end_level _ = None

-- the term is family n at its p parameters, after `at` binders, and at i terms more
abbrev pub is_at_targets : ℕ → ℕ → ℕ → ℕ → Term → Bool
is_at_targets n p zero at t = is_at_parameters n p at t
is_at_targets n p (suc i) at (App f a) = is_at_targets n p i at f
is_at_targets n p (suc i) at t = false

-- the type is products, after `at` others, that end in family n at its p parameters and at i terms more
abbrev pub ends_in_family : ℕ → ℕ → ℕ → ℕ → Term → Bool
ends_in_family n p i at (Pi a b) = ends_in_family n p i (at + 1) b
ends_in_family n p i at t = is_at_targets n p i at t

-- The line of family number n shows a record: its type ends in a sort that a family may have, and the type of each
-- constructor in the family at its parameters and one target for each index.
abbrev pub shows_record : ℕ → RawFamily → Bool
shows_record n raw =
    is_some (end_level raw.type)
    && list_all (λ c. ends_in_family n (length raw.parameters) (length (domains_of raw.type)) 0 c.type) raw.constructors
