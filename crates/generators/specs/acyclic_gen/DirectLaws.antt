-- Which arguments are direct, in the words of the theory.
use Rattle.std.specs.Prelude.{◌≡◌, ◌↔◌, ℕ, true, []}
use Rattle.theory.specs.Terms.{Var}
use Rattle.theory.specs.Telescopes.{weaken_by}
use Rattle.theory.specs.Families.{Argument, Plain, Recursive, Family, family_head, argument_type, IsPositiveArgument}
use Rattle.core_sig.specs.FamilyShapes.{kind_of}
use Rattle.generators.specs.acyclic_gen.Statements.{is_direct}

-- a recursive argument of a family without indices has no targets
abbrev pub HasNoTargets : Argument → Type 0
HasNoTargets (Plain type level) = Unit {0}
HasNoTargets (Recursive inner targets level) = targets ≡ []

-- after `at` arguments, one is direct exactly where its type is the family at its parameters
abbrev pub DirectAtTheFamily : Type 0
DirectAtTheFamily =
    (n : ℕ) (f : Family) (at : ℕ) (a : Argument) → IsPositiveArgument n a → HasNoTargets a
    → (is_direct (kind_of a) ≡ true) ↔ (argument_type Var (weaken_by at (family_head n f)) a ≡ weaken_by at (family_head n f))
