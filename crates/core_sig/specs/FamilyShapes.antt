-- The shape of a family of the theory: each recursive argument with its whole type.
use Rattle.std.specs.Prelude.{ℕ, ◌+◌, List, [], ◌∷◌, map, length}
use Rattle.theory.specs.Terms.{Var}
use Rattle.theory.specs.Telescopes.{weaken_by}
use Rattle.theory.specs.Families.{Argument, Plain, Recursive, Constructor, Family, level_of, family_head, argument_type}
use Rattle.core_sig.specs.Shapes.{ArgumentShape, ConstructorShape, Shape}
use Rattle.core_sig.specs.declared.family.ArgKind.{ArgKind}
use Rattle.core_sig.specs.declared.family.ArgKind.TheVariants.{Plain as PlainKind, Recursive as RecursiveKind}

abbrev pub kind_of : Argument → ArgKind
kind_of (Plain type level) = PlainKind
kind_of (Recursive inner targets level) = RecursiveKind (length inner)

-- the shapes of arguments after `at` others, for family number n
abbrev pub argument_shapes : (n : ℕ) (f : Family) (at : ℕ) → List Argument → List ArgumentShape
argument_shapes n f at [] = []
argument_shapes n f at (a ∷ arguments) =
    record { type = argument_type Var (weaken_by at (family_head n f)) a; level = level_of a; kind = kind_of a }
    ∷ argument_shapes n f (at + 1) arguments

abbrev pub constructor_shape : (n : ℕ) (f : Family) → Constructor → ConstructorShape
constructor_shape n f c = record { arguments = argument_shapes n f 0 c.arguments; targets = c.targets }

-- the shape of family number n
abbrev pub family_shape : ℕ → Family → Shape
family_shape n f = record {
  parameters = f.parameters;
  indices = map (λ i. record { type = i.0; level = i.1; kind = PlainKind }) f.indices;
  level = f.level;
  constructors = map (constructor_shape n f) f.constructors;
}
