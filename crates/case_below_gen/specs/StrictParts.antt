-- Strict parts of a term, up to syntactic equality: where a structurally recursive function may call itself.
use Rattle.std.specs.Prelude.{◌≡◌, ℕ, ◌+◌, List, length, option_map, Some, slice_get}
use Rattle.theory.specs.Terms.{Term, Con}
use Rattle.theory.specs.Spines.{head_of, spine_of}
use Rattle.theory.specs.Telescopes.{applied}
use Rattle.theory.specs.Families.{Constructor, Family}
use Rattle.core_sig.specs.FamilyShapes.{kind_of}
use Rattle.core_sig.specs.declared.family.ArgKind.TheVariants.{Recursive}

-- t is a constructor of family number n with all its arguments, and r is a recursive argument of it, with so many inner arguments
pub record IsRecursiveArgument (n : ℕ) (f : Family) (t r : Term) (count : ℕ) : Type 0 where
  pub number : ℕ
  pub constructor : Constructor
  pub at : ℕ
  pub head : head_of t ≡ Con n number
  pub known : slice_get f.constructors number ≡ Some constructor
  pub whole : length (spine_of t) ≡ length f.parameters + length constructor.arguments
  pub kind : option_map kind_of (slice_get constructor.arguments at) ≡ Some (Recursive count)
  pub argument : slice_get (spine_of t) (length f.parameters + at) ≡ Some r

-- The strict parts of a term of family number n: each recursive argument at as many arguments as it has inner ones, and, where
-- it has none, its own strict parts.
pub data IsStrictPart (n : ℕ) (f : Family) (part : Term) : Term → Type 0 where
  itself : {t r : Term} (inner : List Term) → IsRecursiveArgument n f t r (length inner) → part ≡ applied r inner → IsStrictPart n f part t
  inside : {t r : Term} → IsRecursiveArgument n f t r 0 → IsStrictPart n f part r → IsStrictPart n f part t
