-- Constructors over a signature, and variables that are below them.
use Rattle.std.specs.Prelude.{◌≡◌, ℕ, ◌≤◌, IsTrue, Some, [], length, slice_get}
use Rattle.theory.specs.Terms.{Term, Var}
use Rattle.theory.specs.Families.{Argument}
use Rattle.theory.specs.Signatures.{Signature, FamilyOf, IsEntryAt}
use Rattle.theory.specs.Conversion.{Converts}
use Rattle.unification.specs.Built.{Built, term_of, is_direct, greatest_level}

-- the family, its constructor and the number of its arguments are right
pub record IsBuilt (S : Signature) (b : Built) : Type 0 where
  pub family : IsEntryAt S b.n (FamilyOf b.family)
  pub constructor : slice_get b.family.constructors b.number ≡ Some b.constructor
  pub parameters : length b.parameters ≡ length b.family.parameters
  pub arguments : length b.arguments ≡ length b.constructor.arguments

-- t is a direct argument of a constructor of family n, which has no indices and a level that acyclicity has
pub record IsArgument (S : Signature) (n : ℕ) (b : Built) (t : Term) : Type 0 where
  pub built : IsBuilt S b
  pub number : b.n ≡ n
  pub indices : b.family.indices ≡ []
  pub level : b.family.level ≤ greatest_level
  pub at : ℕ
  pub argument : Argument
  pub argument_there : slice_get b.constructor.arguments at ≡ Some argument
  pub direct : IsTrue (is_direct argument)
  pub term_there : slice_get b.arguments at ≡ Some t

-- variable x occurs below one or more constructors of family n, along direct arguments, up to conversion
pub data HasBelow (S : Signature) (n x : ℕ) : Term → Type 0 where
  there : (t u : Term) (b : Built) → Converts S t (term_of b) → IsArgument S n b u → Converts S u (Var x) → HasBelow S n x t
  further : (t u : Term) (b : Built) → Converts S t (term_of b) → IsArgument S n b u → HasBelow S n x u → HasBelow S n x t
