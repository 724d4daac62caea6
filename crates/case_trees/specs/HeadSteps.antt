-- The head form of a term by its steps.
use Rattle.std.specs.Prelude.{◌≡◌, ℕ, true, None, Some}
use Rattle.theory.specs.Terms.{Term}
use Rattle.theory.specs.Signatures.{Signature}
use Rattle.kernel_reduce.specs.Steps.{step_of}
use Rattle.unification.specs.Built.{Built, built_of}

-- head steps from a term to another one
pub data Reaches (S : Signature) : Term → Term → Type 0 where
  here : (t : Term) → Reaches S t t
  more : (t u w : Term) → step_of S true t ≡ Some u → Reaches S u w → Reaches S t w

pub record HeadForm (S : Signature) (t w : Term) : Type 0 where
  pub reaches : Reaches S t w
  pub rests : step_of S true w ≡ None

-- The head form of t is constructor `number` of family n with all its arguments.
pub record HasConstructor (S : Signature) (n number : ℕ) (t : Term) : Type 0 where
  pub form : Term
  pub head : HeadForm S t form
  pub built : Built
  pub found : built_of S form ≡ Some built
  pub family : built.n ≡ n
  pub constructor : built.number ≡ number
