-- Terms that are variables.
use Rattle.std.proofs.Common.{◌≡◌, ℕ, ◌<◌, Some, ap, subst as transport, arith}
use Rattle.theory.specs.Terms.{Term}
use Rattle.theory.specs.Terms.Term.{Var}
use Rattle.theory.specs.Signatures.{Signature}
use Rattle.theory.specs.SignatureScopes.{IsScoped}
use Rattle.theory.proofs.Lists.{some_is}
use Rattle.unification.specs.Solutions.{variable_in}

-- a variable that is scoped is one of those over which it is scoped
pub variable-below : {S : Signature} {n x : ℕ} → IsScoped S n (Var x) → x < n
variable-below h = omega (arith, h.variables)

-- a term that is found as a variable is that variable
pub variable-is : (t : Term) (x : ℕ) → variable_in t ≡ Some x → t ≡ Var x
variable-is (Var y) x e = ap Var (some_is e)
variable-is _ x e = absurd (grind arith)

-- it is one of those over which the term is scoped
pub variable-low : (S : Signature) (n : ℕ) (t : Term) (x : ℕ) → variable_in t ≡ Some x → IsScoped S n t → x < n
variable-low S n t x e h = variable-below (transport (IsScoped S n) (variable-is t x e) h)
