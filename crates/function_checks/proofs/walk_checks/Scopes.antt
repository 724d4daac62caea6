-- The terms that are scoped where helpers are opened.
use Rattle.std.proofs.Common.{◌≡◌, ℕ, ◌+◌, ◌≤◌, [], ◌∷◌, length, IfOk, Result, Ok, Err, sym, subst as transport, arith}
use Rattle.theory.specs.Terms.{Term}
use Rattle.theory.specs.Telescopes.{Telescope, products}
use Rattle.theory.specs.Signatures.{Signature}
use Rattle.theory.specs.SignatureScopes.{IsScoped, IsScopedSignature, IsScopedTelescope}
use Rattle.theory.proofs.ScopedTerms.{pi-scoped, scoped_over_more}
use Rattle.kernel_reduce.specs.WellScoped.{AreWellScoped}
use Rattle.with_abstraction.specs.Abstractions.{Abstracted}
use Rattle.with_abstraction.specs.Laws.{IsScopedAbstraction}
use Rattle.with_abstraction.specs.Meanings.{abstracted_of}
use Rattle.function_checks.specs.declared.function_refusals.refusal.FunctionRefusal.{FunctionRefusal}
use Rattle.function_checks.specs.declared.walk_checks.parts.Opening.{Opening}

pub products-are-scoped : (S : Signature) (n m : ℕ) (tele : Telescope) (b : Term) → IsScopedTelescope S n tele → m ≤ n + length tele → IsScoped S m b
    → IsScoped S n (products tele b)
products-are-scoped S n m [] b h le k = scoped_over_more S m n b (omega arith) k
products-are-scoped S n m (a ∷ tele) b h le k = pi-scoped h.0 (products-are-scoped S (n + 1) m tele b h.1 (omega arith) k)

-- the product of a helper is closed
pub closed-product : (S : Signature) (n : ℕ) (a : Abstracted) → IsScopedSignature S → IsScopedAbstraction S n a
    → AreWellScoped S [] (products a.telescope a.goal ∷ [])
closed-product S n a signature h =
    record {
      signature = signature;
      context = tt;
      few = omega arith;
      terms = (products-are-scoped S 0 (n + 1) a.telescope a.goal h.telescope (omega (arith, h.types)) h.goal, tt);
    }

-- a helper whose abstraction is scoped, once it is opened
pub opened-scoped : (S : Signature) (n : ℕ) (a : Abstracted) (r : Result Opening FunctionRefusal)
    → IfOk r (λ (o : Opening). abstracted_of o.abstraction ≡ a) → IsScopedAbstraction S n a
    → IfOk r (λ (o : Opening). IsScopedAbstraction S n (abstracted_of o.abstraction))
opened-scoped S n a (Ok o) e h = transport (IsScopedAbstraction S n) (sym e) h
opened-scoped S n a (Err e) same h = tt
