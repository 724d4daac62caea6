-- Where walks and trees begin.
use Rattle.std.proofs.Common.{◌≡◌, ℕ, subst, List, length, All, arith}
use Rattle.theory.specs.Terms.{Term}
use Rattle.theory.specs.Telescopes.{Telescope}
use Rattle.theory.specs.Signatures.{Signature}
use Rattle.theory.specs.SignatureScopes.{IsScoped, IsScopedTelescope}
use Rattle.unification.specs.ScopedStates.{IsReady}
use Rattle.unification.proofs.ScopedRecords.{variables-scoped}
use Rattle.case_trees.specs.Laws.{IsGiven}

-- a context of n types whose variables stand for themselves
pub given : (S : Signature) (context : Telescope) (goal : Term) (terms : List Term) (n : ℕ) → n ≡ length context → IsReady S
    → IsScopedTelescope S 0 context → IsScoped S n goal → All (IsScoped S n) terms → IsGiven S context goal terms
given S context goal terms n same isReady types there columns = record {
  ready = isReady;
  scoped = record {
    context = types;
    goal = subst (λ k. IsScoped S k goal) same there;
    substitution = variables-scoped S (length context) (length context) (omega arith);
    terms = subst (λ k. All (IsScoped S k) terms) same columns;
  };
}
