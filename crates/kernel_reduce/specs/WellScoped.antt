-- The terms of calls: in a context, over a signature. Each number in them stands for something, and the variables are few enough for
-- numbers of 32 bits.
use Rattle.std.specs.Prelude.{ℕ, ◌<◌, List, [], ◌∷◌, length}
use Rattle.theory.specs.Terms.{Term}
use Rattle.theory.specs.Telescopes.{Telescope}
use Rattle.theory.specs.Signatures.{Signature}
use Rattle.theory.specs.SignatureScopes.{IsScoped, IsScopedSignature, IsScopedTelescope}
use Rattle.core_terms.specs.Bounds.{context_limit}
use Rattle.kernel_reduce.specs.Reduction.{most_variables}

-- each of the terms is scoped over n variables
abbrev pub AreScoped : Signature → ℕ → List Term → Type 0
AreScoped S n [] = Unit {0}
AreScoped S n (t ∷ terms) = IsScoped S n t × AreScoped S n terms

-- the terms are scoped in the context, which lists its types from the outermost on
pub record AreWellScoped (S : Signature) (types : Telescope) (ts : List Term) : Type 0 where
  pub signature : IsScopedSignature S
  pub context : IsScopedTelescope S 0 types
  pub few : length types < context_limit
  pub terms : AreScoped S (length types) ts

-- Reduction and comparison need no context, and only a bound on the number of variables. Terms that are well scoped in a context meet it.
pub record CanReduce (S : Signature) (ts : List Term) : Type 0 where
  pub signature : IsScopedSignature S
  pub terms : AreScoped S most_variables ts
