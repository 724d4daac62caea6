-- The invariants of places: their terms are scoped, and their contexts have so few variables that their numbers fit 32 bits.
use Rattle.std.specs.Prelude.{◌≤◌, ℕ, ◌+◌, nat_le, Bool, true, ◌&&◌, List, [], ◌∷◌, length, All}
use Rattle.theory.specs.Terms.{Term, free_of}
use Rattle.theory.specs.Telescopes.{Telescope}
use Rattle.theory.specs.Signatures.{Signature}
use Rattle.theory.specs.SignatureScopes.{IsScoped, IsScopedTelescope}
use Rattle.core_sig.specs.ScopeTests.{has_entries}
use Rattle.problems.specs.Conditions.{most_levels}
use Rattle.clause_reports.specs.ProofWalks.{Place, Proof, Ends, Splits, Proofs, nil, cons}

pub record IsScopedPlace (S : Signature) (p : Place) : Type 0 where
  pub context : IsScopedTelescope S 0 p.context
  pub type : IsScoped S (length p.context) p.type
  pub left : IsScoped S (length p.context) p.left
  pub right : IsScoped S (length p.context) p.right
  pub terms : All (IsScoped S (length p.context)) p.terms
  pub values : All (IsScoped S (length p.context)) p.values

pub record IsKeptPlace (S : Signature) (p : Place) : Type 0 where
  pub scoped : IsScopedPlace S p
  pub few : length p.context ≤ most_levels

-- ---- tests

abbrev pub is_scoped : Signature → (n : ℕ) → Term → Bool
is_scoped S n t = nat_le (free_of t) n && has_entries S t

abbrev pub is_scoped_telescope : Signature → (n : ℕ) → Telescope → Bool
is_scoped_telescope S n [] = true
is_scoped_telescope S n (a ∷ tele) = is_scoped S n a && is_scoped_telescope S (n + 1) tele

abbrev pub are_scoped : Signature → (n : ℕ) → List Term → Bool
are_scoped S n [] = true
are_scoped S n (t ∷ terms) = is_scoped S n t && are_scoped S n terms

-- in a context of n variables
abbrev pub is_scoped_over : Signature → (n : ℕ) → Place → Bool
is_scoped_over S n p =
    is_scoped S n p.type && (is_scoped S n p.left && (is_scoped S n p.right && (are_scoped S n p.terms && are_scoped S n p.values)))

abbrev pub is_scoped_place : Signature → Place → Bool
is_scoped_place S p = is_scoped_telescope S 0 p.context && is_scoped_over S (length p.context) p

-- ---- proofs

abbrev mutual
  -- all places of a proof are kept
  pub IsKeptProof : Signature → Proof → Type 0
  IsKeptProof S (Ends clause p) = IsKeptPlace S p
  IsKeptProof S (Splits p x type runs proofs) = IsKeptPlace S p × AreKeptProofs S proofs

  pub AreKeptProofs : Signature → Proofs → Type 0
  AreKeptProofs S nil = Unit {0}
  AreKeptProofs S (cons proof proofs) = IsKeptProof S proof × AreKeptProofs S proofs

-- the places of leaves
abbrev pub AreKeptLeaves : Signature → List (ℕ × Place) → Type 0
AreKeptLeaves S [] = Unit {0}
AreKeptLeaves S (leaf ∷ leaves) = IsKeptPlace S leaf.1 × AreKeptLeaves S leaves
