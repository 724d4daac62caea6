-- Conditions on a context, and on the family of a variable's type there.
use Rattle.std.specs.Prelude.{◌≡◌, ◌≤◌, ℕ, ◌+◌, Some, List, [], ◌∷◌, length, take, drop, slice_get}
use Rattle.theory.specs.Terms.{Term}
use Rattle.theory.specs.Spines.{spine_of}
use Rattle.theory.specs.Signatures.{Signature}
use Rattle.theory.specs.SignatureScopes.{IsScopedTelescope}
use Rattle.theory.specs.Telescopes.{Telescope}
use Rattle.core_terms.specs.Meanings.{tele_of}
use Rattle.core_sig.specs.Kinds.{HasKinds}
use Rattle.core_sig.specs.Meanings.{family_of}
use Rattle.core_sig.specs.declared.family.Constructor.{Constructor}
use Rattle.core_sig.specs.declared.family.Family.{Family}
use Rattle.kernel_reduce.specs.Entries.{family_at}
use Rattle.problems.specs.Conditions.{AreGiven, most_levels}
use Rattle.problems.specs.declared.members.Member.{Member}

-- a context that a constructor's arguments follow has at most so many variables
abbrev pub most_params : ℕ
most_params = 2147390000

-- a scoped context of so few variables that their numbers fit 32 bits
pub record IsContext (S : Signature) (context : Telescope) : Type 0 where
  pub scoped : IsScopedTelescope S 0 context
  pub few : length context ≤ most_levels

-- a family of the signature at all its parameters and indices, which are over n variables
pub record IsMember (S : Signature) (n : ℕ) (m : Member) : Type 0 where
  pub there : family_at S m.number ≡ Some (family_of m.family.now)
  pub kinds : HasKinds m.number m.family.now
  pub parameters : AreGiven S n (tele_of m.params)
  pub indices : AreGiven S n (tele_of m.indices)
  pub parameter_count : length m.params ≡ length m.family.now.params
  pub index_count : length m.indices ≡ length m.family.now.indices

-- the family f with the arguments of a term, which are all its parameters and indices
pub record IsSplitAs (n : ℕ) (f : Family) (t : Term) (m : Member) : Type 0 where
  pub number : m.number ≡ n
  pub family : m.family.now ≡ f
  pub parameters : tele_of m.params ≡ take (length f.params) (spine_of t)
  pub indices : tele_of m.indices ≡ drop (length f.params) (spine_of t)
  pub count : length (spine_of t) ≡ length f.params + length f.indices

-- the constructors are those of the family from this number on
abbrev pub AreFrom : (m : Member) → (number : ℕ) → List Constructor → Type 0
AreFrom m number [] = Unit {0}
AreFrom m number (c ∷ constructors) =
    (slice_get m.family.now.cons number ≡ Some c) × AreFrom m (number + 1) constructors
