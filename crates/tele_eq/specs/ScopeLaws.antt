-- Scoping: terms that are made from scoped ones are scoped, over a signature that has the identity families of the prelude.
use Rattle.std.specs.Prelude.{ℕ, ◌+◌, ◌<◌, List, length, map}
use Rattle.std.specs.List.{All}
use Rattle.theory.specs.Terms.{Term, top}
use Rattle.theory.specs.Signatures.{Signature, HasIdentity}
use Rattle.theory.specs.SignatureScopes.{IsScoped, IsScopedTelescope}
use Rattle.tele_eq.specs.Items.{Item}
use Rattle.tele_eq.specs.TelescopicEquality.{equations, transport, elimination, reflexivities}
use Rattle.tele_eq.specs.Congruences.{congruences}

-- the signature has all identity families, as the prelude has them
abbrev pub HasAllIdentities : Signature → Type 0
HasAllIdentities S = (i : ℕ) → i < top → HasIdentity S i

-- a telescope after n variables, with levels that types have
pub record AreScopedItems (S : Signature) (n : ℕ) (X : List Item) : Type 0 where
  pub types : IsScopedTelescope S n (map (λ item. item.type) X)
  pub levels : All (λ item. item.level < top) X

abbrev pub ScopedEquations : Type 0
ScopedEquations =
    (S : Signature) (n : ℕ) (X : List Item) (left right : List Term) → HasAllIdentities S → AreScopedItems S n X →
    All (IsScoped S n) left → All (IsScoped S n) right → IsScopedTelescope S n (equations X left right)

abbrev pub ScopedReflexivities : Type 0
ScopedReflexivities =
    (S : Signature) (n : ℕ) (X : List Item) (terms : List Term) → HasAllIdentities S → AreScopedItems S n X →
    All (IsScoped S n) terms → All (IsScoped S n) (reflexivities X terms)

abbrev pub ScopedTransport : Type 0
ScopedTransport =
    (S : Signature) (n : ℕ) (X : List Item) (j : ℕ) (left right eqs : List Term) → HasAllIdentities S → AreScopedItems S n X →
    All (IsScoped S n) left → All (IsScoped S n) right → All (IsScoped S n) eqs → IsScoped S n (transport X j left right eqs)

abbrev pub ScopedCongruences : Type 0
ScopedCongruences =
    (S : Signature) (n : ℕ) (X Y : List Item) (f left right eqs : List Term) → HasAllIdentities S → AreScopedItems S n X →
    AreScopedItems S n Y → All (IsScoped S (n + length X)) f → All (IsScoped S n) left → All (IsScoped S n) right →
    All (IsScoped S n) eqs → All (IsScoped S n) (congruences X Y f left right eqs)

abbrev pub ScopedElimination : Type 0
ScopedElimination =
    (S : Signature) (n : ℕ) (X : List Item) (m : ℕ) (head base : Term) (left right eqs : List Term) → HasAllIdentities S →
    AreScopedItems S n X → IsScoped S n head → IsScoped S n base → All (IsScoped S n) left → All (IsScoped S n) right →
    All (IsScoped S n) eqs → IsScoped S n (elimination X m head base left right eqs)
