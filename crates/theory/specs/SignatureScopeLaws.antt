-- Scoped terms stay scoped over more variables and entries, and under substitutions; the terms of a scoped signature are scoped.
use Rattle.std.specs.Prelude.{◌≡◌, Some, ℕ, ◌+◌, ◌≤◌, ◌<◌, ◌↔◌, List, [], slice_get, All}
use Rattle.theory.specs.Terms.{Term, lift, subst}
use Rattle.theory.specs.Substitutions.{ren, inst}
use Rattle.theory.specs.Telescopes.{Context, Telescope, context_behind}
use Rattle.theory.specs.Families.{Family, Constructor}
use Rattle.theory.specs.Eliminators.{iota_right}
use Rattle.theory.specs.Signatures.{Signature, FamilyOf, Definition, IsEntryAt, IsPrefix, TypeOf}
use Rattle.theory.specs.WellFormed.{first_entries}
use Rattle.theory.specs.SignatureScopes.{IsScoped, IsScopedTelescope, IsScopedContext, IsScopedSignature}

-- over more variables
abbrev pub ScopedOverMore : Type 0
ScopedOverMore = (S : Signature) (n m : ℕ) (t : Term) → n ≤ m → IsScoped S n t → IsScoped S m t

-- a term that is scoped over the first entries of a signature is scoped over all of them
abbrev pub ScopedOverAll : Type 0
ScopedOverAll = (S : Signature) (count n : ℕ) (t : Term) → IsScoped (first_entries S count) n t → IsScoped S n t

-- and a term that is scoped over a signature is scoped over a longer one

abbrev pub ScopedOverLonger : Type 0
ScopedOverLonger = (S T : Signature) → IsPrefix S T → (n : ℕ) (t : Term) → IsScoped S n t → IsScoped T n t

abbrev pub ScopedTelescopesOverLonger : Type 0
ScopedTelescopesOverLonger =
    (S T : Signature) → IsPrefix S T → (n : ℕ) (tele : Telescope) → IsScopedTelescope S n tele → IsScopedTelescope T n tele

abbrev pub ScopedContextsOverLonger : Type 0
ScopedContextsOverLonger = (S T : Signature) → IsPrefix S T → (G : Context) → IsScopedContext S G → IsScopedContext T G

abbrev pub RenScoped : Type 0
RenScoped =
    (S : Signature) (r : ℕ → ℕ) (n m : ℕ) (t : Term) → ((v : ℕ) → v < n → r v < m) → IsScoped S n t →
    IsScoped S m (ren r t)

abbrev pub InstScoped : Type 0
InstScoped =
    (S : Signature) (s : ℕ → Term) (n m : ℕ) (t : Term) → ((v : ℕ) → v < n → IsScoped S m (s v)) → IsScoped S n t →
    IsScoped S m (inst s t)

abbrev pub LiftScoped : Type 0
LiftScoped = (S : Signature) (n : ℕ) (t : Term) (by from : ℕ) → IsScoped S n t → IsScoped S (n + by) (lift t by from)

abbrev pub SubstScoped : Type 0
SubstScoped =
    (S : Signature) (n at : ℕ) (t u : Term) → at ≤ n → IsScoped S (n + 1) t → IsScoped S n u → IsScoped S n (subst t at u)

-- the types of constants, families, constructors, eliminators and K
abbrev pub TypesScoped : Type 0
TypesScoped = (S : Signature) (t a : Term) → IsScopedSignature S → TypeOf S t a → IsScoped S 0 a

-- the bodies of constants
abbrev pub BodiesScoped : Type 0
BodiesScoped =
    (S : Signature) (n : ℕ) (name : List ℕ) (type body : Term) → IsScopedSignature S →
    IsEntryAt S n (Definition name type body) → IsScoped S 0 body

-- the right side of iota, where the arguments of the redex are scoped
abbrev pub IotaScoped : Type 0
IotaScoped =
    (S : Signature) (k n m number : ℕ) (f : Family) (c : Constructor) (ps : List Term) (P : Term) (ms : List Term) (method : Term) (us : List Term) →
    IsScopedSignature S → IsEntryAt S n (FamilyOf f) → slice_get f.constructors number ≡ Some c →
    All (IsScoped S k) ps → IsScoped S k P → All (IsScoped S k) ms → IsScoped S k method → All (IsScoped S k) us →
    IsScoped S k (iota_right n m ps P ms c.arguments method us)

-- the context after a telescope
abbrev pub ContextScoped : Type 0
ContextScoped = (S : Signature) (tele : Telescope) → IsScopedTelescope S 0 tele ↔ IsScopedContext S (context_behind [] tele)
