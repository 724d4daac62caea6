-- Scoping in signatures: the types of symbols are closed, and steps bring no free variable in.
use Rattle.std.specs.Prelude.{ℕ, ◌+◌, ◌≤◌, List, length, ◌↔◌}
use Rattle.std.specs.List.{All}
use Rattle.theory.specs.Terms.{Term, free_of, IsClosed}
use Rattle.theory.specs.Telescopes.{Telescope, products, applied}
use Rattle.theory.specs.Families.{Argument, Constructor, Family, family_type, constructor_type}
use Rattle.theory.specs.Eliminators.{eliminator_type, iota_right}
use Rattle.theory.specs.Signatures.{Signature, FamilyOf, IsEntryAt, HasClosedBodies, axiom_k_type}
use Rattle.theory.specs.Conversion.{Step}
use Rattle.theory.specs.WellFormed.{IsTyped}
use Rattle.theory.specs.Scopes.{IsTelescopeOver, IsConstructorOver, IsClosedFamily}

-- products are scoped where their telescope is, and their end after it
abbrev pub FreeOfProducts : Type 0
FreeOfProducts =
    (tele : Telescope) (body : Term) (n : ℕ) →
    (IsTelescopeOver n tele × (free_of body ≤ n + length tele)) ↔ (free_of (products tele body) ≤ n)

-- a spine is scoped where its head and its arguments are
abbrev pub FreeOfApplied : Type 0
FreeOfApplied =
    (head : Term) (spine : List Term) (n : ℕ) →
    ((free_of head ≤ n) × All (λ a. free_of a ≤ n) spine) ↔ (free_of (applied head spine) ≤ n)

abbrev pub FamilyTypeClosed : Type 0
FamilyTypeClosed = (f : Family) → IsClosedFamily f → IsClosed (family_type f)

abbrev pub ConstructorTypeClosed : Type 0
ConstructorTypeClosed =
    (n : ℕ) (f : Family) (c : Constructor) → IsTelescopeOver 0 f.parameters → IsConstructorOver (length f.parameters) c →
    IsClosed (constructor_type n f c)

abbrev pub EliminatorTypeClosed : Type 0
EliminatorTypeClosed = (n : ℕ) (f : Family) (m : ℕ) → IsClosedFamily f → IsClosed (eliminator_type n f m)

abbrev pub AxiomKTypeClosed : Type 0
AxiomKTypeClosed = (i m : ℕ) → IsClosed (axiom_k_type i m)

-- the right side of iota has no variables but those of its terms, whatever the record
abbrev pub FreeOfIota : Type 0
FreeOfIota =
    (family level n : ℕ) (ps : List Term) (P : Term) (ms : List Term) (arguments : List Argument) (method : Term) (us : List Term) →
    All (λ t. free_of t ≤ n) ps → free_of P ≤ n → All (λ t. free_of t ≤ n) ms → free_of method ≤ n →
    All (λ t. free_of t ≤ n) us → free_of (iota_right family level ps P ms arguments method us) ≤ n

-- a step brings no free variable in
abbrev pub FreeOfStep : Type 0
FreeOfStep = (S : Signature) → HasClosedBodies S → (t u : Term) → Step S t u → free_of u ≤ free_of t

-- the records of a typed signature are scoped
abbrev pub RecordsScoped : Type 0
RecordsScoped = (S : Signature) → IsTyped S → (n : ℕ) (f : Family) → IsEntryAt S n (FamilyOf f) → IsClosedFamily f
