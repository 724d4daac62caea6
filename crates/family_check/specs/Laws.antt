-- Laws of entering: the signature stays well formed, and units are spent.
use Rattle.std.specs.Prelude.{◌≡◌, ℕ, Bool, ◌≤◌, ◌<◌, IsTrue, IfOk, IfErr, Some, List, length, map}
use Rattle.theory.specs.Terms.{Term, top}
use Rattle.theory.specs.Telescopes.{products, applied, weaken_by}
use Rattle.theory.specs.Families.{Family, family_head, family_type, constructor_type}
use Rattle.theory.specs.Prelude.{prelude}
use Rattle.theory.specs.Signatures.{FamilyOf, Signature, IsEntryAt, names_of, equality}
use Rattle.theory.specs.WellFormed.{IsWellFormed}
use Rattle.theory.specs.SignatureScopes.{IsScoped, IsConstructorNumber}
use Rattle.core_sig.specs.Offenders.{offender_in}
use Rattle.core_sig.specs.Raw.{RawFamily, raw_names}
use Rattle.family_check.specs.Scopes.{HasPrelude, IsSettled, IsScopedRaw, site_signature, IsScopedStop}
use Rattle.family_check.specs.Entering.{Entered, entered, declare_of, instance_of, axiom_k_of, define_of}
use Rattle.core_terms.specs.Telescopes.{domains_of, end_of}
use Rattle.family_check.specs.Shapes.{arguments, unless_offender, constructor_targets}

-- A well-formed signature stays well formed, whatever enters.

abbrev pub DeclareKeepsWellFormed : Type 0
DeclareKeepsWellFormed =
    (S : Signature) (raw : RawFamily) (left : ℕ) → IsWellFormed S →
    IfOk (declare_of S raw left).0 (λ e. IsWellFormed e.signature)

abbrev pub InstanceKeepsWellFormed : Type 0
InstanceKeepsWellFormed =
    (S : Signature) (n : ℕ) (f : Family) (m left : ℕ) → IsWellFormed S → IsEntryAt S n (FamilyOf f) →
    IfOk (instance_of S n f m left).0 (λ e. IsWellFormed e.signature)

abbrev pub AxiomKKeepsWellFormed : Type 0
AxiomKKeepsWellFormed =
    (S : Signature) (i m left : ℕ) → IsWellFormed S → IsTrue S.has_k → HasPrelude S →
    IfOk (axiom_k_of S i m left).0 (λ e. IsWellFormed e.signature)

abbrev pub DefineKeepsWellFormed : Type 0
DefineKeepsWellFormed =
    (S : Signature) (name : List ℕ) (type body : Term) (left : ℕ) → IsWellFormed S →
    IfOk (define_of S name type body left).0 (λ e. IsWellFormed e.signature)

-- The prelude is a signature that entries may enter, and begins with itself.
abbrev pub PreludeIsSettled : Type 0
PreludeIsSettled = (k : Bool) → IsSettled (prelude k) × HasPrelude (prelude k)

-- no call leaves more units than it had

abbrev pub DeclareSpends : Type 0
DeclareSpends = (S : Signature) (raw : RawFamily) (left : ℕ) → (declare_of S raw left).1 ≤ left

abbrev pub InstanceSpends : Type 0
InstanceSpends = (S : Signature) (n : ℕ) (f : Family) (m left : ℕ) → (instance_of S n f m left).1 ≤ left

abbrev pub AxiomKSpends : Type 0
AxiomKSpends = (S : Signature) (i m left : ℕ) → (axiom_k_of S i m left).1 ≤ left

abbrev pub DefineSpends : Type 0
DefineSpends = (S : Signature) (name : List ℕ) (type body : Term) (left : ℕ) → (define_of S name type body left).1 ≤ left

-- A settled signature stays settled if the given parts are scoped, and denials are scoped.

abbrev pub DeclareKeepsSettled : Type 0
DeclareKeepsSettled =
    (S : Signature) (raw : RawFamily) (left : ℕ) → IsSettled S → IsScopedRaw S raw →
    IfOk (declare_of S raw left).0 (λ e. IsSettled e.signature) × IfErr (declare_of S raw left).0 (IsScopedStop (site_signature S raw))

abbrev pub InstanceKeepsSettled : Type 0
InstanceKeepsSettled =
    (S : Signature) (n : ℕ) (f : Family) (m left : ℕ) → IsSettled S → IsEntryAt S n (FamilyOf f) →
    IfOk (instance_of S n f m left).0 (λ e. IsSettled e.signature) × IfErr (instance_of S n f m left).0 (IsScopedStop (λ site. S))

-- where the signature has the identity family at the level
abbrev pub AxiomKKeepsSettled : Type 0
AxiomKKeepsSettled =
    (S : Signature) (i m left : ℕ) → IsSettled S → (i < top → IsConstructorNumber S (equality i) 0) →
    IfOk (axiom_k_of S i m left).0 (λ e. IsSettled e.signature) × IfErr (axiom_k_of S i m left).0 (IsScopedStop (λ site. S))

abbrev pub DefineKeepsSettled : Type 0
DefineKeepsSettled =
    (S : Signature) (name : List ℕ) (type body : Term) (left : ℕ) → IsSettled S → IsScoped S 0 type → IsScoped S 0 body →
    IfOk (define_of S name type body left).0 (λ e. IsSettled e.signature) × IfErr (define_of S name type body left).0 (IsScopedStop (λ site. S))

-- A family enters as it is declared, without a condition: with the names, the parameters and the types that are given.
pub record IsAsDeclared (n : ℕ) (raw : RawFamily) (f : Family) : Type 0 where
  pub names : names_of (FamilyOf f) ≡ raw_names raw
  pub parameters : f.parameters ≡ raw.parameters
  pub type : family_type f ≡ products raw.parameters raw.type
  pub constructor_types : map (constructor_type n f) f.constructors ≡ map (λ c. products raw.parameters c.type) raw.constructors

abbrev pub EntersAsDeclared : Signature → RawFamily → Entered → Type 0
EntersAsDeclared S raw e = (f : Family) × (e ≡ entered S (FamilyOf f)) × IsAsDeclared (length S.entries) raw f

abbrev pub DeclareEntersGiven : Type 0
DeclareEntersGiven = (S : Signature) (raw : RawFamily) (left : ℕ) → IfOk (declare_of S raw left).0 (EntersAsDeclared S raw)

-- Where the end of a constructor's type is the family at one target for each index, what breaks positivity first in the type
-- does so in the record, by the words of `strictly_positive`.
abbrev pub SameOffender : Type 0
SameOffender =
    (n : ℕ) (f : Family) (t : Term) (name : List ℕ) (levels : List ℕ) (targets : List Term) →
    length levels ≡ length (domains_of t) →
    end_of t ≡ applied (weaken_by (length (domains_of t)) (family_head n f)) targets → length targets ≡ length f.indices →
    constructor_targets n f t
    ≡ unless_offender
    (offender_in n (arguments n f 0 (domains_of t) levels) 1
    (record { name = name; arguments = arguments n f 0 (domains_of t) levels; targets = targets }))
    (Some targets)
