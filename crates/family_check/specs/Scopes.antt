-- The conditions of entering on numbers: each stands for something, and no entry is provisional.
use Rattle.std.specs.Prelude.{ℕ, List, [], length, All}
use Rattle.theory.specs.Terms.{Term, Const}
use Rattle.theory.specs.Prelude.{prelude}
use Rattle.theory.specs.Signatures.{FamilyOf, Definition, Signature, IsEntryAt, IsPrefix}
use Rattle.theory.specs.WellFormed.{pushed}
use Rattle.theory.specs.SignatureScopes.{IsScoped, IsScopedTelescope, IsScopedSignature}
use Rattle.core_sig.specs.Raw.{RawFamily}
use Rattle.kernel_check.specs.Laws.{IsScopedDenial}
use Rattle.family_check.specs.Outcomes.{Site, OfConstructor, FamilyStop, Denied}
use Rattle.family_check.specs.Families.{family_without}

-- 2 ^ 31 - 2000: with fewer parameters there is room for the variables of any type that the checker takes
abbrev pub parameter_limit : ℕ
parameter_limit = 2147481648

-- each entry is scoped over those before it, and each definition has a body
pub record IsSettled (S : Signature) : Type 0 where
  pub scoped : IsScopedSignature S
  pub bodies : (n : ℕ) (name : List ℕ) (type : Term) → ¬ IsEntryAt S n (Definition name type (Const n))

-- the signature begins with the prelude
abbrev pub HasPrelude : Signature → Type 0
HasPrelude S = IsPrefix (prelude S.has_k) S

-- the signature that constructors as declared are read over: it has the family at its end, without constructors
abbrev pub with_raw : Signature → RawFamily → Signature
with_raw S raw = pushed S (FamilyOf (family_without raw [] 0))

-- a family as declared
pub record IsScopedRaw (S : Signature) (raw : RawFamily) : Type 0 where
  pub parameters : IsScopedTelescope S 0 raw.parameters
  pub type : IsScoped S (length raw.parameters) raw.type
  pub constructors : All (λ c. IsScoped (with_raw S raw) (length raw.parameters) c.type) raw.constructors

-- the signature that a denial of a part is read over
abbrev pub site_signature : Signature → RawFamily → Site → Signature
site_signature S raw (OfConstructor number) = with_raw S raw
site_signature S raw _ = S

-- denials are scoped over the signature of their part
abbrev pub IsScopedStop : (Site → Signature) → FamilyStop → Type 0
IsScopedStop over (Denied site denial) = IsScopedDenial (over site) denial
IsScopedStop over _ = Unit {0}
