-- Resolved terms, families and clauses are scoped, as calls on them require.
use Rattle.std.specs.Prelude.{◌≡◌, ℕ, ◌+◌, ◌≤◌, ◌<◌, length, Some, slice_get}
use Rattle.std.specs.List.{All}
use Rattle.theory.specs.Terms.{Term, height}
use Rattle.theory.specs.Families.{Family, Constructor}
use Rattle.theory.specs.Signatures.{Signature, IsEntryAt, FamilyOf}
use Rattle.theory.specs.SignatureScopes.{IsScoped, IsScopedTelescope, IsConstantNumber}
use Rattle.core_terms.specs.Bounds.{most_height}
use Rattle.core_terms.specs.Patterns.{Pat, Bind, Wild, Dot, Con, Absurd, Pats, nil, cons}
use Rattle.core_terms.specs.Clauses as clause
use Rattle.core_sig.specs.Raw.{RawFamily, RawMember, MutualRaw}
use Rattle.resolve.specs.Functions.{Function, product_count}

-- a term that is scoped over n variables and at most 2,000 high
pub record IsResolved (S : Signature) (n : ℕ) (t : Term) : Type 0 where
  pub scoped : IsScoped S n t
  pub low : height t ≤ most_height

-- A raw family for the end of S: its constructors are scoped over the signature T, which has the family itself too.
pub record IsResolvedFamily (S T : Signature) (raw : RawFamily) : Type 0 where
  pub parameters : IsScopedTelescope S 0 raw.parameters
  pub low : All (λ t. height t ≤ most_height) raw.parameters
  pub type : IsResolved S (length raw.parameters) raw.type
  pub constructors : All (λ c. IsResolved T (length raw.parameters) c.type) raw.constructors

-- T has a constant for each member behind the entries of S
abbrev pub HasMemberConstants : Signature → Signature → MutualRaw → Type 0
HasMemberConstants S T raw = (k : ℕ) → k < length raw.members → IsConstantNumber T (length S.entries + k)

-- a member for the end of S, behind p parameters: its constructors are scoped over T
pub record IsResolvedMember (S T : Signature) (p : ℕ) (m : RawMember) : Type 0 where
  pub type : IsResolved S p m.type
  pub constructors : All (λ c. IsResolved T p c.type) m.constructors

-- Families that refer to each other for the end of S: their constructors are scoped over the signature T, which has the members' constants
-- too.
pub record IsResolvedMutual (S T : Signature) (raw : MutualRaw) : Type 0 where
  pub parameters : IsScopedTelescope S 0 raw.parameters
  pub low : All (λ t. height t ≤ most_height) raw.parameters
  pub members : All (IsResolvedMember S T (length raw.parameters)) raw.members

abbrev pub count : Pats → ℕ
count nil = 0
count (cons p ps) = 1 + count ps

-- how many variables patterns bind
abbrev mutual
  pub binds : Pat → ℕ
  binds Bind = 1
  binds Wild = 0
  binds (Dot t) = 0
  binds (Con f c args) = binds_all args
  binds Absurd = 0

  pub binds_all : Pats → ℕ
  binds_all nil = 0
  binds_all (cons p ps) = binds p + binds_all ps

-- constructor c of entry f has n arguments
abbrev pub HasArguments : Signature → ℕ → ℕ → ℕ → Type 0
HasArguments S f c n =
    (family : Family) × (constructor : Constructor) × IsEntryAt S f (FamilyOf family) × (slice_get family.constructors c ≡ Some constructor) × (length constructor.arguments ≡ n)

-- Patterns of a clause with n variables: forced terms are resolved over these, and each constructor has all its arguments.
abbrev mutual
  pub IsPattern : Signature → ℕ → Pat → Type 0
  IsPattern S n Bind = Unit {0}
  IsPattern S n Wild = Unit {0}
  IsPattern S n (Dot t) = IsResolved S n t
  IsPattern S n (Con f c args) = HasArguments S f c (count args) × ArePatterns S n args
  IsPattern S n Absurd = Unit {0}

  pub ArePatterns : Signature → ℕ → Pats → Type 0
  ArePatterns S n nil = Unit {0}
  ArePatterns S n (cons p ps) = IsPattern S n p × ArePatterns S n ps

-- Clauses with k patterns. Their terms are over the variables that their own patterns bind, and the clauses of a `with`
-- have one pattern more.
abbrev mutual
  pub IsClause : Signature → ℕ → clause.Clause → Type 0
  IsClause S k (clause.Is pats n right) = (count pats ≡ k) × (binds_all pats ≡ n) × ArePatterns S n pats × IsRight S k n right

  pub IsRight : Signature → ℕ → ℕ → clause.Right → Type 0
  IsRight S k n (clause.Side t) = IsResolved S n t
  IsRight S k n (clause.With t cs) = IsResolved S n t × AreClauses S (k + 1) cs
  IsRight S k n clause.Absurd = Unit {0}

  pub AreClauses : Signature → ℕ → clause.Clauses → Type 0
  AreClauses S k clause.nil = Unit {0}
  AreClauses S k (clause.cons c cs) = IsClause S k c × AreClauses S k cs

-- A function for the end of S: its clauses are over the signature T, which has the function's constant too.
pub record IsResolvedFunction (S T : Signature) (f : Function) : Type 0 where
  pub type : IsResolved S 0 f.type
  pub arity : f.arity ≤ product_count f.type
  pub clauses : AreClauses T f.arity f.clauses
