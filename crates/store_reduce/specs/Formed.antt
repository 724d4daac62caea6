-- The terms that reduction and comparison form.
use Rattle.std.specs.Prelude.{◌≡◌, ◌≤◌, ◌+◌, ◌⊎◌, ℕ, Bool, Some, None, List, Ok}
use Rattle.std.specs.List.{IsAmong}
use Rattle.theory.specs.Terms.{Term, Pi, Lam, App, height}
use Rattle.theory.specs.Signatures.{Signature}
use Rattle.kernel_reduce.specs.Reduction.{answered, normal_of}
use Rattle.kernel_reduce.specs.Steps.{step_of}
use Rattle.term_pool.specs.Parts.{IsPart}

-- `x` is a part of t, or of the term to which the head step of t leads
pub record IsStepPart (S : Signature) (delta : Bool) (t x : Term) : Type 0 where
  pub whole : Term
  pub formed : (whole ≡ t) ⊎ (step_of S delta t ≡ Some whole)
  pub part : IsPart x whole

-- head steps lead from a term to another one
pub data Reaches (S : Signature) (delta : Bool) (t : Term) : Term → Type 0 where
  none : Reaches S delta t t
  more : {u v : Term} → Reaches S delta t u → step_of S delta u ≡ Some v → Reaches S delta t v

-- the head steps of t end in `u`, which is low enough so many parts below the whole
pub record EndsIn (S : Signature) (delta : Bool) (depth : ℕ) (t u : Term) : Type 0 where
  pub reached : Reaches S delta t u
  pub rests : step_of S delta u ≡ None
  pub low : depth + height u ≤ 2000

-- `x` is a part of a term to which head steps lead
pub record IsPartOnTheWay (S : Signature) (delta : Bool) (t x : Term) : Type 0 where
  pub whole : Term
  pub reached : Reaches S delta t whole
  pub part : IsPart x whole

-- `c` is one of the two children of a product, a function or an application
abbrev pub IsChild : Term → Term → Type 0
IsChild c (Pi a b) = (c ≡ a) ⊎ (c ≡ b)
IsChild c (Lam a b) = (c ≡ a) ⊎ (c ≡ b)
IsChild c (App a b) = (c ≡ a) ⊎ (c ≡ b)
IsChild c _ = ⊥

-- the given terms, the steps of terms that are formed, and the children of those that take no step
pub data IsFormed (S : Signature) (delta : Bool) (given : List Term) : Term → Type 0 where
  given : {t : Term} → IsAmong given t → IsFormed S delta given t
  step : {t u : Term} → IsFormed S delta given t → step_of S delta t ≡ Some u → IsFormed S delta given u
  child : {t u : Term} → IsFormed S delta given t → step_of S delta t ≡ None → IsChild u t → IsFormed S delta given u

-- `x` is a part of a term that is formed from the given ones
pub record IsFormedPart (S : Signature) (delta : Bool) (given : List Term) (x : Term) : Type 0 where
  pub whole : Term
  pub formed : IsFormed S delta given whole
  pub part : IsPart x whole

-- `x` is a part of the normal form of a term that is formed from the given ones
pub record IsNormalFormPart (S : Signature) (delta : Bool) (given : List Term) (x : Term) : Type 0 where
  pub whole : Term
  pub formed : IsFormed S delta given whole
  pub form : Term
  pub room : ℕ
  pub left : ℕ
  pub rest : ℕ
  pub normal : normal_of S delta room whole left ≡ answered (Ok form) rest
  pub part : IsPart x form

-- `x` is a part of a term that is formed from the given ones, or of the normal form of one
abbrev pub IsNormalPart : Signature → Bool → List Term → Term → Type 0
IsNormalPart S delta ts x = IsFormedPart S delta ts x ⊎ IsNormalFormPart S delta ts x
