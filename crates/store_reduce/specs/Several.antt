-- Several head steps at once: a function at the head of an application, whose first binders the arguments fill.
use Rattle.std.specs.Prelude.{◌≡◌, ◌+◌, ◌≤◌, ◌⊎◌, ℕ, zero, suc, Bool, Option, None, Some, IsTrue, List, length, take, drop}
use Rattle.theory.specs.Terms.{Term, Var, Lam, height}
use Rattle.theory.specs.Spines.{spine_of}
use Rattle.theory.specs.Substitutions.{fill, inst}
use Rattle.theory.specs.Telescopes.{applied}
use Rattle.theory.specs.Signatures.{Signature}
use Rattle.kernel_reduce.specs.Steps.{step_of}
use Rattle.term_pool.specs.Held.{Held}
use Rattle.store_reduce.specs.declared.several.Filling.{Filling}

-- so many head steps lead from a term to another one, and each term before the last is low enough so many parts below the whole
pub data Leads (S : Signature) (delta : Bool) (depth : ℕ) : ℕ → Term → Term → Type 0 where
  here : {t : Term} → Leads S delta depth zero t t
  on : {n : ℕ} {t u v : Term} → depth + height t ≤ 2000 → step_of S delta t ≡ Some u → Leads S delta depth n u v → Leads S delta depth (suc n) t v

-- the body of a function below so many binders, where it has that many
abbrev pub below : ℕ → Term → Option Term
below zero t = Some t
below (suc n) (Lam a b) = below n b
below (suc n) _ = None

-- the first arguments for the variables of a body, which is applied to the others
abbrev pub filled_with : ℕ → Term → List Term → Term
filled_with m b us = applied (inst (fill Var (take m us)) b) (drop m us)

module _ {I : Type 0} where
  -- The ids are live, and the body is that of the function below the binders that are filled, which are no more than the arguments. The
  -- function is the head itself, or what it steps to by delta.
  pub record IsFilling (S : Signature) (delta : Bool) (held : Held I) (head : Term) (count : ℕ) (f : Filling I) : Type 0 where
    pub live : IsTrue (held.live f.function)
    pub body_live : IsTrue (held.live f.body)
    pub body : below f.filled (held.tree f.function) ≡ Some (held.tree f.body)
    pub few : f.filled ≤ count
    pub from : ((head ≡ held.tree f.function) × (f.steps ≡ f.filled)) ⊎ ((step_of S delta head ≡ Some (held.tree f.function)) × (f.steps ≡ f.filled + 1))

  -- The steps lead from the term to the body with its first arguments, applied to the others; there are two of them at least, and units for all.
  pub record AreTaken (S : Signature) (delta : Bool) (depth : ℕ) (held : Held I) (t : Term) (left : ℕ) (f : Filling I) : Type 0 where
    pub body_live : IsTrue (held.live f.body)
    pub few : f.filled ≤ length (spine_of t)
    pub two : 2 ≤ f.steps
    pub units : f.steps ≤ left
    pub leads : Leads S delta depth f.steps t (filled_with f.filled (held.tree f.body) (spine_of t))
    pub low : height (filled_with f.filled (held.tree f.body) (spine_of t)) ≤ 2000
