-- How `lift` and `subst` change the free variables of a term.
use Rattle.std.proofs.Common.{◌≡◌, ℕ, ◌+◌, ◌-◌, ◌<◌, ◌≤◌, ◌⊎◌, max, nat_lt, cond, inl, inr, refl, ap, ap₂, ◌∙◌, arith}
use Rattle.std.proofs.lemmas.Bool.Decides.{nat_tests}
use Rattle.theory.specs.Terms.{Term, lift, subst_var, free_of}
use Rattle.theory.specs.Terms.Term.{Var, Pi, Lam, App, Let}
use Rattle.theory.specs.TermLaws.{LiftOfScoped, SubstOfScoped, FreeOfLift, FreeOfSubst, FreeBeforeSubst}
use Rattle.theory.proofs.Instances.{ap₃}
use Rattle.theory.proofs.Shifts.{lift_var-below, lift_var-tells, subst_var-below, subst_var-at, subst_var-above, compare}

-- a lift from above the free variables
pub lift_of_scoped : LiftOfScoped
lift_of_scoped (Var n) by from h = ap Var (lift_var-below n by from (omega arith))
lift_of_scoped (Pi a b) by from h =
    ap₂ Pi (lift_of_scoped a by from (omega arith)) (lift_of_scoped b by (from + 1) (omega arith))
lift_of_scoped (Lam a b) by from h =
    ap₂ Lam (lift_of_scoped a by from (omega arith)) (lift_of_scoped b by (from + 1) (omega arith))
lift_of_scoped (App f a) by from h =
    ap₂ App (lift_of_scoped f by from (omega arith)) (lift_of_scoped a by from (omega arith))
lift_of_scoped (Let a t b) by from h =
    ap₃ Let (lift_of_scoped a by from (omega arith)) (lift_of_scoped t by from (omega arith))
    (lift_of_scoped b by (from + 1) (omega arith))
lift_of_scoped _ by from h = refl

-- a substitution above the free variables
pub subst_of_scoped : SubstOfScoped
subst_of_scoped (Var n) at u h = subst_var-below n at u (omega arith)
subst_of_scoped (Pi a b) at u h =
    ap₂ Pi (subst_of_scoped a at u (omega arith)) (subst_of_scoped b (at + 1) (lift u 1 0) (omega arith))
subst_of_scoped (Lam a b) at u h =
    ap₂ Lam (subst_of_scoped a at u (omega arith)) (subst_of_scoped b (at + 1) (lift u 1 0) (omega arith))
subst_of_scoped (App f a) at u h =
    ap₂ App (subst_of_scoped f at u (omega arith)) (subst_of_scoped a at u (omega arith))
subst_of_scoped (Let a t b) at u h =
    ap₃ Let (subst_of_scoped a at u (omega arith)) (subst_of_scoped t at u (omega arith))
    (subst_of_scoped b (at + 1) (lift u 1 0) (omega arith))
subst_of_scoped _ at u h = refl

-- a bound on free variables as a lift moves it
abbrev raised : ℕ → ℕ → ℕ → ℕ
raised n by from = cond (nat_lt from n) (n + by) n

raised-tells : (n by from : ℕ) → ((n ≤ from) × (raised n by from ≡ n)) ⊎ ((from < n) × (raised n by from ≡ n + by))
raised-tells n by from = grind (arith, nat_tests)

raised-under : (x y by from : ℕ) → max (raised x by from) (raised y by (from + 1) - 1) ≡ raised (max x (y - 1)) by from
raised-under x y by from =
    omega (arith, raised-tells x by from, raised-tells y by (from + 1), raised-tells (max x (y - 1)) by from)

raised-max : (x y by from : ℕ) → max (raised x by from) (raised y by from) ≡ raised (max x y) by from
raised-max x y by from =
    omega (arith, raised-tells x by from, raised-tells y by from, raised-tells (max x y) by from)

-- a lift moves the bound where it moves any variable
pub free_of-lift : FreeOfLift
free_of-lift (Var n) by from = omega (arith, lift_var-tells n by from, raised-tells (n + 1) by from)
free_of-lift (Pi a b) by from =
    ap₂ (λ x y. max x (y - 1)) (free_of-lift a by from) (free_of-lift b by (from + 1))
    ∙ raised-under (free_of a) (free_of b) by from
free_of-lift (Lam a b) by from =
    ap₂ (λ x y. max x (y - 1)) (free_of-lift a by from) (free_of-lift b by (from + 1))
    ∙ raised-under (free_of a) (free_of b) by from
free_of-lift (App f a) by from =
    ap₂ max (free_of-lift f by from) (free_of-lift a by from) ∙ raised-max (free_of f) (free_of a) by from
free_of-lift (Let a t b) by from =
    ap₂ max (free_of-lift a by from)
    (ap₂ (λ x y. max x (y - 1)) (free_of-lift t by from) (free_of-lift b by (from + 1))
    ∙ raised-under (free_of t) (free_of b) by from)
    ∙ raised-max (free_of a) (max (free_of t) (free_of b - 1)) by from
free_of-lift _ by from = omega (arith, raised-tells 0 by from)

-- a lift by one under a binder
pub free_of-lift_one : (u : Term) (n : ℕ) → free_of u ≤ n → free_of (lift u 1 0) ≤ n + 1
free_of-lift_one u n h = omega (arith, free_of-lift u 1 0, raised-tells (free_of u) 1 0)

free_of-subst_var : (m at : ℕ) (u : Term) (n : ℕ) → at ≤ n → m + 1 ≤ n + 1 → free_of u ≤ n → free_of (subst_var m at u) ≤ n
free_of-subst_var m at u n low h hu = elim (compare m at) [
  | inl lt ↦ omega (arith, ap free_of (subst_var-below m at u lt))
  | inr (inl eq) ↦ omega (arith, ap free_of (subst_var-at m at u eq))
  | inr (inr gt) ↦ omega (arith, ap free_of (subst_var-above m at u gt))
]

-- a substitution takes a term that is scoped below n + 1 to one that is scoped below n
pub free_of-subst : FreeOfSubst
free_of-subst (Var m) at u n low h hu = free_of-subst_var m at u n low h hu
free_of-subst (Pi a b) at u n low h hu =
    omega (
      arith,
      free_of-subst a at u n low (omega arith) hu,
      free_of-subst b (at + 1) (lift u 1 0) (n + 1) (omega arith) (omega arith) (free_of-lift_one u n hu),
    )
free_of-subst (Lam a b) at u n low h hu =
    omega (
      arith,
      free_of-subst a at u n low (omega arith) hu,
      free_of-subst b (at + 1) (lift u 1 0) (n + 1) (omega arith) (omega arith) (free_of-lift_one u n hu),
    )
free_of-subst (App f a) at u n low h hu =
    omega
    (arith, free_of-subst f at u n low (omega arith) hu, free_of-subst a at u n low (omega arith) hu)
free_of-subst (Let a t b) at u n low h hu =
    omega (
      arith,
      free_of-subst a at u n low (omega arith) hu,
      free_of-subst t at u n low (omega arith) hu,
      free_of-subst b (at + 1) (lift u 1 0) (n + 1) (omega arith) (omega arith) (free_of-lift_one u n hu),
    )
free_of-subst _ at u n low h hu = omega arith

free_before_subst-var : (m at : ℕ) (u : Term) (n : ℕ) → at ≤ n → free_of (subst_var m at u) ≤ n → m + 1 ≤ n + 1
free_before_subst-var m at u n low h = elim (compare m at) [
  | inl lt ↦ omega arith
  | inr (inl eq) ↦ omega arith
  | inr (inr gt) ↦ omega (arith, ap free_of (subst_var-above m at u gt))
]

-- only a term that is scoped below n + 1 has a substitution that is scoped below n
pub free_before_subst : FreeBeforeSubst
free_before_subst (Var m) at u n low h = free_before_subst-var m at u n low h
free_before_subst (Pi a b) at u n low h =
    omega (
      arith,
      free_before_subst a at u n low (omega arith),
      free_before_subst b (at + 1) (lift u 1 0) (n + 1) (omega arith) (omega arith),
    )
free_before_subst (Lam a b) at u n low h =
    omega (
      arith,
      free_before_subst a at u n low (omega arith),
      free_before_subst b (at + 1) (lift u 1 0) (n + 1) (omega arith) (omega arith),
    )
free_before_subst (App f a) at u n low h =
    omega (arith, free_before_subst f at u n low (omega arith), free_before_subst a at u n low (omega arith))
free_before_subst (Let a t b) at u n low h =
    omega (
      arith,
      free_before_subst a at u n low (omega arith),
      free_before_subst t at u n low (omega arith),
      free_before_subst b (at + 1) (lift u 1 0) (n + 1) (omega arith) (omega arith),
    )
free_before_subst _ at u n low h = omega arith
