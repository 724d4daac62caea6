-- How `lift` and `subst` change the height of a term.
use Rattle.std.proofs.Common.{ℕ, ◌+◌, ◌≤◌, max, refl, ap, ap₂, inl, inr, arith}
use Rattle.theory.specs.Terms.{Term, lift, subst, subst_var, height}
use Rattle.theory.specs.Terms.Term.{Var, Pi, Lam, App, Let}
use Rattle.theory.specs.TermLaws.{HeightOfLift, HeightOfSubst}
use Rattle.theory.proofs.Shifts.{compare, subst_var-below, subst_var-at, subst_var-above}

-- a lift keeps the height
pub height-lift : HeightOfLift
height-lift (Pi a b) by from = ap₂ (λ x y. 1 + max x y) (height-lift a by from) (height-lift b by (from + 1))
height-lift (Lam a b) by from = ap₂ (λ x y. 1 + max x y) (height-lift a by from) (height-lift b by (from + 1))
height-lift (App f a) by from = ap₂ (λ x y. 1 + max x y) (height-lift f by from) (height-lift a by from)
height-lift (Let a t b) by from =
    ap₂ (λ x y. 1 + max x y) (height-lift a by from)
    (ap₂ max (height-lift t by from) (height-lift b by (from + 1)))
height-lift _ by from = refl

-- a term has a height
pub height-positive : (t : Term) → 1 ≤ height t
height-positive (Pi a b) = omega arith
height-positive (Lam a b) = omega arith
height-positive (App f a) = omega arith
height-positive (Let a t b) = omega arith
height-positive _ = omega arith

-- a substitution loses no height
pub height-subst-least : (t : Term) (at : ℕ) (u : Term) → height t ≤ height (subst t at u)
height-subst-least (Var n) at u = height-positive (subst_var n at u)
height-subst-least (Pi a b) at u =
    omega (arith, height-subst-least a at u, height-subst-least b (at + 1) (lift u 1 0))
height-subst-least (Lam a b) at u =
    omega (arith, height-subst-least a at u, height-subst-least b (at + 1) (lift u 1 0))
height-subst-least (App f a) at u = omega (arith, height-subst-least f at u, height-subst-least a at u)
height-subst-least (Let a t b) at u =
    omega
    (arith, height-subst-least a at u, height-subst-least t at u, height-subst-least b (at + 1) (lift u 1 0))
height-subst-least _ at u = omega arith

height-subst_var : (n at : ℕ) (u : Term) → height (subst_var n at u) ≤ height u
height-subst_var n at u = elim (compare n at) [
  | inl lt ↦ omega (arith, ap height (subst_var-below n at u lt), height-positive u)
  | inr (inl eq) ↦ omega (arith, ap height (subst_var-at n at u eq))
  | inr (inr gt) ↦ omega (arith, ap height (subst_var-above n at u gt), height-positive u)
]

-- and gains at most what its term has above a leaf
pub height-subst-most : (t : Term) (at : ℕ) (u : Term) → height (subst t at u) + 1 ≤ height t + height u
height-subst-most (Var n) at u = omega (arith, height-subst_var n at u)
height-subst-most (Pi a b) at u =
    omega (arith, height-subst-most a at u, height-subst-most b (at + 1) (lift u 1 0), height-lift u 1 0)
height-subst-most (Lam a b) at u =
    omega (arith, height-subst-most a at u, height-subst-most b (at + 1) (lift u 1 0), height-lift u 1 0)
height-subst-most (App f a) at u = omega (arith, height-subst-most f at u, height-subst-most a at u)
height-subst-most (Let a t b) at u =
    omega (
      arith,
      height-subst-most a at u,
      height-subst-most t at u,
      height-subst-most b (at + 1) (lift u 1 0),
      height-lift u 1 0,
    )
height-subst-most _ at u = omega (arith, height-positive u)

-- both bounds
pub height-subst : HeightOfSubst
height-subst t at u = (height-subst-least t at u, height-subst-most t at u)
