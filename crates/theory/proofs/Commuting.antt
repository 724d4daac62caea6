-- The laws of `lift` and `subst` with one another, each by what both sides do to a single variable.
use Rattle.std.proofs.Common.{◌≡◌, ℕ, ◌+◌, ◌-◌, ◌<◌, ◌≤◌, inl, inr, ap, sym, ◌∙◌, arith}
use Rattle.theory.specs.Terms.{Term, lift, lift_var, subst, subst_var}
use Rattle.theory.specs.Terms.Term.{Var}
use Rattle.theory.specs.TermLaws.{LiftByNone, LiftLift, LiftMerge, LiftOfSubst, LiftOfSubstAbove, SubstOfLift, SubstCancels, SubstSubst}
use Rattle.theory.proofs.Instances.{inst-same, inst-var}
use Rattle.theory.proofs.Shifts.{lift_var-tells, subst_var-below, subst_var-at, subst_var-above, compare, lift-is_inst, lift-lift-by_var, lift-subst-by_var, subst-lift-by_var, subst-subst-by_var}

-- lifting by nothing changes nothing
pub lift_by_none : LiftByNone
lift_by_none t from =
    lift-is_inst t 0 from ∙ (inst-same t (λ n. ap Var (omega (arith, lift_var-tells n 0 from))) ∙ inst-var t)

-- two lifts commute
pub lift-lift : LiftLift
lift-lift t by from by' from' h =
    lift-lift-by_var t by from by' (from' + by)
    ∙ (inst-same t
    (λ n. ap Var
    (omega (
      arith,
      lift_var-tells n by from,
      lift_var-tells (lift_var n by from) by' (from' + by),
      lift_var-tells n by' from',
      lift_var-tells (lift_var n by' from') by from,
    )))
    ∙ sym (lift-lift-by_var t by' from' by from))

-- a second lift within the gap of the first
pub lift_merge : LiftMerge
lift_merge t by from by' from' low high =
    lift-lift-by_var t by from by' from'
    ∙ (inst-same t
    (λ n. ap Var
    (omega (
      arith,
      lift_var-tells n by from,
      lift_var-tells (lift_var n by from) by' from',
      lift_var-tells n (by + by') from,
    )))
    ∙ sym (lift-is_inst t (by + by') from))

lift_of_subst-var : (at : ℕ) (u : Term) (by from : ℕ) → from ≤ at → (n : ℕ) → lift (subst_var n at u) by from ≡ subst_var (lift_var n by from) (at + by) (lift u by from)
lift_of_subst-var at u by from h n = elim (compare n at) [
  | inl lt ↦
      ap (λ x. lift x by from) (subst_var-below n at u lt)
      ∙ sym (subst_var-below (lift_var n by from) (at + by) (lift u by from) (omega (arith, lift_var-tells n by from)))
  | inr (inl eq) ↦
      ap (λ x. lift x by from) (subst_var-at n at u eq)
      ∙ sym (subst_var-at (lift_var n by from) (at + by) (lift u by from) (omega (arith, lift_var-tells n by from)))
  | inr (inr gt) ↦
      ap (λ x. lift x by from) (subst_var-above n at u gt)
      ∙ (ap Var (omega (arith, lift_var-tells n by from, lift_var-tells (n - 1) by from))
      ∙ sym (subst_var-above (lift_var n by from) (at + by) (lift u by from) (omega (arith, lift_var-tells n by from))))
]

-- a lift at or below the place of a substitution
pub lift_of_subst : LiftOfSubst
lift_of_subst t at u by from h =
    lift-subst-by_var t at u by from
    ∙ (inst-same t (lift_of_subst-var at u by from h) ∙ sym (subst-lift-by_var t by from (at + by) (lift u by from)))

lift_of_subst_above-var : (at : ℕ) (u : Term) (by from : ℕ) → at ≤ from → (n : ℕ) → lift (subst_var n at u) by from ≡ subst_var (lift_var n by (from + 1)) at (lift u by from)
lift_of_subst_above-var at u by from h n = elim (compare n at) [
  | inl lt ↦
      ap (λ x. lift x by from) (subst_var-below n at u lt)
      ∙ (ap Var (omega (arith, lift_var-tells n by from, lift_var-tells n by (from + 1)))
      ∙ sym (subst_var-below (lift_var n by (from + 1)) at (lift u by from) (omega (arith, lift_var-tells n by (from + 1)))))
  | inr (inl eq) ↦
      ap (λ x. lift x by from) (subst_var-at n at u eq)
      ∙ sym (subst_var-at (lift_var n by (from + 1)) at (lift u by from) (omega (arith, lift_var-tells n by (from + 1))))
  | inr (inr gt) ↦
      ap (λ x. lift x by from) (subst_var-above n at u gt)
      ∙ (ap Var (omega (arith, lift_var-tells n by (from + 1), lift_var-tells (n - 1) by from))
      ∙ sym (subst_var-above (lift_var n by (from + 1)) at (lift u by from) (omega (arith, lift_var-tells n by (from + 1)))))
]

-- a lift at or above the place of a substitution
pub lift_of_subst_above : LiftOfSubstAbove
lift_of_subst_above t at u by from h =
    lift-subst-by_var t at u by from
    ∙ (inst-same t (lift_of_subst_above-var at u by from h)
    ∙ sym (subst-lift-by_var t by (from + 1) at (lift u by from)))

subst_of_lift-var : (by from at : ℕ) (u : Term) → from ≤ at → at ≤ from + by → (n : ℕ) → subst_var (lift_var n (by + 1) from) at u ≡ Var (lift_var n by from)
subst_of_lift-var by from at u low high n = elim (compare (lift_var n (by + 1) from) at) [
  | inl lt ↦
      subst_var-below (lift_var n (by + 1) from) at u lt
      ∙ ap Var (omega (arith, lift_var-tells n (by + 1) from, lift_var-tells n by from))
  | inr (inl eq) ↦ absurd (omega (arith, lift_var-tells n (by + 1) from))
  | inr (inr gt) ↦
      subst_var-above (lift_var n (by + 1) from) at u gt
      ∙ ap Var (omega (arith, lift_var-tells n (by + 1) from, lift_var-tells n by from))
]

-- a substitution within the gap of a lift
pub subst_of_lift : SubstOfLift
subst_of_lift t by from at u low high =
    subst-lift-by_var t (by + 1) from at u
    ∙ (inst-same t (subst_of_lift-var by from at u low high) ∙ sym (lift-is_inst t by from))

-- a substitution for the variable that a lift made room for
pub subst_cancels : SubstCancels
subst_cancels t at u = subst_of_lift t 0 at at u (omega arith) (omega arith) ∙ lift_by_none t at

subst_subst-above : (at : ℕ) (u : Term) (at' : ℕ) (v : Term) → at ≤ at' → (n : ℕ) → at < n → subst_var (n - 1) at' v ≡ subst (subst_var n (at' + 1) (lift v 1 at)) at (subst u at' v)
subst_subst-above at u at' v h n gt = elim (compare n (at' + 1)) [
  | inl lt ↦
      subst_var-below (n - 1) at' v (omega arith)
      ∙ (sym (subst_var-above n at (subst u at' v) gt)
      ∙ sym (ap (λ x. subst x at (subst u at' v)) (subst_var-below n (at' + 1) (lift v 1 at) lt)))
  | inr (inl eq) ↦
      subst_var-at (n - 1) at' v (omega arith)
      ∙ (sym (subst_cancels v at (subst u at' v))
      ∙ sym (ap (λ x. subst x at (subst u at' v)) (subst_var-at n (at' + 1) (lift v 1 at) eq)))
  | inr (inr above) ↦
      subst_var-above (n - 1) at' v (omega arith)
      ∙ (sym (subst_var-above (n - 1) at (subst u at' v) (omega arith))
      ∙ sym (ap (λ x. subst x at (subst u at' v)) (subst_var-above n (at' + 1) (lift v 1 at) above)))
]

subst_subst-var : (at : ℕ) (u : Term) (at' : ℕ) (v : Term) → at ≤ at' → (n : ℕ) → subst (subst_var n at u) at' v ≡ subst (subst_var n (at' + 1) (lift v 1 at)) at (subst u at' v)
subst_subst-var at u at' v h n = elim (compare n at) [
  | inl lt ↦
      ap (λ x. subst x at' v) (subst_var-below n at u lt)
      ∙ (subst_var-below n at' v (omega arith)
      ∙ (sym (subst_var-below n at (subst u at' v) lt)
      ∙ sym (ap (λ x. subst x at (subst u at' v)) (subst_var-below n (at' + 1) (lift v 1 at) (omega arith)))))
  | inr (inl eq) ↦
      ap (λ x. subst x at' v) (subst_var-at n at u eq)
      ∙ (sym (subst_var-at n at (subst u at' v) eq)
      ∙ sym (ap (λ x. subst x at (subst u at' v)) (subst_var-below n (at' + 1) (lift v 1 at) (omega arith))))
  | inr (inr gt) ↦ ap (λ x. subst x at' v) (subst_var-above n at u gt) ∙ subst_subst-above at u at' v h n gt
]

-- two substitutions commute
pub subst-subst : SubstSubst
subst-subst t at u at' v h =
    subst-subst-by_var t at u at' v
    ∙ (inst-same t (subst_subst-var at u at' v h)
    ∙ sym (subst-subst-by_var t (at' + 1) (lift v 1 at) at (subst u at' v)))
