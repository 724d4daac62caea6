-- `lift` is a renaming and `subst` an instantiation, so that each law of the two is one about a single variable.
use Rattle.std.proofs.Common.{◌≡◌, ℕ, zero, suc, ◌+◌, ◌-◌, ◌<◌, ◌≤◌, ◌⊎◌, inl, inr, refl, ap, ap₂, sym, ◌∙◌, arith}
use Rattle.std.proofs.lemmas.Bool.Decides.{nat_tests}
use Rattle.theory.specs.Terms.{Term, lift, lift_var, subst, subst_var}
use Rattle.theory.specs.Terms.Term.{Var, Pi, Lam, App, Let}
use Rattle.theory.specs.Substitutions.{ren, up, inst, ups, extend, put}
use Rattle.theory.specs.Telescopes.{weaken_by}
use Rattle.theory.specs.TermLaws.{LiftIsRen, LiftIsWeaken, SubstIsInst, SubstIsExtend}
use Rattle.theory.proofs.Instances.{ren-same, inst-same, inst-inst, ren-is_inst, ap₃}

-- a variable below `from` stays
pub lift_var-below : (n by from : ℕ) → n < from → lift_var n by from ≡ n
lift_var-below n by from h = grind (arith, nat_tests)

-- a variable numbered `from` or more goes up
pub lift_var-above : (n by from : ℕ) → from ≤ n → lift_var n by from ≡ n + by
lift_var-above n by from h = grind (arith, nat_tests)

-- a variable below `at` stays
pub subst_var-below : (n at : ℕ) (u : Term) → n < at → subst_var n at u ≡ Var n
subst_var-below n at u h = grind (arith, nat_tests)

-- at `at` is `u`
pub subst_var-at : (n at : ℕ) (u : Term) → n ≡ at → subst_var n at u ≡ u
subst_var-at n at u h = grind (arith, nat_tests)

-- a greater variable goes down by one
pub subst_var-above : (n at : ℕ) (u : Term) → at < n → subst_var n at u ≡ Var (n - 1)
subst_var-above n at u h = grind (arith, nat_tests)

-- both cases of a lifted variable, for `omega`
pub lift_var-tells : (n by from : ℕ) → ((n < from) × (lift_var n by from ≡ n)) ⊎ ((from ≤ n) × (lift_var n by from ≡ n + by))
lift_var-tells n by from = grind (arith, nat_tests)

-- a lift under a binder
pub up-shift : (by from n : ℕ) → up (λ m. lift_var m by from) n ≡ lift_var n by (from + 1)
up-shift by from zero = grind (arith, nat_tests)
up-shift by from (suc n) = grind (arith, nat_tests)

-- the three places of a variable beside `at`
pub compare : (n at : ℕ) → (n < at) ⊎ ((n ≡ at) ⊎ (at < n))
compare n at = grind arith

-- lifting renames each variable
pub lift-is_ren : LiftIsRen
lift-is_ren (Pi a b) by from =
    ap₂ Pi (lift-is_ren a by from) (lift-is_ren b by (from + 1) ∙ sym (ren-same b (up-shift by from)))
lift-is_ren (Lam a b) by from =
    ap₂ Lam (lift-is_ren a by from) (lift-is_ren b by (from + 1) ∙ sym (ren-same b (up-shift by from)))
lift-is_ren (App f a) by from = ap₂ App (lift-is_ren f by from) (lift-is_ren a by from)
lift-is_ren (Let a t b) by from =
    ap₃ Let (lift-is_ren a by from) (lift-is_ren t by from)
    (lift-is_ren b by (from + 1) ∙ sym (ren-same b (up-shift by from)))
lift-is_ren _ by from = refl

lift_var-all : (n : ℕ) → suc n ≡ lift_var n 1 0
lift_var-all n = grind (arith, nat_tests)

-- lifting everything by one goes one binder further in
pub lift-one : LiftIsWeaken
lift-one t = lift-is_ren t 1 0 ∙ sym (ren-same t lift_var-all)

ups-put : (at : ℕ) (u : Term) (n : ℕ) → ups (λ m. subst_var m at u) n ≡ subst_var n (at + 1) (lift u 1 0)
ups-put at u zero = sym (subst_var-below 0 (at + 1) (lift u 1 0) (omega arith))
ups-put at u (suc n) = elim (compare n at) [
  | inl h ↦ ap (ren suc) (subst_var-below n at u h) ∙ sym (subst_var-below (suc n) (at + 1) (lift u 1 0) (omega arith))
  | inr (inl h) ↦ ap (ren suc) (subst_var-at n at u h) ∙ (sym (lift-one u) ∙ sym (subst_var-at (suc n) (at + 1) (lift u 1 0) (omega arith)))
  | inr (inr h) ↦ ap (ren suc) (subst_var-above n at u h) ∙ (ap Var (omega arith) ∙ sym (subst_var-above (suc n) (at + 1) (lift u 1 0) (omega arith)))
]

-- substitution instantiates each variable
pub subst-is_inst : SubstIsInst
subst-is_inst (Pi a b) at u =
    ap₂ Pi (subst-is_inst a at u) (subst-is_inst b (at + 1) (lift u 1 0) ∙ sym (inst-same b (ups-put at u)))
subst-is_inst (Lam a b) at u =
    ap₂ Lam (subst-is_inst a at u) (subst-is_inst b (at + 1) (lift u 1 0) ∙ sym (inst-same b (ups-put at u)))
subst-is_inst (App f a) at u = ap₂ App (subst-is_inst f at u) (subst-is_inst a at u)
subst-is_inst (Let a t b) at u =
    ap₃ Let (subst-is_inst a at u) (subst-is_inst t at u)
    (subst-is_inst b (at + 1) (lift u 1 0) ∙ sym (inst-same b (ups-put at u)))
subst-is_inst _ at u = refl

extend-put : (u : Term) (n : ℕ) → subst_var n 0 u ≡ extend Var u n
extend-put u zero = subst_var-at 0 0 u refl
extend-put u (suc n) = subst_var-above (suc n) 0 u (omega arith) ∙ ap Var (omega arith)

-- substitution for the nearest variable
pub subst-is_extend : SubstIsExtend
subst-is_extend t u = subst-is_inst t 0 u ∙ inst-same t (extend-put u)

pub put-is_subst : (u t : Term) → put u t ≡ subst t 0 u
put-is_subst u t = sym (subst-is_extend t u)

-- going binders further in is lifting everything
pub weaken_by-is_lift : (k : ℕ) (t : Term) → weaken_by k t ≡ lift t k 0
weaken_by-is_lift k t = ren-same t (λ n. sym (lift_var-above n k 0 (omega arith))) ∙ sym (lift-is_ren t k 0)

-- lifting instantiates each variable by a variable
pub lift-is_inst : (t : Term) (by from : ℕ) → lift t by from ≡ inst (λ n. Var (lift_var n by from)) t
lift-is_inst t by from = lift-is_ren t by from ∙ ren-is_inst (λ n. lift_var n by from) t

-- a lift after an instantiation
pub lift-inst : (s : ℕ → Term) (t : Term) (by from : ℕ) → lift (inst s t) by from ≡ inst (λ n. lift (s n) by from) t
lift-inst s t by from =
    lift-is_inst (inst s t) by from
    ∙ (inst-inst (λ n. Var (lift_var n by from)) s t ∙ sym (inst-same t (λ n. lift-is_inst (s n) by from)))

-- a substitution after an instantiation
pub subst-inst : (s : ℕ → Term) (t : Term) (at : ℕ) (u : Term) → subst (inst s t) at u ≡ inst (λ n. subst (s n) at u) t
subst-inst s t at u =
    subst-is_inst (inst s t) at u
    ∙ (inst-inst (λ n. subst_var n at u) s t ∙ sym (inst-same t (λ n. subst-is_inst (s n) at u)))

-- a lifted term that is lifted, by its variables
pub lift-lift-by_var : (t : Term) (by from by' from' : ℕ) → lift (lift t by from) by' from' ≡ inst (λ n. Var (lift_var (lift_var n by from) by' from')) t
lift-lift-by_var t by from by' from' =
    ap (λ x. lift x by' from') (lift-is_inst t by from) ∙ lift-inst (λ n. Var (lift_var n by from)) t by' from'

-- a substituted term that is lifted, by its variables
pub lift-subst-by_var : (t : Term) (at : ℕ) (u : Term) (by from : ℕ) → lift (subst t at u) by from ≡ inst (λ n. lift (subst_var n at u) by from) t
lift-subst-by_var t at u by from =
    ap (λ x. lift x by from) (subst-is_inst t at u) ∙ lift-inst (λ n. subst_var n at u) t by from

-- a lifted term under a substitution, by its variables
pub subst-lift-by_var : (t : Term) (by from at : ℕ) (u : Term) → subst (lift t by from) at u ≡ inst (λ n. subst_var (lift_var n by from) at u) t
subst-lift-by_var t by from at u =
    ap (λ x. subst x at u) (lift-is_inst t by from) ∙ subst-inst (λ n. Var (lift_var n by from)) t at u

-- two substitutions, by their variables
pub subst-subst-by_var : (t : Term) (at : ℕ) (u : Term) (at' : ℕ) (v : Term) → subst (subst t at u) at' v ≡ inst (λ n. subst (subst_var n at u) at' v) t
subst-subst-by_var t at u at' v =
    ap (λ x. subst x at' v) (subst-is_inst t at u) ∙ subst-inst (λ n. subst_var n at u) t at' v
