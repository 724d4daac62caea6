-- How a substitution is worked out, joined to `subst`.
use Rattle.std.proofs.Common.{◌≡◌, ℕ, ◌+◌, ◌==◌, ◌≤◌, cond, [], ◌∷◌, refl, ap, ap₂, ◌∙◌, sym, min, subst as transport, arith}
use Rattle.std.proofs.lemmas.Bool.Decides.{nat_tests}
use Rattle.theory.specs.Terms.{Term, lift, subst, subst_var, height}
use Rattle.theory.specs.Terms.Term.{Var, Pi, Lam, App, Let}
use Rattle.theory.proofs.Commuting.{lift_by_none, lift_merge}
use Rattle.theory.proofs.Heights.{height-lift, height-subst-least}
use Rattle.theory.specs.Telescopes.{Telescope}
use Rattle.core_terms.specs.Substitution.{subst_under, subst_telescope_under, height_with}
use Rattle.core_terms.specs.Telescopes.{subst_telescope}

-- the term that is put is lifted by one more under a binder
put_under : (t : Term) (at : ℕ) (u : Term) (under : ℕ) → subst t at (lift u (under + 1) 0) ≡ subst t at (lift (lift u under 0) 1 0)
put_under t at u under = ap (subst t at) (sym (lift_merge u under 0 1 0 (omega arith) (omega arith)))

subst_under-subst : (t : Term) (at : ℕ) (u : Term) (under : ℕ) → subst_under t at u under ≡ subst t at (lift u under 0)
subst_under-subst (Pi a b) at u under =
    ap₂ Pi (subst_under-subst a at u under)
    (subst_under-subst b (at + 1) u (under + 1) ∙ put_under b (at + 1) u under)
subst_under-subst (Lam a b) at u under =
    ap₂ Lam (subst_under-subst a at u under)
    (subst_under-subst b (at + 1) u (under + 1) ∙ put_under b (at + 1) u under)
subst_under-subst (App f a) at u under = ap₂ App (subst_under-subst f at u under) (subst_under-subst a at u under)
subst_under-subst (Let a t b) at u under =
    rw (
      subst_under-subst a at u under,
      subst_under-subst t at u under,
      subst_under-subst b (at + 1) u (under + 1) ∙ put_under b (at + 1) u under,
    )
subst_under-subst _ at u under = refl

pub subst_under-none : (t : Term) (at : ℕ) (u : Term) → subst_under t at u 0 ≡ subst t at u
subst_under-none t at u = subst_under-subst t at u 0 ∙ ap (subst t at) (lift_by_none u 0)

height-subst_var : (n at : ℕ) (u : Term) → height (subst_var n at u) ≡ cond (n == at) (height u) 1
height-subst_var n at u = grind (arith, nat_tests)

height-subst_under_binder : (t : Term) (at : ℕ) (u : Term) → height (subst t at (lift u 1 0)) ≡ height_with t at (height (lift u 1 0)) → height (subst t at (lift u 1 0)) ≡ height_with t at (height u)
height-subst_under_binder t at u h = h ∙ ap (height_with t at) (height-lift u 1 0)

pub height-subst : (t : Term) (at : ℕ) (u : Term) → height (subst t at u) ≡ height_with t at (height u)
height-subst (Var n) at u = height-subst_var n at u
height-subst (Pi a b) at u =
    omega (arith, height-subst a at u, height-subst_under_binder b (at + 1) u (height-subst b (at + 1) (lift u 1 0)))
height-subst (Lam a b) at u =
    omega (arith, height-subst a at u, height-subst_under_binder b (at + 1) u (height-subst b (at + 1) (lift u 1 0)))
height-subst (App f a) at u = omega (arith, height-subst f at u, height-subst a at u)
height-subst (Let a t b) at u =
    omega (
      arith,
      height-subst a at u,
      height-subst t at u,
      height-subst_under_binder b (at + 1) u (height-subst b (at + 1) (lift u 1 0)),
    )
height-subst _ at u = refl

-- heights above 2,000 need not be distinguished
pub height_with-min : (t : Term) (at put : ℕ) → min (height_with t at (min put 2001)) 2001 ≡ min (height_with t at put) 2001
height_with-min (Var n) at put = grind (arith, nat_tests)
height_with-min (Pi a b) at put = omega (arith, height_with-min a at put, height_with-min b (at + 1) put)
height_with-min (Lam a b) at put = omega (arith, height_with-min a at put, height_with-min b (at + 1) put)
height_with-min (App f a) at put = omega (arith, height_with-min f at put, height_with-min a at put)
height_with-min (Let a t b) at put =
    omega (arith, height_with-min a at put, height_with-min t at put, height_with-min b (at + 1) put)
height_with-min _ at put = refl

pub ruleset lift_laws = (height-lift)

pub height-subst_under : (t : Term) (at : ℕ) (u : Term) (under : ℕ) → height (subst_under t at u under) ≡ height_with t at (height u)
height-subst_under t at u under =
    ap height (subst_under-subst t at u under)
    ∙ (height-subst t at (lift u under 0) ∙ ap (height_with t at) (height-lift u under 0))

pub height-subst_under-least : (t : Term) (at : ℕ) (u : Term) (under : ℕ) → height t ≤ height (subst_under t at u under)
height-subst_under-least t at u under =
    transport (λ s. height t ≤ height s) (sym (subst_under-subst t at u under)) (height-subst-least t at (lift u under 0))

pub ruleset subst_laws = (subst_under-none)

pub ruleset height_laws = (height-subst_under, height_with-min, height-subst_under-least)

telescope-put : (tele : Telescope) (at : ℕ) (u : Term) (under : ℕ) → subst_telescope_under tele at u under ≡ subst_telescope tele at (lift u under 0)
telescope-put [] at u under = refl
telescope-put (a ∷ tele) at u under =
    ap₂ ◌∷◌ (subst_under-subst a at u under)
    (telescope-put tele (at + 1) u (under + 1)
    ∙ ap (subst_telescope tele (at + 1)) (sym (lift_merge u under 0 1 0 (omega arith) (omega arith))))

pub telescope-put-none : (tele : Telescope) (at : ℕ) (u : Term) → subst_telescope_under tele at u 0 ≡ subst_telescope tele at u
telescope-put-none tele at u = telescope-put tele at u 0 ∙ ap (subst_telescope tele at) (lift_by_none u 0)

pub ruleset telescope_laws = (telescope-put-none)
