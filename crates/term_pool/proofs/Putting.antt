-- Substitution at a depth, joined to `subst`.
use Rattle.std.proofs.Common.{◌≡◌, ℕ, ◌+◌, ◌≤◌, refl, ap₂, ◌∙◌, sym, arith}
use Rattle.theory.specs.Terms.{Term, lift, subst}
use Rattle.theory.specs.Terms.Term.{Pi, Lam, App, Let}
use Rattle.theory.proofs.Commuting.{lift_by_none, lift_merge}
use Rattle.theory.proofs.FreeVariables.{subst_of_scoped}
use Rattle.theory.proofs.Heights.{height-lift}
use Rattle.theory.specs.Terms.{free_of}
use Rattle.term_pool.specs.Substitution.{put}

-- what is put is lifted by one more under a binder
put_under : (t : Term) (at : ℕ) (u : Term) (under : ℕ)
    → subst t (at + (under + 1)) (lift u (under + 1) 0) ≡ subst t (at + under + 1) (lift (lift u under 0) 1 0)
put_under t at u under =
    let deeper : at + (under + 1) ≡ at + under + 1 = omega arith in
    (λ i. subst t (deeper i) (sym (lift_merge u under 0 1 0 (omega arith) (omega arith)) i))

put-subst : (u : Term) (at : ℕ) (t : Term) (under : ℕ) → put u at t under ≡ subst t (at + under) (lift u under 0)
put-subst u at (Pi a b) under = ap₂ Pi (put-subst u at a under) (put-subst u at b (under + 1) ∙ put_under b at u under)
put-subst u at (Lam a b) under = ap₂ Lam (put-subst u at a under) (put-subst u at b (under + 1) ∙ put_under b at u under)
put-subst u at (App f a) under = ap₂ App (put-subst u at f under) (put-subst u at a under)
put-subst u at (Let a t b) under =
    rw (put-subst u at a under, put-subst u at t under, put-subst u at b (under + 1) ∙ put_under b at u under)
put-subst u at _ under = refl

pub put-none : (u : Term) (at : ℕ) (t : Term) → put u at t 0 ≡ subst t at u
put-none u at t =
    let same : at + 0 ≡ at = omega arith in
    put-subst u at t 0 ∙ (λ i. subst t (same i) (lift_by_none u 0 i))

-- a tree whose variables are all below the place stays as it is
pub put-scoped : (u : Term) (at : ℕ) (t : Term) (under : ℕ) → free_of t ≤ at + under → put u at t under ≡ t
put-scoped u at t under h = put-subst u at t under ∙ subst_of_scoped t (at + under) (lift u under 0) h

pub ruleset put_laws = (put-none)

pub ruleset lift_laws = (height-lift)
