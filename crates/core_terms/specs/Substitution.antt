-- Substitution as it is worked out: the term that is put is lifted once, where it is put. Each function is joined to its
-- definition by a law.
use Rattle.std.specs.Prelude.{ℕ, ◌+◌, ◌==◌, cond, max, [], ◌∷◌}
use Rattle.theory.specs.Terms.{Term, Var, Sort, Pi, Lam, App, Let, Const, Fam, Con, Elim, AxiomK, lift, subst_var}
use Rattle.theory.specs.Telescopes.{Telescope}

-- `u`, lifted by `under`, is put for variable `at`; both numbers grow by one under a binder
abbrev pub subst_under : Term → ℕ → Term → ℕ → Term
subst_under (Var n) at u under = subst_var n at (lift u under 0)
subst_under (Pi a b) at u under = Pi (subst_under a at u under) (subst_under b (at + 1) u (under + 1))
subst_under (Lam a b) at u under = Lam (subst_under a at u under) (subst_under b (at + 1) u (under + 1))
subst_under (App f a) at u under = App (subst_under f at u under) (subst_under a at u under)
subst_under (Let a t b) at u under =
    Let (subst_under a at u under) (subst_under t at u under) (subst_under b (at + 1) u (under + 1))
subst_under (Sort i) at u under = Sort i
subst_under (Const c) at u under = Const c
subst_under (Fam f) at u under = Fam f
subst_under (Con f c) at u under = Con f c
subst_under (Elim f m) at u under = Elim f m
subst_under (AxiomK i m) at u under = AxiomK i m

-- this substitution through a telescope
abbrev pub subst_telescope_under : Telescope → ℕ → Term → ℕ → Telescope
subst_telescope_under [] at u under = []
subst_telescope_under (a ∷ tele) at u under = subst_under a at u under ∷ subst_telescope_under tele (at + 1) u (under + 1)

-- the height of a term once a term of height `put` stands for variable `at`
abbrev pub height_with : Term → ℕ → ℕ → ℕ
height_with (Var n) at put = cond (n == at) put 1
height_with (Pi a b) at put = 1 + max (height_with a at put) (height_with b (at + 1) put)
height_with (Lam a b) at put = 1 + max (height_with a at put) (height_with b (at + 1) put)
height_with (App f a) at put = 1 + max (height_with f at put) (height_with a at put)
height_with (Let a t b) at put =
    1 + max (height_with a at put) (max (height_with t at put) (height_with b (at + 1) put))
height_with _ at put = 1
