-- Substitution as it is worked out over a store: at each depth by itself, so that a part that is met again there is answered at once.
use Rattle.std.specs.Prelude.{ℕ, ◌+◌, List}
use Rattle.theory.specs.Terms.{Term, Var, Sort, Pi, Lam, App, Let, Const, Fam, Con, Elim, AxiomK, lift, subst_var}
use Rattle.term_pool.specs.Held.{Held}
use Rattle.term_pool.specs.Shifts.{Serves}
use Rattle.term_pool.specs.declared.shifts.Shift.{Shift}

-- `u` is put for variable `at` of a term that has so many binders around it, which neither `u` nor `at` counts
abbrev pub put : Term → ℕ → Term → ℕ → Term
put u at (Var n) under = subst_var n (at + under) (lift u under 0)
put u at (Pi a b) under = Pi (put u at a under) (put u at b (under + 1))
put u at (Lam a b) under = Lam (put u at a under) (put u at b (under + 1))
put u at (App f a) under = App (put u at f under) (put u at a under)
put u at (Let a t b) under = Let (put u at a under) (put u at t under) (put u at b (under + 1))
put u at (Sort i) under = Sort i
put u at (Const c) under = Const c
put u at (Fam f) under = Fam f
put u at (Con f c) under = Con f c
put u at (Elim f m) under = Elim f m
put u at (AxiomK i m) under = AxiomK i m

-- each row of the table answers what its tree is at its depth once `u` is put for variable `at`
pub record Puts {I : Type 0} (u : Term) (at : ℕ) (held : Held I) (rows : List (Shift I)) : Type 0 where
  pub serves : Serves (put u at) held rows
