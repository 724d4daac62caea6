-- Parallel renaming and instantiation of all free variables of a term at once. Types of entries and the right side
-- of iota are written with them; `lift` and `subst` are special cases.
use Rattle.std.specs.Prelude.{ℕ, List, [], ◌∷◌}
use Rattle.std.proofs.Common.{zero, suc}
use Rattle.theory.specs.Terms.{Term, Var, Sort, Pi, Lam, App, Let, Const, Fam, Con, Elim, AxiomK}

-- a renaming under one binder
abbrev pub up : (ℕ → ℕ) → ℕ → ℕ
up p zero = 0
up p (suc n) = suc (p n)

-- renames every free variable
abbrev pub ren : (ℕ → ℕ) → Term → Term
ren p (Var n) = Var (p n)
ren p (Sort i) = Sort i
ren p (Pi a b) = Pi (ren p a) (ren (up p) b)
ren p (Lam a b) = Lam (ren p a) (ren (up p) b)
ren p (App f a) = App (ren p f) (ren p a)
ren p (Let a t b) = Let (ren p a) (ren p t) (ren (up p) b)
ren p (Const c) = Const c
ren p (Fam f) = Fam f
ren p (Con f c) = Con f c
ren p (Elim f m) = Elim f m
ren p (AxiomK i m) = AxiomK i m

-- a term one binder further in
abbrev pub weaken : Term → Term
weaken t = ren suc t

-- an instantiation under one binder
abbrev pub ups : (ℕ → Term) → ℕ → Term
ups s zero = Var 0
ups s (suc n) = weaken (s n)

-- puts a term for every free variable
abbrev pub inst : (ℕ → Term) → Term → Term
inst s (Var n) = s n
inst s (Sort i) = Sort i
inst s (Pi a b) = Pi (inst s a) (inst (ups s) b)
inst s (Lam a b) = Lam (inst s a) (inst (ups s) b)
inst s (App f a) = App (inst s f) (inst s a)
inst s (Let a t b) = Let (inst s a) (inst s t) (inst (ups s) b)
inst s (Const c) = Const c
inst s (Fam f) = Fam f
inst s (Con f c) = Con f c
inst s (Elim f m) = Elim f m
inst s (AxiomK i m) = AxiomK i m

-- an instantiation with one term more, for the nearest variable
abbrev pub extend : (ℕ → Term) → Term → ℕ → Term
extend s u zero = u
extend s u (suc n) = s n

-- `u` put for the nearest variable
abbrev pub put : Term → Term → Term
put u t = inst (extend Var u) t

-- an instantiation with the terms of a list more, the last of them for the nearest variable
abbrev pub fill : (ℕ → Term) → List Term → ℕ → Term
fill s [] n = s n
fill s (u ∷ us) n = fill (extend s u) us n
