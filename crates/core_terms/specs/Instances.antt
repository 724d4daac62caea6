-- Instantiation as it is worked out: each value is lifted once, where it is put. For each function a law says that it is
-- `inst`.
use Rattle.std.specs.Prelude.{ℕ, ◌+◌, ◌-◌, nat_lt, cond, List, [], ◌∷◌}
use Rattle.theory.specs.Terms.{Term, Var, Sort, Pi, Lam, App, Let, Const, Fam, Con, Elim, AxiomK, lift}
use Rattle.theory.specs.Substitutions.{fill}
use Rattle.theory.specs.Telescopes.{Telescope}
use Rattle.theory.specs.Eliminators.{no_variable}

-- an instantiation under so many binders
unfoldable pub under_binders : ℕ → (ℕ → Term) → ℕ → Term
under_binders under s n = cond (nat_lt n under) (Var n) (lift (s (n - under)) under 0)

-- a term with the last value for its nearest variable, and so on, and what `s` gives for the variables beyond, under so many binders
abbrev pub instance_with : (ℕ → Term) → List Term → ℕ → Term → Term
instance_with s values under (Var n) = under_binders under (fill s values) n
instance_with s values under (Sort i) = Sort i
instance_with s values under (Pi a b) = Pi (instance_with s values under a) (instance_with s values (under + 1) b)
instance_with s values under (Lam a b) = Lam (instance_with s values under a) (instance_with s values (under + 1) b)
instance_with s values under (App f a) = App (instance_with s values under f) (instance_with s values under a)
instance_with s values under (Let a t b) =
    Let (instance_with s values under a) (instance_with s values under t) (instance_with s values (under + 1) b)
instance_with s values under (Const c) = Const c
instance_with s values under (Fam f) = Fam f
instance_with s values under (Con f c) = Con f c
instance_with s values under (Elim f m) = Elim f m
instance_with s values under (AxiomK i m) = AxiomK i m

-- a term with the last value for its nearest variable, and so on, under so many binders; a closed sort where there is no value
abbrev pub instance_of : List Term → ℕ → Term → Term
instance_of values under t = instance_with no_variable values under t

-- the instances of the terms of a list,
abbrev pub instances_of : List Term → List Term → List Term
instances_of values [] = []
instances_of values (t ∷ terms) = instance_of values 0 t ∷ instances_of values terms

-- and for a telescope
abbrev pub telescope_instance_of : List Term → ℕ → Telescope → Telescope
telescope_instance_of values under [] = []
telescope_instance_of values under (a ∷ tele) = instance_of values under a ∷ telescope_instance_of values (under + 1) tele
