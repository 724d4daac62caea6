-- Terms without their nearest variables, as the code makes them.
use Rattle.std.specs.Prelude.{ℕ, ◌+◌, ◌-◌, nat_lt, cond}
use Rattle.theory.specs.Terms.{Term, Var, Pi, Lam, App, Let}

-- a term without the nearest k variables, under so many binders of its own
abbrev pub lowered_under : (k under : ℕ) → Term → Term
lowered_under k under (Var n) = Var (cond (nat_lt n under) n (n - under - k + under))
lowered_under k under (Pi a b) = Pi (lowered_under k under a) (lowered_under k (under + 1) b)
lowered_under k under (Lam a b) = Lam (lowered_under k under a) (lowered_under k (under + 1) b)
lowered_under k under (App f a) = App (lowered_under k under f) (lowered_under k under a)
lowered_under k under (Let a t b) = Let (lowered_under k under a) (lowered_under k under t) (lowered_under k (under + 1) b)
lowered_under k under t = t
