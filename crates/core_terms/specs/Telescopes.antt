-- Telescopes that are taken from products, lifted and substituted. Each type is over one variable more than the one before it.
use Rattle.std.specs.Prelude.{ℕ, ◌+◌, [], ◌∷◌}
use Rattle.theory.specs.Terms.{Term, Pi, lift, subst}
use Rattle.theory.specs.Telescopes.{Telescope}

-- the domains of the leading products of a term
abbrev pub domains_of : Term → Telescope
domains_of (Pi a b) = a ∷ domains_of b
domains_of _ = []

-- the end after them
abbrev pub end_of : Term → Term
end_of (Pi a b) = end_of b
end_of t = t

-- adds `by` to every variable numbered `from` or more
abbrev pub lift_telescope : Telescope → (by from : ℕ) → Telescope
lift_telescope [] by from = []
lift_telescope (a ∷ tele) by from = lift a by from ∷ lift_telescope tele by (from + 1)

-- puts `u` for variable `at` and lowers greater variables by one
abbrev pub subst_telescope : Telescope → (at : ℕ) → (u : Term) → Telescope
subst_telescope [] at u = []
subst_telescope (a ∷ tele) at u = subst a at u ∷ subst_telescope tele (at + 1) (lift u 1 0)
