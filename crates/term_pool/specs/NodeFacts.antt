-- The facts that are kept of a node, by those of its parts.
use Rattle.std.specs.Prelude.{ℕ, ◌+◌, ◌-◌, ◌≤◌, max, List}
use Rattle.term_pool.specs.declared.node.Node.{Node}
use Rattle.term_pool.specs.declared.node.Node.TheVariants.{Var, Pi, Lam, App, Let}
use Rattle.term_pool.specs.declared.facts.Facts.{Facts}
use Rattle.term_pool.specs.Shelves.{fact_at}

-- a binder more is around it
abbrev pub bound_inside : Facts → Facts
bound_inside f = record { height = f.height; bound = f.bound - 1 }

-- of a node with two parts, and with three
abbrev pub of_two_parts : Facts → Facts → Facts
of_two_parts a b = record { height = 1 + max a.height b.height; bound = max a.bound b.bound }

abbrev pub of_three_parts : Facts → Facts → Facts → Facts
of_three_parts a t b = record { height = 1 + max a.height (max t.height b.height); bound = max a.bound (max t.bound b.bound) }

abbrev pub node_facts : {I : Type 0} → (I → Facts) → Node I → Facts
node_facts at (Var n) = record { height = 1; bound = n + 1 }
node_facts at (Pi a b) = of_two_parts (at a) (bound_inside (at b))
node_facts at (Lam a b) = of_two_parts (at a) (bound_inside (at b))
node_facts at (App f a) = of_two_parts (at f) (at a)
node_facts at (Let a t b) = of_three_parts (at a) (at t) (bound_inside (at b))
node_facts at _ = record { height = 1; bound = 0 }

-- no height that is kept is above 2,000
pub record AreLow (facts : List Facts) : Type 0 where
  pub each : (i : ℕ) → (fact_at facts i).height ≤ 2000
