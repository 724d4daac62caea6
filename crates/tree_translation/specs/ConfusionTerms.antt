-- The terms of injectivity and of conflict, by no confusion.
use Rattle.std.specs.Prelude.{ℕ, ◌+◌, ◌∷◌, ◌++◌, length}
use Rattle.theory.specs.Terms.{Term, App, Const}
use Rattle.theory.specs.Telescopes.{Telescope, functions, applied}
use Rattle.tele_eq.specs.TelescopicEquality.{equations}
use Rattle.unification.specs.Records.{family_items}
use Rattle.tree_translation.specs.Naming.{Naming, noconf_name}
use Rattle.tree_translation.specs.Standings.{Standing, inside, all_here, further_equations, levels_from, placed, placed_telescope}
use Rattle.tree_translation.specs.Comparisons.{Comparison, left_member, right_member, group_equations}
use Rattle.tree_translation.specs.SolutionTerms.{remaining_goal}

-- D!noconf.c.L ps as vs (c' ps bs) E
abbrev pub confused : Naming → (L : ℕ) → Standing → (k : ℕ) → Comparison → Term
confused number L s k c =
    applied (Const (number (noconf_name c.family c.left.number L)))
    (all_here s c.parameters ++ (all_here s c.left.arguments ++ (all_here s (right_member c) ++ group_equations s c k)))

-- E: eqs(Y; us_c[as], c ps as; vs, c' ps bs)
abbrev pub compared_equations : Standing → Comparison → Telescope
compared_equations s c =
    placed_telescope s.variables (inside s) (equations (family_items c.n c.family c.parameters) (left_member c) (right_member c))

-- Inject: D!noconf.c.L ps as vs (c ps bs) E (\E. E2 -> G) (\es. N) E2, where N binds the equations es of the arguments first
abbrev pub inject_term : Naming → (L : ℕ) → Standing → (k : ℕ) → Comparison → (N : Term) → Term
inject_term number L s k c N =
    let depth = inside s in
    let g = k + 1 in
    let motive = functions (compared_equations s c) (remaining_goal s g s.variables (levels_from depth g) (depth + g)) in
    applied (confused number L s k c) (motive ∷ N ∷ further_equations s g)

-- Conflict: D!noconf.c.L ps as vs (c' ps bs) E (\E. G)
abbrev pub conflict_term : Naming → (L : ℕ) → Standing → (k : ℕ) → Comparison → Term
conflict_term number L s k c =
    let types = compared_equations s c in
    App (confused number L s k c) (functions types (placed s.variables (inside s + length types) s.goal))
