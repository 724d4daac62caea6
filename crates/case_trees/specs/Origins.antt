-- Where the variables of a new context come from: the steps of a run, followed on its context alone.
use Rattle.std.specs.Prelude.{ℕ, ◌+◌, ◌-◌, List, [], ◌∷◌, ◌++◌, length, map, get_or}
use Rattle.theory.specs.Terms.{Term}
use Rattle.theory.specs.Telescopes.{Telescope}
use Rattle.core_terms.specs.CaseTrees.{Step}
use Rattle.core_terms.specs.declared.case_tree.Rule.{Rule}
use Rattle.core_terms.specs.declared.case_tree.Rule.TheVariants.{SolveRight, SolveLeft}
use Rattle.core_terms.specs.declared.case_tree.Origin.{Origin}
use Rattle.core_terms.specs.declared.case_tree.Origin.TheVariants.{Old, Arg}
use Rattle.tele_eq.specs.Items.{each_position}
use Rattle.unification.specs.Occurrences.{order_without}
use Rattle.unification.specs.Solving.{solved, new_context}

-- n variables of the context that is split, and then so many arguments of a constructor: a variable is named by its number, and an
-- argument by its place
abbrev pub first_origins : (n count : ℕ) → List Origin
first_origins n count = each_position (λ j. Old (n - (j + 1))) 0 n ++ each_position (λ j. Arg j) 0 count

-- the level of a variable by its number
abbrev pub level_in : Telescope → (x : ℕ) → ℕ
level_in context x = length context - (x + 1)

-- the context after a solution of variable x by the term u
abbrev pub context_without : Telescope → (x : ℕ) → (u : Term) → Telescope
context_without context x u =
    let p = level_in context x in
    let order = order_without context p in
    new_context context (solved (length context) order p u) 0 order

abbrev pub origins_without : Telescope → (x : ℕ) → List Origin → List Origin
origins_without context x origins = map (λ j. get_or origins j (Old 0)) (order_without context (level_in context x))

-- a rule that solves a variable by a side, and any other rule
abbrev pub behind_rule : Rule → (left right : Term) → (go : Telescope → List Origin → List Origin) → Telescope → List Origin → List Origin
behind_rule (SolveRight x) left right go context origins = go (context_without context x left) (origins_without context x origins)
behind_rule (SolveLeft x) left right go context origins = go (context_without context x right) (origins_without context x origins)
behind_rule rule left right go context origins = go context origins

-- the origins after steps, from the context before them
abbrev pub origins_behind : List Step → Telescope → List Origin → List Origin
origins_behind [] context origins = origins
origins_behind (step ∷ steps) context origins =
    behind_rule step.rule step.left step.right (origins_behind steps) context origins
