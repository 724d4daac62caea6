-- The terms of injectivity and conflict as the code makes them: Deep where something in the equations that are compared is too high.
use Rattle.std.specs.Prelude.{ℕ, zero, suc, ◌+◌, List, [], ◌∷◌, ◌++◌, length, take, Result, Ok}
use Rattle.theory.specs.Terms.{Term, App, Const}
use Rattle.theory.specs.Telescopes.{Telescope, functions, applied}
use Rattle.core_terms.specs.Answers.{and_then}
use Rattle.core_terms.specs.declared.stop.Stop.{Stop}
use Rattle.unification.specs.Records.{family_items}
use Rattle.tree_translation.specs.Comparisons.{Comparison, left_member, right_member}
use Rattle.tree_translation.specs.Naming.{Naming, noconf_name}
use Rattle.tree_translation.specs.SolutionTerms.{remaining_goal}
use Rattle.tree_translation.specs.Standings.{Standing, inside, all_here, first_equations, further_equations, levels_from, placed, placed_telescope}
use Rattle.run_terms.specs.Made.{equations_made, reflexivities_made}

abbrev pub member_equations : Comparison → Result Telescope Stop
member_equations c = equations_made (family_items c.n c.family c.parameters) (left_member c) (right_member c)

abbrev pub compared_made : Standing → Comparison → Result Telescope Stop
compared_made s c = and_then (member_equations c) (λ types. Ok (placed_telescope s.variables (inside s) types))

abbrev pub index_reflexivities : Comparison → Result (List Term) Stop
index_reflexivities c = reflexivities_made (take (length c.family.indices) (family_items c.n c.family c.parameters)) c.indices

-- the terms before the equations of a group
abbrev pub before_group : Comparison → (k : ℕ) → Result (List Term) Stop
before_group c zero = index_reflexivities c
before_group c (suc k) = Ok []

abbrev pub group_with : Standing → (before : List Term) (k : ℕ) → List Term
group_with s before k = all_here s before ++ first_equations s (k + 1)

abbrev pub confused_with : Naming → (L : ℕ) → Standing → (k : ℕ) → Comparison → (before : List Term) → Term
confused_with number L s k c before =
    applied (Const (number (noconf_name c.family c.left.number L)))
    (all_here s c.parameters ++ (all_here s c.left.arguments ++ (all_here s (right_member c) ++ group_with s before k)))

abbrev pub injection_motive : Standing → (g : ℕ) → Telescope → Term
injection_motive s g types =
    functions types (remaining_goal s g s.variables (levels_from (inside s) g) (inside s + g))

abbrev pub inject_with : Naming → (L : ℕ) → Standing → (k : ℕ) → Comparison → (types : Telescope) (before : List Term) (N : Term) → Term
inject_with number L s k c types before N =
    applied (confused_with number L s k c before) (injection_motive s (k + 1) types ∷ N ∷ further_equations s (k + 1))

abbrev pub inject_made : Naming → (L : ℕ) → Standing → (k : ℕ) → Comparison → (N : Term) → Result Term Stop
inject_made number L s k c N =
    and_then (compared_made s c) (λ types. and_then (before_group c k) (λ before. Ok (inject_with number L s k c types before N)))

abbrev pub conflict_motive : Standing → Telescope → Term
conflict_motive s types = functions types (placed s.variables (inside s + length types) s.goal)

abbrev pub conflict_with : Naming → (L : ℕ) → Standing → (k : ℕ) → Comparison → (types : Telescope) (before : List Term) → Term
conflict_with number L s k c types before = App (confused_with number L s k c before) (conflict_motive s types)

abbrev pub conflict_made : Naming → (L : ℕ) → Standing → (k : ℕ) → Comparison → Result Term Stop
conflict_made number L s k c =
    and_then (compared_made s c) (λ types. and_then (before_group c k) (λ before. Ok (conflict_with number L s k c types before)))
