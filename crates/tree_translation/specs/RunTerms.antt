-- The term of a run: from the equations of its first state to the goal, by the terms of its rules.
use Rattle.std.specs.Prelude.{ℕ, ◌-◌, Bool, true, false, Option, Some, None, List, [], ◌∷◌, ◌++◌}
use Rattle.theory.specs.Terms.{Term, Sort}
use Rattle.theory.specs.Signatures.{Signature}
use Rattle.core_terms.specs.CaseTrees.{Step}
use Rattle.core_terms.specs.declared.case_tree.Rule.{Rule}
use Rattle.core_terms.specs.declared.case_tree.Rule.TheVariants.{SolveRight, SolveLeft, Inject, Conflict, Cycle, Delete}
use Rattle.unification.specs.Built.{Built, built_of}
use Rattle.generators.specs.acyclic_gen.DirectEntries.{direct_name}
use Rattle.generators.specs.acyclic_gen.AcyclicEntries.{acyclic_name}
use Rattle.tree_translation.specs.Naming.{Naming, noconf_name, left_name}
use Rattle.tree_translation.specs.Standings.{Standing, inside, placed, state_term}
use Rattle.tree_translation.specs.Comparisons.{Comparison, compared}
use Rattle.tree_translation.specs.Replays.{level_of_first, step_in, behind_step}
use Rattle.tree_translation.specs.SolutionTerms.{solve_right_term, solve_left_term, delete_term}
use Rattle.tree_translation.specs.ConfusionTerms.{inject_term, conflict_term}
use Rattle.tree_translation.specs.CycleTerms.{cycle_term}

-- where a step is none of a run: no term is read there
abbrev pub no_term : Term
no_term = Sort 0

abbrev pub on_comparison : Option Comparison → (Comparison → Term) → Term
on_comparison None term = no_term
on_comparison (Some c) term = term c

-- the side that is a constructor: the right one, and else the left one
abbrev pub on_side : (left right : Term) → (from_left from_right : Option Built) → ((from_left : Bool) → Built → (side : Term) → Term) → Term
on_side left right from_left (Some b) term = term true b right
on_side left right (Some b) None term = term false b left
on_side left right None None term = no_term

-- the term of a step by its rule, from the next state's term N
abbrev pub rule_term : Signature → Naming → (L : ℕ) → Standing → Step → Rule → (N : Term) → Term
rule_term S number L s step (SolveRight x) N = solve_right_term L s x step.ty step.left N
rule_term S number L s step (SolveLeft x) N = solve_left_term number L s x step.ty step.right N
rule_term S number L s step (Inject n c) N =
    on_comparison (compared S s.state step) (λ comparison. inject_term number L s (step.group - 1) comparison N)
rule_term S number L s step (Conflict n c d) N =
    on_comparison (compared S s.state step) (conflict_term number L s (step.group - 1))
rule_term S number L s step (Cycle x) N =
    on_side step.left step.right (built_of S step.left) (built_of S step.right) (cycle_term number L s x)
rule_term S number L s step Delete N = delete_term L s step.ty step.left N

-- the term of a state after its equations, from the steps that are left and an end over the last context
abbrev pub run_term : Signature → Naming → (L : ℕ) → (end : Term) → List Step → Standing → Term
run_term S number L end [] s = placed s.variables (inside s) end
run_term S number L end (step ∷ steps) s =
    rule_term S number L s (step_in s step) (step_in s step).rule
    (state_term (behind_step S s step) (run_term S number L end steps (behind_step S s step)))

-- ---- the names that it may mention

abbrev pub compared_names : (L : ℕ) → Option Comparison → List (List ℕ)
compared_names L None = []
compared_names L (Some c) = noconf_name c.family c.left.number L ∷ []

abbrev pub cycle_names : (from_left from_right : Option Built) → List (List ℕ)
cycle_names from_left (Some b) = direct_name b.family.name ∷ acyclic_name b.family.name ∷ []
cycle_names (Some b) None =
    direct_name b.family.name ∷ left_name b.family.level b.family.level ∷ acyclic_name b.family.name ∷ []
cycle_names None None = []

abbrev pub rule_names : Signature → (L : ℕ) → Standing → Step → Rule → List (List ℕ)
rule_names S L s step (SolveLeft x) = left_name (level_of_first s.state.equations) L ∷ []
rule_names S L s step (Inject n c) = compared_names L (compared S s.state step)
rule_names S L s step (Conflict n c d) = compared_names L (compared S s.state step)
rule_names S L s step (Cycle x) = cycle_names (built_of S step.left) (built_of S step.right)
rule_names S L s step rule = []

abbrev pub run_names : Signature → (L : ℕ) → List Step → Standing → List (List ℕ)
run_names S L [] s = []
run_names S L (step ∷ steps) s =
    rule_names S L s (step_in s step) (step_in s step).rule ++ run_names S L steps (behind_step S s step)
