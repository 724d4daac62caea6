-- The terms and the names of runs as the code makes them. Deep comes where a side that is read as a constructor is too high, where
-- something in the equations of a step is, and where a next standing is Deep.
use Rattle.std.specs.Prelude.{ℕ, ◌-◌, ◌&&◌, cond, Option, Some, None, List, [], ◌∷◌, ◌++◌, Result, Ok, Err}
use Rattle.theory.specs.Terms.{Term}
use Rattle.theory.specs.Signatures.{Signature}
use Rattle.core_terms.specs.Answers.{and_then, is_low}
use Rattle.core_terms.specs.CaseTrees.{Step}
use Rattle.core_terms.specs.declared.case_tree.Rule.{Rule}
use Rattle.core_terms.specs.declared.case_tree.Rule.TheVariants.{SolveRight, SolveLeft, Inject, Conflict, Cycle, Delete}
use Rattle.core_terms.specs.declared.stop.Stop.{Stop}
use Rattle.core_terms.specs.declared.stop.Stop.TheVariants.{Deep}
use Rattle.unification.specs.Built.{built_of}
use Rattle.tree_translation.specs.Comparisons.{Comparison, compared}
use Rattle.tree_translation.specs.CycleTerms.{cycle_term}
use Rattle.tree_translation.specs.Naming.{Naming, left_name}
use Rattle.tree_translation.specs.Replays.{level_of_first, step_in}
use Rattle.tree_translation.specs.RunTerms.{no_term, on_side, rule_names}
use Rattle.tree_translation.specs.SolutionTerms.{delete_term, solve_left_term, solve_right_term}
use Rattle.tree_translation.specs.Standings.{Standing, here, state_term}
use Rattle.run_terms.specs.CodeConfusions.{conflict_made, inject_made}
use Rattle.run_terms.specs.CodeRuns.{after_step}

-- an answer that is made from the sides of a step, or Deep where one of them is too high
abbrev pub if_low_sides : {A : Type 0} → Step → Result A Stop → Result A Stop
if_low_sides step made = cond (is_low step.left && is_low step.right) made (Err Deep)

abbrev pub on_comparison_made : Option Comparison → (Comparison → Result Term Stop) → Result Term Stop
on_comparison_made None made = Ok no_term
on_comparison_made (Some c) made = made c

abbrev pub injection_made : Signature → Naming → (L : ℕ) → Standing → Step → (N : Term) → Result Term Stop
injection_made S number L s step N =
    on_comparison_made (compared S s.state step) (λ c. inject_made number L s (step.group - 1) c N)

abbrev pub refutation_made : Signature → Naming → (L : ℕ) → Standing → Step → Result Term Stop
refutation_made S number L s step =
    on_comparison_made (compared S s.state step) (conflict_made number L s (step.group - 1))

abbrev pub acyclicity_term : Signature → Naming → (L : ℕ) → Standing → Step → (x : ℕ) → Term
acyclicity_term S number L s step x =
    on_side step.left step.right (built_of S step.left) (built_of S step.right) (cycle_term number L s x)

-- the term of a rule that reads the sides of its step as constructors
abbrev pub sides_made : Signature → Naming → (L : ℕ) → Standing → Step → Rule → (N : Term) → Result Term Stop
sides_made S number L s step (Inject n c) N = injection_made S number L s step N
sides_made S number L s step (Conflict n c d) N = refutation_made S number L s step
sides_made S number L s step (Cycle x) N = Ok (acyclicity_term S number L s step x)
sides_made S number L s step rule N = Ok no_term

-- the term of a step by its rule, from the next state's term N
abbrev pub rule_made : Signature → Naming → (L : ℕ) → Standing → Step → Rule → (N : Term) → Result Term Stop
rule_made S number L s step (SolveRight x) N = Ok (solve_right_term L s x step.ty step.left N)
rule_made S number L s step (SolveLeft x) N = Ok (solve_left_term number L s x step.ty step.right N)
rule_made S number L s step Delete N = Ok (delete_term L s step.ty step.left N)
rule_made S number L s step rule N = if_low_sides step (sides_made S number L s step rule N)

-- the term of a step of a run, from the term after the equations of the next standing
abbrev pub step_made : Signature → Naming → (L : ℕ) → Standing → Step → (next : Standing) (inner : Term) → Result Term Stop
step_made S number L s step next inner =
    rule_made S number L s (step_in s step) (step_in s step).rule (state_term next inner)

-- the term of a state after its equations, from the steps that are left and an end over the last context
abbrev pub run_made : Signature → Naming → (L : ℕ) → (end : Term) → List Step → Standing → Result Term Stop
run_made S number L end [] s = Ok (here s end)
run_made S number L end (step ∷ steps) s =
    and_then (after_step S s step) (λ next. and_then (run_made S number L end steps next) (step_made S number L s step next))

-- ---- the names, after those that are there

abbrev pub rule_names_made : Signature → (L : ℕ) → Standing → Step → Rule → (names : List (List ℕ)) → Result (List (List ℕ)) Stop
rule_names_made S L s step (SolveRight x) names = Ok names
rule_names_made S L s step (SolveLeft x) names = Ok (names ++ left_name (level_of_first s.state.equations) L ∷ [])
rule_names_made S L s step Delete names = Ok names
rule_names_made S L s step rule names = if_low_sides step (Ok (names ++ rule_names S L s step rule))

abbrev pub step_names_made : Signature → (L : ℕ) → Standing → Step → (names : List (List ℕ)) → Result (List (List ℕ)) Stop
step_names_made S L s step names = rule_names_made S L s (step_in s step) (step_in s step).rule names

abbrev pub run_names_made : Signature → (L : ℕ) → List Step → Standing → (names : List (List ℕ)) → Result (List (List ℕ)) Stop
run_names_made S L [] s names = Ok names
run_names_made S L (step ∷ steps) s names =
    and_then (step_names_made S L s step names) (λ all. and_then (after_step S s step) (λ next. run_names_made S L steps next all))

-- the names of a run after the given ones, and the standing after the run
abbrev pub run_ended : Signature → (L : ℕ) → List Step → Standing → (names : List (List ℕ)) → Result (List (List ℕ) × Standing) Stop
run_ended S L [] s names = Ok (names, s)
run_ended S L (step ∷ steps) s names =
    and_then (step_names_made S L s step names) (λ all. and_then (after_step S s step) (λ next. run_ended S L steps next all))
