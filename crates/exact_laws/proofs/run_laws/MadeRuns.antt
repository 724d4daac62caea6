-- The term and the names of a run that the code makes are those that are meant, and the only refusal is Deep.
use Rattle.std.proofs.Common.{ℕ, zero, suc, ◌-◌, ◌&&◌, Option, Some, None, List, [], ◌∷◌, Result}
use Rattle.theory.specs.Terms.{Term}
use Rattle.theory.specs.Signatures.{Signature}
use Rattle.core_terms.specs.Answers.{is_low}
use Rattle.core_terms.specs.CaseTrees.{Step}
use Rattle.core_terms.specs.declared.case_tree.Rule.{Rule}
use Rattle.core_terms.specs.declared.case_tree.Rule.TheVariants.{SolveRight, SolveLeft, Inject, Conflict, Cycle, Delete}
use Rattle.core_terms.specs.declared.stop.Stop.{Stop}
use Rattle.tree_translation.specs.Comparisons.{Comparison, compared}
use Rattle.tree_translation.specs.Naming.{Naming}
use Rattle.tree_translation.specs.Replays.{step_in}
use Rattle.tree_translation.specs.Standings.{Standing, state_term}
use Rattle.run_terms.specs.CodeConfusions.{before_group, compared_made, conflict_made, inject_made, member_equations}
use Rattle.run_terms.specs.CodeRuns.{after_step}
use Rattle.split_terms.specs.CodeRunTerms.{on_comparison_made, rule_made, rule_names_made, run_made, run_names_made, sides_made, step_names_made}
use Rattle.split_terms.proofs.RunsMade.{names-are, run-is}
use Rattle.entry_laws.proofs.replay_laws.ReplayedSteps.{OnlyDeep, after_step-is_step, if-deep, never, rule-deep, then-deep}
use Rattle.exact_laws.specs.run_laws.Laws.{RunMadeIsTerm, RunNamesAreThese, RunOnlyDeep}

pub run_made-is_term : RunMadeIsTerm
run_made-is_term S number L end steps s t e = run-is S (after_step-is_step S) number L end steps s t e

pub run_names-are_these : RunNamesAreThese
run_names-are_these S L steps s names all e = names-are S (after_step-is_step S) L steps s names all e

-- ---- refusals

compared-deep : (s : Standing) (c : Comparison) → OnlyDeep (compared_made s c)
compared-deep s c = then-deep (member_equations c) _ (if-deep _ _ (never _)) (λ types. never _)

group-deep : (c : Comparison) (k : ℕ) → OnlyDeep (before_group c k)
group-deep c zero = if-deep _ _ (never _)
group-deep c (suc k) = never _

inject-deep : (number : Naming) (L : ℕ) (s : Standing) (k : ℕ) (c : Comparison) (N : Term) → OnlyDeep (inject_made number L s k c N)
inject-deep number L s k c N =
    then-deep (compared_made s c) _ (compared-deep s c) (λ types. then-deep (before_group c k) _ (group-deep c k) (λ before. never _))

conflict-deep : (number : Naming) (L : ℕ) (s : Standing) (k : ℕ) (c : Comparison) → OnlyDeep (conflict_made number L s k c)
conflict-deep number L s k c =
    then-deep (compared_made s c) _ (compared-deep s c) (λ types. then-deep (before_group c k) _ (group-deep c k) (λ before. never _))

found-deep : (found : Option Comparison) (made : Comparison → Result Term Stop) → ((c : Comparison) → OnlyDeep (made c))
    → OnlyDeep (on_comparison_made found made)
found-deep None made h = never _
found-deep (Some c) made h = h c

sides-deep : (S : Signature) (number : Naming) (L : ℕ) (s : Standing) (step : Step) (rule : Rule) (N : Term)
    → OnlyDeep (sides_made S number L s step rule N)
sides-deep S number L s step (SolveRight x) N = never _
sides-deep S number L s step (SolveLeft x) N = never _
sides-deep S number L s step (Inject n c) N =
    found-deep (compared S s.state step) (λ c. inject_made number L s (step.group - 1) c N) (λ c. inject-deep number L s (step.group - 1) c N)
sides-deep S number L s step (Conflict n c d) N =
    found-deep (compared S s.state step) (conflict_made number L s (step.group - 1)) (conflict-deep number L s (step.group - 1))
sides-deep S number L s step (Cycle x) N = never _
sides-deep S number L s step Delete N = never _

made-deep : (S : Signature) (number : Naming) (L : ℕ) (s : Standing) (step : Step) (rule : Rule) (N : Term)
    → OnlyDeep (rule_made S number L s step rule N)
made-deep S number L s step (SolveRight x) N = never _
made-deep S number L s step (SolveLeft x) N = never _
made-deep S number L s step (Inject n c) N =
    if-deep (is_low step.left && is_low step.right) (sides_made S number L s step (Inject n c) N) (sides-deep S number L s step (Inject n c) N)
made-deep S number L s step (Conflict n c d) N =
    if-deep (is_low step.left && is_low step.right) (sides_made S number L s step (Conflict n c d) N) (sides-deep S number L s step (Conflict n c d) N)
made-deep S number L s step (Cycle x) N =
    if-deep (is_low step.left && is_low step.right) (sides_made S number L s step (Cycle x) N) (sides-deep S number L s step (Cycle x) N)
made-deep S number L s step Delete N = never _

pub run-only_deep : RunOnlyDeep
run-only_deep S number L end [] s = never _
run-only_deep S number L end (step ∷ steps) s =
    then-deep (after_step S s step) _ (rule-deep S s (step_in s step) (step_in s step).rule) (λ next.
    then-deep (run_made S number L end steps next) _ (run-only_deep S number L end steps next) (λ inner.
    made-deep S number L s (step_in s step) (step_in s step).rule (state_term next inner)))

-- ---- names

rule-names-deep : (S : Signature) (L : ℕ) (s : Standing) (step : Step) (rule : Rule) (names : List (List ℕ)) → OnlyDeep (rule_names_made S L s step rule names)
rule-names-deep S L s step (SolveRight x) names = never _
rule-names-deep S L s step (SolveLeft x) names = never _
rule-names-deep S L s step (Inject n c) names = if-deep _ _ (never _)
rule-names-deep S L s step (Conflict n c d) names = if-deep _ _ (never _)
rule-names-deep S L s step (Cycle x) names = if-deep _ _ (never _)
rule-names-deep S L s step Delete names = never _

pub run-names-deep : (S : Signature) (L : ℕ) (steps : List Step) (s : Standing) (names : List (List ℕ)) → OnlyDeep (run_names_made S L steps s names)
run-names-deep S L [] s names = never _
run-names-deep S L (step ∷ steps) s names =
    then-deep (step_names_made S L s step names) _ (rule-names-deep S L s (step_in s step) (step_in s step).rule names) (λ all.
    then-deep (after_step S s step) _ (rule-deep S s (step_in s step) (step_in s step).rule) (λ next. run-names-deep S L steps next all))
