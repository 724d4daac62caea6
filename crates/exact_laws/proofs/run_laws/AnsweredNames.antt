-- The names of a run that unification answers are made.
use Rattle.std.proofs.Common.{◌≡◌, ℕ, ◌+◌, List, [], ◌∷◌, ◌++◌, Result, Ok, refl, ap, ◌∙◌}
use Rattle.theory.specs.Terms.{Var}
use Rattle.theory.specs.Signatures.{Signature}
use Rattle.core_terms.specs.Answers.{and_then}
use Rattle.core_terms.specs.CaseTrees.{Step}
use Rattle.core_terms.specs.declared.case_tree.Rule.TheVariants.{Inject, Conflict, Cycle}
use Rattle.core_terms.specs.declared.stop.Stop.{Stop}
use Rattle.unification.specs.Outcomes.{steps_in}
use Rattle.unification.specs.Rules.{IsAbsurd, Steps, conflict, conflict_group, cycle_left, cycle_right, delete, inject, inject_group, solve_left, solve_right}
use Rattle.unification.specs.States.{State}
use Rattle.tree_translation.specs.Replays.{behind_step, step_in}
use Rattle.tree_translation.specs.RunTerms.{rule_names}
use Rattle.tree_translation.specs.Standings.{Standing}
use Rattle.run_terms.specs.CodeRuns.{after_step}
use Rattle.split_terms.specs.CodeRunTerms.{run_names_made, step_names_made}
use Rattle.entry_laws.proofs.replay_laws.AnsweredRuns.{last-there, step-there}
use Rattle.entry_laws.proofs.replay_laws.LowInjections.{IsLowBy}
use Rattle.entry_laws.proofs.replay_laws.RunsAlong.{problem-along}
use Rattle.entry_laws.proofs.replay_laws.SeenComparisons.{step_of}
use Rattle.exact_laws.specs.run_laws.Laws.{RunNamesAnswer}
use Rattle.exact_laws.proofs.run_laws.AnsweredTerms.{low-sides-there, seen-sides}
use Rattle.exact_laws.proofs.run_laws.MadeRuns.{run_names-are_these}

-- they are made
abbrev IsThere : Result (List (List ℕ)) Stop → Type 0
IsThere r = (all : List (List ℕ)) × (r ≡ Ok all)

step-names : (S : Signature) (L : ℕ) (s t : State) (step : Step) (w : Standing) (names : List (List ℕ)) → Steps S s step t → IsLowBy S s step step.rule
    → IsThere (step_names_made S L w step names)
step-names S L s t _ w names (solve_right _ e x A u first solvable) low = (_, refl)
step-names S L s t _ w names (solve_left _ e x A u first solvable) low = (_, refl)
step-names S L s t _ w names (inject_group _ k f ps type b d left right same same_number group) low =
    let step : Step = step_of (k + 1) (Inject b.n b.number) type b d in
    (_, low-sides-there (step_in w step) (Ok (names ++ rule_names S L w (step_in w step) (step_in w step).rule)) (seen-sides w step low.left low.right))
step-names S L s t _ w names (inject _ e A b d left right same same_number level indices first) low =
    let step : Step = step_of 1 (Inject b.n b.number) A b d in
    (_, low-sides-there (step_in w step) (Ok (names ++ rule_names S L w (step_in w step) (step_in w step).rule)) (seen-sides w step low.left low.right))
step-names S L s t _ w names (delete _ e A u v k first converts) low = (_, refl)

last-names : (S : Signature) (L : ℕ) (s : State) (step : Step) (w : Standing) (names : List (List ℕ)) → IsAbsurd S s step → IsLowBy S s step step.rule
    → IsThere (step_names_made S L w step names)
last-names S L s _ w names (conflict_group _ k f ps type b d left right same other group) low =
    let step : Step = step_of (k + 1) (Conflict b.n b.number d.number) type b d in
    (_, low-sides-there (step_in w step) (Ok (names ++ rule_names S L w (step_in w step) (step_in w step).rule)) (seen-sides w step low.left low.right))
last-names S L s _ w names (conflict _ e A b d left right same other level first) low =
    let step : Step = step_of 1 (Conflict b.n b.number d.number) A b d in
    (_, low-sides-there (step_in w step) (Ok (names ++ rule_names S L w (step_in w step) (step_in w step).rule)) (seen-sides w step low.left low.right))
last-names S L s _ w names (cycle_left _ e n x A v first below) low =
    let step : Step = record { group = 1; rule = Cycle x; ty = A; left = Var x; right = v } in
    (_, low-sides-there (step_in w step) (Ok (names ++ rule_names S L w (step_in w step) (step_in w step).rule)) (seen-sides w step low.left low.right))
last-names S L s _ w names (cycle_right _ e n x A u first below) low =
    let step : Step = record { group = 1; rule = Cycle x; ty = A; left = u; right = Var x } in
    (_, low-sides-there (step_in w step) (Ok (names ++ rule_names S L w (step_in w step) (step_in w step).rule)) (seen-sides w step low.left low.right))

abbrev AreNamesMade : Signature → Standing → List Step → Type 0
AreNamesMade S w steps = (L : ℕ) (names : List (List ℕ)) → IsThere (run_names_made S L steps w names)

-- one step, from its parts
one-step : (S : Signature) (L : ℕ) (step : Step) (steps : List Step) (w next : Standing) (names : List (List ℕ))
    → IsThere (step_names_made S L w step names) → after_step S w step ≡ Ok next → AreNamesMade S next steps
    → IsThere (run_names_made S L (step ∷ steps) w names)
one-step S L step steps w next names first second rest =
    let last = rest L first.0 in (
      last.0,
      ap (λ (r : Result (List (List ℕ)) Stop). and_then r (λ all. and_then (after_step S w step) (λ next. run_names_made S L steps next all))) first.1
          ∙ (ap (λ (r : Result Standing Stop). and_then r (λ next. run_names_made S L steps next first.0)) second ∙ last.1),
    )

pub run_names-answer : RunNamesAnswer
run_names-answer S p outcome w L names is =
    let there =
    problem-along S (AreNamesMade S)
    (record {
      at_end = λ w L names. (names, refl);
      at_step = λ s t step steps w follows low widens rest L names.
          one-step S L step steps w (behind_step S w step) names (step-names S L s t step w names follows low) (step-there S s t step w follows low) rest;
      at_last = λ s step w shows low widens L names.
          one-step S L step [] w (behind_step S w step) names (last-names S L s step w names shows low) (last-there S s step w shows)
          (λ L names. (names, refl));
    })
    p outcome w is.ready is.scoped is.runs is.widens L names in
    there.1 ∙ ap (λ all. Ok all) (run_names-are_these S L (steps_in outcome) w names there.0 there.1)
