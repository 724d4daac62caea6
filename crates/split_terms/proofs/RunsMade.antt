-- The term and the names that the code makes of a run are those that are meant.
use Rattle.std.proofs.Common.{◌≡◌, ℕ, ◌-◌, ◌&&◌, Bool, true, false, cond, Option, Some, None, List, [], ◌∷◌, ◌++◌, Result, Ok, Err, sym, ap, ap₂, ◌∙◌, append_assoc}
use Rattle.theory.specs.Terms.{Term}
use Rattle.theory.specs.Signatures.{Signature}
use Rattle.core_terms.specs.Answers.{and_then, is_low}
use Rattle.core_terms.specs.CaseTrees.{Step}
use Rattle.core_terms.specs.declared.case_tree.Rule.{Rule}
use Rattle.core_terms.specs.declared.case_tree.Rule.TheVariants.{SolveRight, SolveLeft, Inject, Conflict, Cycle, Delete}
use Rattle.core_terms.specs.declared.stop.Stop.{Stop}
use Rattle.core_terms.specs.declared.stop.Stop.TheVariants.{Deep}
use Rattle.core_terms.proofs.Builders.{ok_is}
use Rattle.tele_eq.proofs.Growing.{append-none}
use Rattle.tree_translation.specs.Comparisons.{Comparison, compared}
use Rattle.tree_translation.specs.ConfusionTerms.{conflict_term, inject_term}
use Rattle.tree_translation.specs.Naming.{Naming}
use Rattle.tree_translation.specs.Replays.{behind_step, step_in}
use Rattle.tree_translation.specs.RunTerms.{on_comparison, rule_names, rule_term, run_names, run_term}
use Rattle.tree_translation.specs.Standings.{Standing, state_term}
use Rattle.run_terms.specs.CodeConfusions.{conflict_made, inject_made}
use Rattle.run_terms.specs.CodeRuns.{after_step}
use Rattle.run_terms.proofs.MadeTerms.{conflict-is, if-both, inject-is}
use Rattle.split_terms.specs.CodeRunTerms.{on_comparison_made, rule_made, rule_names_made, run_made, run_names_made, sides_made, step_made, step_names_made}
use Rattle.split_terms.specs.Laws.{NamesAreThese, RunIsTerm}

-- an answer that is made where a test holds
pub if-sides : {A : Type 0} (b : Bool) (made : Result A Stop) (x : A) → cond b made (Err Deep) ≡ Ok x → made ≡ Ok x
if-sides true made x e = e
if-sides false made x e = absurd (cc)

pub on-found : (found : Option Comparison) (made : Comparison → Result Term Stop) (term : Comparison → Term) (t : Term)
    → ((c : Comparison) → made c ≡ Ok t → t ≡ term c) → on_comparison_made found made ≡ Ok t → t ≡ on_comparison found term
on-found None made term t is e = sym (ok_is e)
on-found (Some c) made term t is e = is c e

-- ---- terms

pub sides-are : (S : Signature) (number : Naming) (L : ℕ) (s : Standing) (step : Step) (rule : Rule) (N t : Term)
    → (cond (is_low step.left && is_low step.right) (sides_made S number L s step rule N) (Err Deep)) ≡ Ok t
    → sides_made S number L s step rule N ≡ Ok t
sides-are S number L s step rule N t e =
    if-sides (is_low step.left && is_low step.right) (sides_made S number L s step rule N) t e

pub rule-is : (S : Signature) (number : Naming) (L : ℕ) (s : Standing) (step : Step) (rule : Rule) (N t : Term)
    → rule_made S number L s step rule N ≡ Ok t → t ≡ rule_term S number L s step rule N
rule-is S number L s step (SolveRight x) N t e = sym (ok_is e)
rule-is S number L s step (SolveLeft x) N t e = sym (ok_is e)
rule-is S number L s step (Inject n c) N t e =
    on-found (compared S s.state step)
    (λ comparison. inject_made number L s (step.group - 1) comparison N)
    (λ comparison. inject_term number L s (step.group - 1) comparison N)
    t (λ comparison. inject-is number L s (step.group - 1) comparison N t)
    (sides-are S number L s step (Inject n c) N t e)
rule-is S number L s step (Conflict n c d) N t e =
    on-found (compared S s.state step) (conflict_made number L s (step.group - 1)) (conflict_term number L s (step.group - 1)) t
    (λ comparison. conflict-is number L s (step.group - 1) comparison t)
    (sides-are S number L s step (Conflict n c d) N t e)
rule-is S number L s step (Cycle x) N t e = sym (ok_is (sides-are S number L s step (Cycle x) N t e))
rule-is S number L s step Delete N t e = sym (ok_is e)

pub run-is : RunIsTerm
run-is S these number L end [] s t e = sym (ok_is e)
run-is S these number L end (step ∷ steps) s t e =
    let first =
    if-both (after_step S s step) (λ next. and_then (run_made S number L end steps next) (step_made S number L s step next)) t e
    in
    let second = if-both (run_made S number L end steps first.0) (step_made S number L s step first.0) t first.2 in
    let same = these s step first.0 first.1 in
    rule-is S number L s (step_in s step) (step_in s step).rule (state_term first.0 second.0) t second.2
    ∙ ap₂ (λ next inner. rule_term S number L s (step_in s step) (step_in s step).rule (state_term next inner)) same
    (run-is S these number L end steps first.0 second.0 second.1 ∙ ap (run_term S number L end steps) same)

-- ---- names

pub rule-names-are : (S : Signature) (L : ℕ) (s : Standing) (step : Step) (rule : Rule) (names all : List (List ℕ))
    → rule_names_made S L s step rule names ≡ Ok all → all ≡ names ++ rule_names S L s step rule
rule-names-are S L s step (SolveRight x) names all e = sym (ok_is e) ∙ sym (append-none names)
rule-names-are S L s step (SolveLeft x) names all e = sym (ok_is e)
rule-names-are S L s step (Inject n c) names all e =
    sym (ok_is (if-sides (is_low step.left && is_low step.right) (Ok (names ++ rule_names S L s step (Inject n c))) all e))
rule-names-are S L s step (Conflict n c d) names all e =
    sym (ok_is (if-sides (is_low step.left && is_low step.right) (Ok (names ++ rule_names S L s step (Conflict n c d))) all e))
rule-names-are S L s step (Cycle x) names all e =
    sym (ok_is (if-sides (is_low step.left && is_low step.right) (Ok (names ++ rule_names S L s step (Cycle x))) all e))
rule-names-are S L s step Delete names all e = sym (ok_is e) ∙ sym (append-none names)

pub names-are : NamesAreThese
names-are S these L [] s names all e = sym (ok_is e) ∙ sym (append-none names)
names-are S these L (step ∷ steps) s names all e =
    let first =
    if-both (step_names_made S L s step names)
    (λ some. and_then (after_step S s step) (λ next. run_names_made S L steps next some)) all e
    in
    let second = if-both (after_step S s step) (λ next. run_names_made S L steps next first.0) all first.2 in
    let own = rule_names S L s (step_in s step) (step_in s step).rule in
    names-are S these L steps second.0 first.0 all second.2
    ∙ (ap₂ (λ some next. some ++ run_names S L steps next)
    (rule-names-are S L s (step_in s step) (step_in s step).rule names first.0 first.1) (these s step second.0 second.1)
    ∙ append_assoc names own (run_names S L steps (behind_step S s step)))
