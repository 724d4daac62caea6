-- The term of a run by its first step.
use Rattle.std.proofs.Common.{◌≡◌, ℕ, Result, Ok, List, ◌∷◌, ap, ◌∙◌}
use Rattle.theory.specs.Terms.{Term}
use Rattle.theory.specs.Signatures.{Signature}
use Rattle.core_terms.specs.Answers.{and_then}
use Rattle.core_terms.specs.CaseTrees.{Step}
use Rattle.core_terms.specs.declared.stop.Stop.{Stop}
use Rattle.tree_translation.specs.Naming.{Naming}
use Rattle.tree_translation.specs.Standings.{Standing}
use Rattle.run_terms.specs.CodeRuns.{after_step}
use Rattle.split_terms.specs.CodeRunTerms.{run_made, step_made}

pub run-next : (S : Signature) (number : Naming) (L : ℕ) (end : Term) (steps rest : List Step) (step : Step) (s next : Standing) (inner : Term)
    → steps ≡ step ∷ rest → ◌≡◌ {A = Result Standing Stop} (Ok next) (after_step S s step)
    → ◌≡◌ {A = Result Term Stop} (Ok inner) (run_made S number L end rest next)
    → step_made S number L s step next inner ≡ run_made S number L end steps s
run-next S number L end steps rest step s next inner es after made =
    rw es
    (ap (λ r. and_then r (step_made S number L s step next)) made
    ∙ ap (λ r. and_then r (λ next. and_then (run_made S number L end rest next) (step_made S number L s step next))) after)
