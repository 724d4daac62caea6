-- Steps and runs as the code replays them: Deep comes where a side of an injectivity, or something in its equations, is too high.
use Rattle.std.specs.Prelude.{ℕ, ◌==◌, ◌&&◌, cond, Option, Some, None, List, [], ◌∷◌, length, Result, Ok, Err}
use Rattle.theory.specs.Signatures.{Signature}
use Rattle.core_terms.specs.Answers.{and_then, is_low}
use Rattle.core_terms.specs.CaseTrees.{Step}
use Rattle.core_terms.specs.declared.case_tree.Rule.{Rule}
use Rattle.core_terms.specs.declared.case_tree.Rule.TheVariants.{SolveRight, SolveLeft, Inject, Delete}
use Rattle.core_terms.specs.declared.stop.Stop.{Stop}
use Rattle.core_terms.specs.declared.stop.Stop.TheVariants.{Deep}
use Rattle.tree_translation.specs.Comparisons.{Comparison, compared}
use Rattle.tree_translation.specs.Replays.{deleted_standing, solved_standing, step_in}
use Rattle.tree_translation.specs.Standings.{Standing}
use Rattle.run_terms.specs.CodeInjections.{standing_made}

abbrev pub injected_one : Standing → (g : ℕ) → Comparison → Result Standing Stop
injected_one s g c = cond (length c.parameters == length c.family.parameters) (standing_made s g c) (Err Deep)

abbrev pub injected_if_there : Standing → (g : ℕ) → Option Comparison → Result Standing Stop
injected_if_there s g None = Ok s
injected_if_there s g (Some c) = injected_one s g c

abbrev pub after_comparison : Signature → Standing → Step → Result Standing Stop
after_comparison S s step = injected_if_there s step.group (compared S s.state step)

abbrev pub after_injection : Signature → Standing → Step → Result Standing Stop
after_injection S s step = cond (is_low step.left && is_low step.right) (after_comparison S s step) (Err Deep)

abbrev pub after_rule : Signature → Standing → Step → Rule → Result Standing Stop
after_rule S s step (SolveRight x) = Ok (solved_standing s x step.ty step.left)
after_rule S s step (SolveLeft x) = Ok (solved_standing s x step.ty step.right)
after_rule S s step (Inject n number) = after_injection S s step
after_rule S s step Delete = Ok (deleted_standing s step.ty step.left)
after_rule S s step rule = Ok s

abbrev pub after_step : Signature → Standing → Step → Result Standing Stop
after_step S s step = after_rule S s (step_in s step) (step_in s step).rule

abbrev pub after_run : Signature → List Step → Standing → Result Standing Stop
after_run S [] s = Ok s
after_run S (step ∷ steps) s = and_then (after_step S s step) (after_run S steps)
