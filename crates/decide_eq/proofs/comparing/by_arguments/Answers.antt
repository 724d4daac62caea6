use Rattle.std.proofs.Common.{Ok, ap, ap₂, ◌∙◌, subst₂}
use Rattle.theory.specs.Telescopes.{functions}
use Rattle.theory.specs.Terms.Term.{App}
use Rattle.core_terms.specs.Answers.{Gives}
use Rattle.core_terms.specs.Meanings.{tree_of, tele_of}
use Rattle.core_terms.proofs.Builders.{ok_is}
use Rattle.decide_eq.proofs.comparing.by_arguments.Goals as goal

pub returns : goal.returns
returns c =
    subst₂ (λ tele end. Gives tree_of c.functions.result (Ok (functions tele end)))
    (ap tele_of c.into_vec-equations.ensures ∙ ok_is c.in_ok-argument_equations.ensures) (ok_is c.in_ok-end.ensures ∙ ap₂ App c.variable.ensures c.variable-equation.ensures) c.functions.ensures
