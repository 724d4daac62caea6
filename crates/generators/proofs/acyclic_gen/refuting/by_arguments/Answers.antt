use Rattle.std.proofs.Common.{Ok, ap, ◌∙◌, subst₂}
use Rattle.theory.specs.Telescopes.{functions}
use Rattle.core_terms.specs.Answers.{Gives}
use Rattle.core_terms.specs.Meanings.{tree_of, tele_of}
use Rattle.core_terms.proofs.Builders.{ok_is}
use Rattle.generators.proofs.acyclic_gen.refuting.by_arguments.Goals as goal

pub returns : goal.returns
returns c =
    subst₂ (λ tele end. Gives tree_of c.functions.result (Ok (functions tele end)))
    (ap tele_of c.into_vec.ensures ∙ ok_is c.in_ok-equations.ensures) (ok_is c.in_ok-end.ensures) c.functions.ensures
