use Rattle.std.proofs.Common.{Ok, List, map, ap, ◌++◌, ◌∙◌, subst as transport}
use Rattle.theory.specs.Terms.{Term}
use Rattle.theory.specs.Eliminators.{no_variable}
use Rattle.theory.specs.Substitutions.{fill, inst}
use Rattle.theory.specs.Telescopes.{variables}
use Rattle.core_terms.specs.Answers.{Gives}
use Rattle.core_terms.specs.Meanings.{tele_of}
use Rattle.core_terms.proofs.Builders.{ok_is}
use Rattle.run_terms.proofs.injecting.targets_after.Goals as goal

pub returns : goal.returns
returns c =
    let P : List Term → Type 0 = λ values.
    Gives tele_of c.all_instantiated.result (Ok (map (inst (fill no_variable values)) (tele_of c.args.targets.now))) in
    transport P
    (ap tele_of c.as_slice.ensures
    ∙ (ok_is c.in_ok-values.ensures ∙ ap (λ ts. ts ++ variables c.args.count) (ok_is c.in_ok-raised.ensures)))
    c.all_instantiated.ensures
