use Rattle.std.proofs.Common.{ℕ, Ok, List, map, ap, ap₂, ◌++◌, ◌∙◌, subst as transport}
use Rattle.theory.specs.Terms.{Term}
use Rattle.theory.specs.Substitutions.{fill, inst}
use Rattle.theory.specs.Eliminators.{no_variable}
use Rattle.core_terms.specs.Answers.{Gives}
use Rattle.core_terms.specs.Meanings.{tele_of}
use Rattle.core_terms.proofs.Builders.{ok_is}
use Rattle.run_terms.proofs.Fillings.{fill-both}
use Rattle.run_terms.proofs.comparisons.targets.Goals as goal

pub returns : goal.returns
returns c =
    let P : List Term → Type 0 = λ terms. Gives tele_of c.all_instantiated.result (Ok terms) in
    let ps = tele_of c.args.ps.now in
    let at : (ℕ → Term) → List Term → List Term = λ s terms. map (inst s) terms in
    let values = ap tele_of c.as_slice-2.ensures
    ∙ (ok_is c.in_ok-values.ensures ∙ ap (λ us. ps ++ tele_of us) c.as_slice.ensures) in
    transport P
    (ap₂ at (ap (fill no_variable) values ∙ fill-both no_variable ps (tele_of c.args.m.now.arguments)) (ap tele_of c.as_slice-targets.ensures))
    c.all_instantiated.ensures
