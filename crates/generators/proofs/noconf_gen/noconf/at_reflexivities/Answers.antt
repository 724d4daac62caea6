use Rattle.std.proofs.Common.{◌+◌, Ok, length, ap, ap₂, ◌∙◌, subst}
use Rattle.theory.specs.Terms.{Term}
use Rattle.theory.specs.Telescopes.{applied}
use Rattle.core_terms.specs.Answers.{Gives}
use Rattle.core_terms.specs.Levels.{run}
use Rattle.core_terms.specs.Meanings.{tree_of, tele_of}
use Rattle.core_terms.proofs.Builders.{ok_is}
use Rattle.core_sig.specs.Shapes.{constructor_shape, shape_of}
use Rattle.tele_eq.specs.TelescopicEquality.{reflexivities}
use Rattle.generators.specs.noconf_gen.Compared.{argument_items}
use Rattle.generators.proofs.noconf_gen.noconf.at_reflexivities.Goals as goal

pub returns : goal.returns
returns c =
    let s = c.args.subject in
    let d = constructor_shape s.con.now in
    let p = length (shape_of s.family.now).parameters in
    let inside = c.args.depth + 2 in
    let P : Term → Type 0 = λ x. Gives tree_of c.applied.result (Ok x) in
    let items = ok_is c.in_ok-items.ensures.is ∙ ap (λ x. argument_items x inside d) c.parameter_count-params.ensures in
    let terms = ok_is c.in_ok-terms.ensures.is ∙ (ap (λ x. run inside x c.arity-count.result) c.parameter_count-params.ensures ∙ ap (run inside p) c.arity-count.ensures) in
    let refls = ap tele_of c.into_vec.ensures ∙ (ok_is c.in_ok-reflexivities.ensures ∙ ap₂ reflexivities items terms) in
    subst P (ap₂ applied c.variable.ensures refls) c.applied.ensures
