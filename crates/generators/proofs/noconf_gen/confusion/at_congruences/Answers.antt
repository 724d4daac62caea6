use Rattle.std.proofs.Common.{◌+◌, Ok, ap, ap₂, ◌∙◌, subst}
use Rattle.theory.specs.Terms.{Term}
use Rattle.theory.specs.Telescopes.{applied}
use Rattle.core_terms.specs.Answers.{Gives}
use Rattle.core_terms.specs.Levels.{variable}
use Rattle.core_terms.specs.Meanings.{tree_of, tele_of}
use Rattle.core_terms.proofs.Builders.{ok_is}
use Rattle.core_sig.specs.Shapes.{constructor_shape, shape_of}
use Rattle.generators.specs.noconf_gen.NoConfusionTypes.{congruences_at}
use Rattle.generators.proofs.noconf_gen.confusion.at_congruences.Goals as goal

pub returns : goal.returns
returns c =
    let s = c.args.subject in
    let f = shape_of s.family.now in
    let d = constructor_shape s.con.now in
    let depth = c.args.depth in
    let P : Term → Type 0 = λ x. Gives tree_of c.applied.result (Ok x) in
    let congruences = ap tele_of c.into_vec.ensures ∙ (ok_is c.in_ok-congruences.ensures ∙ ap (λ x. congruences_at s.fam f s.number d c.args.first c.args.second depth (depth + x)) c.arity.ensures) in
    subst P (ap₂ applied (c.variable.ensures ∙ ap (λ x. variable (depth + x) c.args.motive) c.arity.ensures) congruences) c.applied.ensures
