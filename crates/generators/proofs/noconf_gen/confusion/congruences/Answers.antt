use Rattle.std.proofs.Common.{◌+◌, length, ap, ◌∙◌}
use Rattle.core_terms.specs.Levels.{run}
use Rattle.core_terms.proofs.Builders.{ok_is}
use Rattle.core_sig.specs.Shapes.{constructor_shape, shape_of}
use Rattle.generators.specs.noconf_gen.Compared.{argument_items, member_items, constructed}
use Rattle.generators.proofs.noconf_gen.SameParts.{congruences-same}
use Rattle.generators.proofs.noconf_gen.confusion.congruences.Goals as goal

pub returns : goal.returns
returns c =
    let s = c.args.subject in
    let f = shape_of s.family.now in
    let d = constructor_shape s.con.now in
    let p = length f.parameters in
    let k = length f.indices in
    let depth = c.args.depth in
    let count = length d.arguments in
    congruences-same c.congruences_along.result _ (argument_items p depth d) _ (member_items s.fam f depth) _ (constructed s.fam p k s.number depth d (depth + count))
    _ (run depth c.args.first count) _ (run depth c.args.second count) _ (run depth c.args.start count)
    (ok_is c.in_ok-from.ensures.is ∙ ap (λ x. argument_items x depth d) c.parameter_count-params.ensures) (ok_is c.in_ok-to.ensures.is)
    (ok_is c.in_ok-terms.ensures.is
    ∙ (ap (λ x. constructed s.fam x c.index_count-indices.result s.number depth d (depth + c.arity-count.result)) c.parameter_count-params.ensures
    ∙ (ap (λ x. constructed s.fam p x s.number depth d (depth + c.arity-count.result)) c.index_count-indices.ensures
    ∙ ap (λ x. constructed s.fam p k s.number depth d (depth + x)) c.arity-count.ensures)))
    (ap (run depth c.args.first) c.arity-count.ensures) (ap (run depth c.args.second) c.arity-count.ensures)
    (ap (run depth c.args.start) c.arity-count.ensures) c.congruences_along.ensures
