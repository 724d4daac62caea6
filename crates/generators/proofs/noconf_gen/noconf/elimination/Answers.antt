use Rattle.std.proofs.Common.{◌≡◌, ◌+◌, length, ap, ◌∙◌}
use Rattle.theory.specs.Terms.Term.{Const}
use Rattle.theory.specs.Telescopes.{applied}
use Rattle.core_terms.specs.Levels.{run}
use Rattle.core_terms.specs.Meanings.{tree_of}
use Rattle.core_terms.proofs.Builders.{ok_is}
use Rattle.core_sig.specs.Shapes.{constructor_shape, shape_of}
use Rattle.generators.specs.noconf_gen.Compared.{member_items, constructed}
use Rattle.generators.proofs.noconf_gen.SameParts.{elimination-same}
use Rattle.generators.proofs.noconf_gen.noconf.elimination.Goals as goal

pub returns : goal.returns
returns c =
    let s = c.args.subject in
    let f = shape_of s.family.now in
    let d = constructor_shape s.con.now in
    let p = length f.parameters in
    let k = length f.indices in
    let start = p + length d.arguments in
    let whole = start + (k + 1) + (k + 1) in
    let START = c.parameter_count-params.result + c.arity.result in
    let COUNT = c.index_count-indices.result + 1 in
    let WHOLE = START + COUNT + COUNT in
    let same_start : START ≡ start = ap (λ x. x + c.arity.result) c.parameter_count-params.ensures ∙ ap (λ x. p + x) c.arity.ensures in
    let same_count : COUNT ≡ k + 1 = ap (λ x. x + 1) c.index_count-indices.ensures in
    let same_whole : WHOLE ≡ whole = ap (λ x. x + COUNT + COUNT) same_start ∙ ap (λ x. start + x + x) same_count in
    elimination-same c.elimination_along.result c.args.j _ (member_items s.fam f whole) _ (applied (Const c.args.nct) (run whole 0 start)) (tree_of c.args.base)
    _ (constructed s.fam p k s.number p d whole) _ (run whole start (k + 1)) _ (run whole (start + (k + 1)) (k + 1))
    (ok_is c.in_ok-items.ensures.is ∙ ap (member_items s.fam f) same_whole)
    (ap (λ x. applied (Const c.args.nct) (run x 0 START)) same_whole ∙ ap (λ x. applied (Const c.args.nct) (run whole 0 x)) same_start)
    (ok_is c.in_ok-left.ensures.is
    ∙ (ap (λ x. constructed s.fam x c.index_count-indices.result s.number x d WHOLE) c.parameter_count-params.ensures
    ∙ (ap (λ x. constructed s.fam p x s.number p d WHOLE) c.index_count-indices.ensures ∙ ap (constructed s.fam p k s.number p d) same_whole)))
    (ap (λ x. run x START COUNT) same_whole ∙ (ap (λ x. run whole x COUNT) same_start ∙ ap (run whole start) same_count))
    (ap (λ x. run x (START + COUNT) COUNT) same_whole ∙ (ap (λ x. run whole (x + COUNT) COUNT) same_start ∙ ap (λ x. run whole (start + x) x) same_count)) c.elimination_along.ensures
