use Rattle.std.proofs.Common.{◌+◌, Ok, [], ◌∷◌, length, map, ap, ◌∙◌, subst}
use Rattle.theory.specs.Terms.{Term}
use Rattle.core_terms.specs.Answers.{Gives}
use Rattle.core_terms.specs.Levels.{over}
use Rattle.core_terms.specs.Meanings.{tree_of}
use Rattle.core_terms.specs.declared.levels.Binder.TheVariants.{Function}
use Rattle.core_terms.proofs.Builders.{ok_is}
use Rattle.core_sig.specs.Shapes.{argument_shape, constructor_shape, shape_of, types_of}
use Rattle.generators.specs.noconf_gen.Compared.{constructed}
use Rattle.generators.specs.noconf_gen.NoConfusionTypes.{confusion_type, equations_over}
use Rattle.generators.proofs.noconf_gen.nct.confusion_method.Goals as goal

pub returns : goal.returns
returns c =
    let s = c.args.subject in
    let n = s.fam in
    let f = shape_of s.family.now in
    let a = constructor_shape s.con.now in
    let d = constructor_shape c.args.con.now in
    let p = length f.parameters in
    let k = length f.indices in
    let count = length d.arguments in
    let depth = c.args.depth in
    let inside = depth + count in
    let P : Term → Type 0 = λ x. Gives tree_of c.arguments_over.result (Ok x) in
    let P' = c.parameter_count-params.result in
    let C' = c.arity-count.result in
    let K' = c.index_count.result in
    let type_is = ok_is c.in_ok-end.ensures
    ∙ (ap (λ x. confusion_type n f s.number a c.args.at d depth c.args.m (depth + x) (depth + x + K' + 1)) c.arity-count.ensures
    ∙ ap (λ x. confusion_type n f s.number a c.args.at d depth c.args.m inside (inside + x + 1)) c.index_count.ensures) in
    let equations_are = ok_is c.in_ok-end-2.ensures
    ∙ (ap (λ x. equations_over Function n f (constructed n p k s.number x a) (constructed n p k c.args.at depth d) (depth + C') (tree_of c.in_ok-end.end)) c.parameter_count-params.ensures
    ∙ (ap (λ x. equations_over Function n f (constructed n p k s.number p a) (constructed n p k c.args.at depth d) (depth + x) (tree_of c.in_ok-end.end)) c.arity-count.ensures
    ∙ ap (equations_over Function n f (constructed n p k s.number p a) (constructed n p k c.args.at depth d) inside) type_is)) in
    subst P
    (ap (λ x. over Function ((0, P') ∷ (depth, C') ∷ []) P' depth (types_of (map argument_shape x)) (tree_of c.in_ok-end-2.end)) c.as_slice-args.ensures
    ∙ (ap (λ x. over Function ((0, x) ∷ (depth, C') ∷ []) x depth (types_of d.arguments) (tree_of c.in_ok-end-2.end)) c.parameter_count-params.ensures
    ∙ (ap (λ x. over Function ((0, p) ∷ (depth, x) ∷ []) p depth (types_of d.arguments) (tree_of c.in_ok-end-2.end)) c.arity-count.ensures
    ∙ ap (over Function ((0, p) ∷ (depth, count) ∷ []) p depth (types_of d.arguments)) equations_are))) c.arguments_over.ensures
