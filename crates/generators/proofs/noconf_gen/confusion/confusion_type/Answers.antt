use Rattle.std.proofs.Common.{cond, Ok, length, sym, subst}
use Rattle.core_terms.specs.Answers.{Gives}
use Rattle.core_terms.specs.Meanings.{tree_of}
use Rattle.core_sig.specs.Shapes.{constructor_shape, shape_of}
use Rattle.generators.specs.noconf_gen.Compared.{constructed}
use Rattle.generators.specs.noconf_gen.NoConfusionTypes.{injection_type, conflict_type}
use Rattle.generators.proofs.noconf_gen.SameParts.{test-true, test-false}
use Rattle.generators.proofs.noconf_gen.confusion.confusion_type.Goals as goal

pub returns-then-at-subject : goal.returns-then-at-subject
returns-then-at-subject c =
    let s = c.args.subject in
    let f = shape_of s.family.now in
    let a = constructor_shape s.con.now in
    let d = constructor_shape c.args.con.now in
    let p = length f.parameters in
    let k = length f.indices in
    subst (λ b. Gives tree_of c.injection_type.result (Ok (cond b (injection_type s.fam f s.number a p c.args.second c.args.m c.args.start c.args.depth)
    (conflict_type s.fam f (constructed s.fam p k s.number p a) (constructed s.fam p k c.args.at c.args.second d) c.args.m c.args.start c.args.depth)))) (sym (test-true c.args.at s.number c.if-at-subject.true))
    (subst (λ first. Gives tree_of c.injection_type.result (Ok (injection_type s.fam f s.number a first c.args.second c.args.m c.args.start c.args.depth))) c.parameter_count-first.ensures c.injection_type.ensures)

pub returns : goal.returns
returns c =
    let s = c.args.subject in
    let f = shape_of s.family.now in
    let a = constructor_shape s.con.now in
    let d = constructor_shape c.args.con.now in
    let p = length f.parameters in
    let k = length f.indices in
    subst (λ b. Gives tree_of c.conflict_type.result (Ok (cond b (injection_type s.fam f s.number a p c.args.second c.args.m c.args.start c.args.depth)
    (conflict_type s.fam f (constructed s.fam p k s.number p a) (constructed s.fam p k c.args.at c.args.second d) c.args.m c.args.start c.args.depth)))) (sym (test-false c.args.at s.number c.if-at-subject.false))
    (subst (λ first. Gives tree_of c.conflict_type.result (Ok (conflict_type s.fam f (constructed s.fam p k s.number first a) (constructed s.fam p k c.args.at c.args.second d) c.args.m c.args.start c.args.depth))) c.parameter_count-first.ensures c.conflict_type.ensures)
