use Rattle.std.proofs.Common.{subst}
use Rattle.std.proofs.lemmas.Bool.{false≢true}
use Rattle.std.specs.Bool.{IsTrue}
use Rattle.core_sig.specs.Shapes.{shape_of}
use Rattle.case_below_gen.proofs.FewMethods.{side-deep}
use Rattle.case_below_gen.proofs.sides.side_of_family.Goals as goal

pub returns-then-not-has_few_binders : goal.returns-then-not-has_few_binders
returns-then-not-has_few_binders c foreseen =
    side-deep c.args.side c.args.base c.args.f.now.name c.args.fam (shape_of c.args.f.now) c.args.m
    (λ few. let yes = subst IsTrue c.if-not-has_few_binders.true (c.has_few_binders.ensures.1 few) in absurd (false≢true yes))
