use Rattle.std.proofs.Common.{◌≤◌, Ok, arith}
use Rattle.std.proofs.lemmas.Grind.{common_steps}
use Rattle.theory.specs.Terms.{free_of}
use Rattle.core_terms.specs.Answers.{IsUnforeseen}
use Rattle.core_terms.specs.Meanings.{tree_of}
use Rattle.core_terms.proofs.Answers.{stands-has}
use Rattle.core_sig.specs.Shapes.{constructor_shape, shape_of}
use Rattle.generators.specs.noconf_gen.NoConfusion.{reflexive_base}
use Rattle.generators.proofs.noconf_gen.FreeParts.{free-base}
use Rattle.generators.proofs.noconf_gen.noconf.reflexive_base.Goals as goal

pub returns-clause-is : goal.returns-clause-is
returns-clause-is c = grind (arith, common_steps)

pub returns-clause-free : goal.returns-clause-free
returns-clause-free c =
    let subject = c.args.subject in
    let f = shape_of subject.family.now in
    let d = constructor_shape subject.con.now in
    let free = free-base subject.fam f subject.number d c.args.m c.args.depth c.requires.fits in
    stands-has IsUnforeseen (λ e. e) tree_of (λ t. free_of t ≤ 2147483648) _ (Ok (reflexive_base subject.fam f subject.number d c.args.m c.args.depth)) (returns-clause-is c) (omega (arith, c.requires.depth))
