use Rattle.std.proofs.Common.{Ok, map, subst}
use Rattle.core_terms.specs.Answers.{Gives}
use Rattle.core_terms.specs.Meanings.{tree_of}
use Rattle.core_sig.specs.Shapes.{argument_shape, constructor_shape}
use Rattle.generators.specs.acyclic_gen.Pushing.{push_in}
use Rattle.generators.proofs.acyclic_gen.pushing.push_method.Goals as goal

pub returns : goal.returns
returns c =
    let own = map argument_shape c.args.own.now in
    subst (λ branch. Gives tree_of c.push_in.result (Ok (push_in c.args.q c.args.push own branch (constructor_shape c.args.con.now))))
    c.branch_of.ensures.is c.push_in.ensures
