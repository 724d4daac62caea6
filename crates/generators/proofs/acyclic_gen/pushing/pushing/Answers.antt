use Rattle.std.proofs.Common.{Ok, map, subst}
use Rattle.core_terms.specs.Answers.{Gives}
use Rattle.core_terms.specs.Meanings.{tree_of}
use Rattle.core_terms.proofs.Builders.{ok_is}
use Rattle.core_sig.specs.Shapes.{argument_shape, constructor_shape}
use Rattle.case_below_gen.specs.CourseEntries.{applied_to_methods}
use Rattle.generators.specs.acyclic_gen.Pushing.{push_method}
use Rattle.generators.proofs.acyclic_gen.pushing.pushing.Goals as goal

pub returns : goal.returns
returns c =
    let own = map argument_shape c.args.own.now in
    let cons = map constructor_shape c.args.cons.now in
    subst (λ head. Gives tree_of c.applied_to_push_methods.result (Ok (applied_to_methods (push_method c.args.q c.args.push own c.args.depth) 0 head cons)))
    (ok_is c.in_ok-head.ensures) c.applied_to_push_methods.ensures
