use Rattle.std.proofs.Common.{length, sym, ap, ◌∙◌}
use Rattle.core_terms.specs.Meanings.{tree_of, tele_of}
use Rattle.problems.proofs.BuiltCodes.{split-rest}
use Rattle.unifier.proofs.ConstructorTurns.{count-arguments, few-arguments}
use Rattle.unifier.proofs.InjectedTerms.{arguments-known}
use Rattle.unifier.proofs.constructors.inject_sides.Goals as goal

pub inject-requires-clause-few_args : goal.inject-requires-clause-few_args
inject-requires-clause-few_args c =
    few-arguments (tree_of c.args.left.now) (length c.args.b.record.now.params) (length c.args.b.con.now.args) c.requires.left_all c.requires.known.left.0.low

pub inject-requires-clause-known : goal.inject-requires-clause-known
inject-requires-clause-known c =
    let count = length c.args.b.record.now.params in
    arguments-known (length c.args.s.now.ctx) count (tree_of c.args.left.now) (tree_of c.args.right.now) c.args.b (tele_of c.args.ps.now) c.in_ok-us.us
    c.in_ok-vs.vs c.requires.known
    (split-rest (c.in_ok-us.field-0-0, c.in_ok-us.us) _ _ (tree_of c.args.left.now) c.in_ok-us.ensures (ap length c.as_slice-count.ensures))
    (split-rest (c.in_ok-vs.field-0-0, c.in_ok-vs.vs) _ _ (tree_of c.args.right.now) c.in_ok-vs.ensures (ap length c.as_slice-count.ensures))

pub inject-requires-clause-all : goal.inject-requires-clause-all
inject-requires-clause-all c =
    count-arguments (tree_of c.args.right.now) c.in_ok-vs.vs _ _ c.requires.right_all
    (split-rest (c.in_ok-vs.field-0-0, c.in_ok-vs.vs) _ _ (tree_of c.args.right.now) c.in_ok-vs.ensures (ap length c.as_slice-count.ensures))
    ∙ sym (count-arguments (tree_of c.args.left.now) c.in_ok-us.us _ _ c.requires.left_all
    (split-rest (c.in_ok-us.field-0-0, c.in_ok-us.us) _ _ (tree_of c.args.left.now) c.in_ok-us.ensures (ap length c.as_slice-count.ensures)))

pub inject-requires-clause-arguments : goal.inject-requires-clause-arguments
inject-requires-clause-arguments c =
    count-arguments (tree_of c.args.left.now) c.in_ok-us.us _ _ c.requires.left_all
    (split-rest (c.in_ok-us.field-0-0, c.in_ok-us.us) _ _ (tree_of c.args.left.now) c.in_ok-us.ensures (ap length c.as_slice-count.ensures))
