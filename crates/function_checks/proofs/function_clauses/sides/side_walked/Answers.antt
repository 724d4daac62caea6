use Rattle.core_terms.specs.Meanings.{tree_of}
use Rattle.core_terms.specs.TreeMeanings.{walk_of}
use Rattle.function_checks.proofs.function_clauses.WalkScopes.{made-scoped}
use Rattle.function_checks.proofs.function_clauses.sides.side_walked.Goals as goal

pub side_checked-requires-clause-body : goal.side_checked-requires-clause-body
side_checked-requires-clause-body c =
    made-scoped c.args.s.sig.now (walk_of c.args.w) (tree_of c.args.side.now) (tree_of c.in_ok-body.body) c.requires.walk c.requires.side
    c.in_ok-body.ensures
