use Rattle.core_terms.specs.Meanings.{tree_of}
use Rattle.core_terms.specs.TreeMeanings.{walk_of}
use Rattle.function_checks.proofs.function_clauses.WalkScopes.{made-scoped}
use Rattle.function_checks.proofs.function_clauses.scrutinees.scrutinised.Goals as goal

pub helper_opened-requires-clause-scrutinee : goal.helper_opened-requires-clause-scrutinee
helper_opened-requires-clause-scrutinee c =
    made-scoped c.args.s.sig.now (walk_of c.args.w.now) (tree_of c.args.written.now) (tree_of c.in_ok-t.t) c.requires.walk c.requires.written
    c.in_ok-t.ensures
