use Rattle.core_terms.specs.Meanings.{tree_of}
use Rattle.proof_walks.proofs.ScopeTests.{test-is}
use Rattle.clause_lines.proofs.sides.is_over.Goals as goal

pub returns : goal.returns
returns c = test-is c.args.sig.now c.args.n (tree_of c.args.t.now) c.is_scoped.result c.is_scoped.ensures
