use Rattle.std.proofs.Common.{ap}
use Rattle.core_terms.specs.Meanings.{tree_of, tele_of}
use Rattle.core_terms.specs.PatternMeanings.{clauses_of}
use Rattle.clause_splitting.specs.NodeMeanings.{all_live_of}
use Rattle.clause_splitting.proofs.SplitCodes.{start-node}
use Rattle.clause_splitting.proofs.trees.grow_all.Goals as goal

pub grow-requires-clause-node : goal.grow-requires-clause-node
grow-requires-clause-node c =
    start-node c.args.sig.now (tele_of c.args.ctx.now) (tree_of c.args.goal.now) (tele_of c.args.terms.now) (clauses_of c.args.clauses.now)
    c.in_ok-point.point (all_live_of c.new.result) (all_live_of c.in_ok-live.live) c.in_ok-point.ensures.answer (ap all_live_of c.new.ensures)
    c.in_ok-live.ensures c.requires.given c.requires.clauses c.in_ok-point.ensures.few
