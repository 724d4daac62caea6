use Rattle.std.proofs.Common.{length}
use Rattle.core_terms.specs.Meanings.{tele_of}
use Rattle.clause_walks.specs.Meanings.{pairs_of}
use Rattle.clause_walks.proofs.TurnParts.{bound-few}
use Rattle.clause_walks.proofs.turns.next_reached.Goals as goal

pub ended_unless_solved-requires : goal.ended_unless_solved-requires
ended_unless_solved-requires c = record {
  binds = bound-few c.args.sig.now (length (tele_of c.args.p.context)) (pairs_of c.args.pairs.now) c.requires.state.pairs;
}
