use Rattle.std.proofs.Common.{rules}
use Rattle.core_terms.specs.Meanings.{tele_of}
use Rattle.clause_walks.specs.Meanings.{pairs_of}
use Rattle.clause_walks.proofs.MovedPairs.{behind-none}
use Rattle.clause_walks.proofs.moving.moved_pairs.Goals as goal

pub returns : goal.returns
returns c = search (rules, behind-none (tele_of c.args.solution.now) (pairs_of c.args.pairs.now))
