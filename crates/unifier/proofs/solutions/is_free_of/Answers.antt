use Rattle.std.proofs.Common.{length, ap}
use Rattle.core_terms.specs.Meanings.{tree_of}
use Rattle.unifier.proofs.SolutionTrials.{lacks-of_code}
use Rattle.unifier.proofs.solutions.is_free_of.Goals as goal

pub returns : goal.returns
returns c =
    lacks-of_code c.args.s.now.ctx (length c.as_slice.result.now) c.args.x c.level_of.result c.args.dependants.now (tree_of c.args.t.now) c.lacks.result
    (ap length c.as_slice.ensures) c.level_of.ensures c.requires.dependants c.lacks.ensures
