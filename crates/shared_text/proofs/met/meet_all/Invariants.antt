use Rattle.std.proofs.Common.{◌≡◌, drop}
use Rattle.shared_text.specs.CodeMeanings.{AreMet, trees, walked_of}
use Rattle.shared_text.specs.Walks.{meet_all}
use Rattle.shared_text.proofs.met.meet_all.Given as goal

abbrev pub invariant-loop-id : goal.invariant-loop-id
invariant-loop-id l =
    record {
      met : AreMet l.pool l.met;
      walked : meet_all (trees l.pool (drop l.id-index l.ids)) (walked_of l.pool l.met) ≡ meet_all (trees l.pool l.ids) (walked_of l.pool l.fn.met);
    }
