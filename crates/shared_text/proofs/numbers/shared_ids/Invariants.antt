use Rattle.std.proofs.Common.{◌≡◌, [], drop, filter}
use Rattle.shared_text.specs.CodeMeanings.{AreLive, trees, walked_of}
use Rattle.shared_text.specs.PrintedTerms.{joined}
use Rattle.shared_text.specs.Walks.{is_met_shared, met_shared}
use Rattle.shared_text.proofs.numbers.shared_ids.Given as goal

abbrev pub invariant-loop-id : goal.invariant-loop-id
invariant-loop-id l =
    let w = walked_of l.pool l.met in
    record {
      live : AreLive l.pool l.shared;
      terms : joined (trees l.pool l.shared) (filter (is_met_shared w) (trees l.pool (drop l.id-index l.met.found))) ≡ joined [] (met_shared w);
    }
