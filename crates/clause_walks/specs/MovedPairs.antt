-- Pairs after the solution of a problem, as the code makes them: without the terms of wildcards, or Deep where a term is too high.
use Rattle.std.specs.Prelude.{List, map, Result, Ok}
use Rattle.theory.specs.Terms.{Term, Sort}
use Rattle.core_terms.specs.Answers.{and_then, bounded, bounded_terms}
use Rattle.core_terms.specs.declared.stop.Stop.{Stop}
use Rattle.case_trees.specs.Pairs.{Pair, Pairs, Waits, Binds, Passes, Keeps, Builds, Clashes, nil, cons}
use Rattle.case_trees.specs.Points.{under_solution}
use Rattle.clause_walks.specs.Meanings.{put_before}

abbrev mutual
  pub pair_made : (solution : List Term) → Pair → Result Pair Stop
  pair_made solution (Waits pat t) = and_then (bounded (under_solution solution t)) (λ u. Ok (Waits pat u))
  pair_made solution (Binds t) = and_then (bounded (under_solution solution t)) (λ u. Ok (Binds u))
  pair_made solution (Passes t) = Ok (Passes (Sort 0))
  pair_made solution (Keeps written t) = and_then (bounded (under_solution solution t)) (λ u. Ok (Keeps written u))
  pair_made solution (Builds n number ps pairs) =
      and_then (bounded_terms (map (under_solution solution) ps)) (λ us.
      and_then (pairs_made solution pairs) (λ moved. Ok (Builds n number us moved)))
  pair_made solution (Clashes pat t) = and_then (bounded (under_solution solution t)) (λ u. Ok (Clashes pat u))

  pub pairs_made : (solution : List Term) → Pairs → Result Pairs Stop
  pairs_made solution nil = Ok nil
  pairs_made solution (cons pair pairs) =
      and_then (pair_made solution pair) (λ first. and_then (pairs_made solution pairs) (λ rest. Ok (cons first rest)))

-- these pairs after those that are already there
abbrev pub made_behind : List Pair → (solution : List Term) → Pairs → Result Pairs Stop
made_behind made solution pairs = and_then (pairs_made solution pairs) (λ rest. Ok (put_before made rest))
