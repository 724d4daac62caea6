-- Pairs whose term is an answer.
use Rattle.std.specs.Prelude.{Result, Ok}
use Rattle.theory.specs.Terms.{Term}
use Rattle.core_terms.specs.Answers.{and_then}
use Rattle.core_terms.specs.declared.stop.Stop.{Stop}
use Rattle.case_trees.specs.Pairs.{Pair}

-- the pair of a term, or the refusal in its place
abbrev pub of_term : (Term → Pair) → Result Term Stop → Result Pair Stop
of_term make answer = and_then answer (λ t. Ok (make t))
