-- Reduced terms, as the code makes them: after those that are made.
use Rattle.std.specs.Prelude.{List, ◌++◌, Ok}
use Rattle.theory.specs.Terms.{Term}
use Rattle.core_terms.specs.Answers.{Spent, and_next}
use Rattle.kernel_reduce.specs.Reduction.{answered}

abbrev pub onto : (made : List Term) → Spent (List Term) → Spent (List Term)
onto made spent = and_next spent (λ us left. answered (Ok (made ++ us)) left)
