-- The checker's answer on a written part.
use Rattle.std.specs.Prelude.{ℕ}
use Rattle.theory.specs.Terms.{Term}
use Rattle.theory.specs.Telescopes.{Context}
use Rattle.theory.specs.Signatures.{Signature}
use Rattle.kernel_reduce.specs.Reduction.{nesting}
use Rattle.kernel_check.specs.Checking.{infer_sort_of, check_of}
use Rattle.family_check.specs.Outcomes.{Site, Outcome, granted}

-- the sort of a type
unfoldable pub sort_in : Signature → Site → Context → Term → ℕ → Outcome Term
sort_in S site G t left = granted site (infer_sort_of S nesting G t left)

-- the type of a term that is to have the type `wanted`
unfoldable pub type_in : Signature → Site → Context → Term → Term → ℕ → Outcome Term
type_in S site G t wanted left = granted site (check_of S nesting G t wanted left)
