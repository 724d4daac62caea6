-- The meaning of a scrutinee of the code.
use Rattle.core_terms.specs.Meanings.{tree_of}
use Rattle.function_checks.specs.function_clauses.CodeClauses as pure
use Rattle.function_checks.specs.declared.function_clauses.parts.Scrutinee.{Scrutinee}
use Rattle.function_checks.specs.function_walks.WalkingMeanings.{opened_of}

abbrev pub scrutinee_of : Scrutinee → pure.Scrutinee
scrutinee_of x = record { term = tree_of x.term; side = tree_of x.side; part = opened_of x.part }
