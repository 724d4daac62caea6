-- The walks of a function's clauses in its plan.
use Rattle.std.proofs.Common.{ℕ}
use Rattle.clause_reports.specs.elaboration.Functions.{own_part}
use Rattle.clause_reports.specs.elaboration.Walking.{Given, Walked}
use Rattle.resolve.specs.Functions.{Function}

abbrev pub walked_of : Function → (level : ℕ) → Given → Walked
walked_of f level given = record { part = own_part f level; clauses = f.clauses; walks = given.walks; sides = given.sides }
