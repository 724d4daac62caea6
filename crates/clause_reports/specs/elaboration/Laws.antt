-- The laws of a function by clauses, however its parts are found.
use Rattle.std.specs.Prelude.{ℕ, ◌≤◌, IfOk}
use Rattle.theory.specs.Signatures.{Signature, IsPrefix}
use Rattle.theory.specs.WellFormed.{IsWellFormed}
use Rattle.family_check.specs.Scopes.{HasPrelude}
use Rattle.resolve.specs.Functions.{Function}
use Rattle.clause_reports.specs.elaboration.Functions.{function_of}

-- No units are given back.
abbrev pub FunctionSpends : Type 0
FunctionSpends = (S : Signature) (f : Function) (fuel : ℕ) → (function_of S f fuel).1 ≤ fuel

-- A well-formed signature stays well formed, and keeps its entries: each new one has its type by the typing rules over those before it.
abbrev pub FunctionKeepsWellFormed : Type 0
FunctionKeepsWellFormed =
    (S : Signature) (f : Function) (fuel : ℕ) → IsWellFormed S → HasPrelude S →
    IfOk (function_of S f fuel).0 (λ lines. IsPrefix S lines.signature × IsWellFormed lines.signature)
