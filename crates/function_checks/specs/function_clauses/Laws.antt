-- The laws of a function's own part.
use Rattle.std.specs.Prelude.{◌≡◌, ℕ, length}
use Rattle.theory.specs.Signatures.{Signature, IsPrefix}
use Rattle.clause_reports.specs.elaboration.Functions.{own_part}
use Rattle.function_checks.specs.function_walks.Conditions.{IsPartFor}
use Rattle.resolve.specs.Functions.{Function}
use Rattle.resolve.specs.Scoping.{IsResolvedFunction}
use Rattle.unification.specs.ScopedStates.{IsReady}

-- The clauses of a resolved function can be walked from its own part, over a longer signature that has its constant.
abbrev pub OwnPartFits : Type 0
OwnPartFits =
    (S T : Signature) (f : Function) (level : ℕ) → IsPrefix S T → IsReady T → IsResolvedFunction S T f →
    IsPartFor T (own_part f level) f.clauses

-- It has as many columns as its telescope has types.
abbrev pub OwnPartColumns : Type 0
OwnPartColumns =
    (S T : Signature) (f : Function) (level : ℕ) → IsResolvedFunction S T f →
    length (own_part f level).terms ≡ length (own_part f level).tele
