-- The conditions of the walks and trees of a part: it is scoped, and its clauses have one pattern for each of its columns.
use Rattle.std.proofs.Common.{ℕ}
use Rattle.core_terms.specs.Clauses.{Clauses}
use Rattle.tree_translation.specs.Naming.{part_named}
use Rattle.clause_reports.specs.elaboration.Refusals.{owner_of}
use Rattle.clause_reports.specs.elaboration.Walking.{Opened}
use Rattle.function_checks.proofs.function_clauses.OwnParts.{own-part-for}
use Rattle.function_session.specs.function_lines.Conditions.{IsFunctionOver}
use Rattle.function_session.specs.function_lines.Opened.{session_at}
use Rattle.resolve.specs.Functions.{Function}
use Rattle.theory.specs.Signatures.{Signature}
use Rattle.elim.specs.refusal_laws.Parts.{IsPartOf, own, helper}
use Rattle.elim.proofs.written_functions.PartScopes.{IsWalkable, helper-walkable}
use Rattle.elim.specs.written_functions.Clauses.{with_own}

pub part-walkable : (S : Signature) (f : Function) (k : ℕ) (part : Opened) (clauses : Clauses) → IsFunctionOver (with_own S f) f → IsPartOf S f k part clauses
    → IsWalkable (with_own S f) part clauses
part-walkable S f _ _ _ over (own level) =
    let h = own-part-for over.before (with_own S f) f level over.prefix over.ready over.resolved in
    record { given = h.part.given; fitting = h.clauses }
part-walkable S f _ _ _ over (helper k number binds next left rest part clauses inside pats scrutinee w o is there walked opening) =
    helper-walkable (session_at S f) number binds left rest part clauses inside pats scrutinee (owner_of (part_named f.name k) number) w o
    (part-walkable S f k part clauses over is) there walked opening
