-- The laws of the lines of a function's clauses.
use Rattle.std.specs.Prelude.{◌≡◌, ℕ, Some, Ok, IfOk, slice_get}
use Rattle.theory.specs.Signatures.{Signature}
use Rattle.theory.specs.SignatureScopes.{HasEntries}
use Rattle.theory.specs.WellFormed.{IsWellFormed}
use Rattle.core_terms.specs.Clauses.{Clauses, Is, Right}
use Rattle.core_terms.specs.Patterns.{Pats}
use Rattle.case_trees.specs.Places.{clause_at}
use Rattle.clause_reports.specs.Equations.{part_at, pats_of}
use Rattle.elab_session.specs.Sessions.{IsReady}
use Rattle.clause_reports.specs.elaboration.Functions.{Lines, function_of, plan_of, planned_of}
use Rattle.family_check.specs.Scopes.{HasPrelude}
use Rattle.function_session.specs.function_lines.Conditions.{IsFunctionOver}
use Rattle.function_session.specs.Elaborating.{Elaborated, elaborate_of}
use Rattle.function_session.specs.Evidence.{references_from}
use Rattle.resolve.specs.Functions.{Function, function}
use Rattle.surface_syntax.specs.Trees as surf
use Rattle.surface_syntax.specs.declared.tree.Word.{Word}
use Rattle.tree_translation.specs.Plans.{Plan}
use Rattle.elim.specs.headline.line_laws.Lines.{AreReported}
use Rattle.elim.specs.written_functions.Clauses.{with_own, parts_of}

-- the lines of a function that may spend so many units, with its plan, over the signature S before it
pub record HasReports (S : Signature) (f : Function) (fuel : ℕ) (l : Lines) : Type 0 where
  pub plan : Plan
  pub planned : (planned_of S f fuel).0 ≡ Ok plan
  pub lines : AreReported S l.signature plan (references_from 0 plan.parts) l.lines

abbrev pub FunctionReports : Type 0
FunctionReports =
    (S : Signature) (f : Function) (fuel : ℕ) → IsWellFormed S → HasPrelude S → HasEntries S f.type →
    IsFunctionOver (with_own S f) f →
    IfOk (function_of S f fuel).0 (HasReports S f fuel)

-- the lines that were added for a function that is written by clauses
pub record HasReportedLines (S : Signature) (fuel : ℕ) (x : Word) (ty : surf.Surf) (clauses : surf.Clauses) (a : Elaborated) : Type 0 where
  pub given : Function
  pub resolved : function S x ty clauses ≡ Ok given
  pub plan : Plan
  pub planned : (planned_of S given fuel).0 ≡ Ok plan
  pub lines : AreReported S a.signature plan (references_from 0 plan.parts) a.lines

abbrev pub DeclarationReports : Type 0
DeclarationReports =
    (S : Signature) (fuel : ℕ) (x : Word) (ty : surf.Surf) (clauses : surf.Clauses) → IsReady S →
    IfOk (elaborate_of S fuel (surf.Fun x ty clauses)) (HasReportedLines S fuel x ty clauses)

-- ---- the plan

-- The patterns of clause `number` of part k are those that are written: part 0 has the clauses of the function, and the others those inside
-- each `with`, in the order of the source file.
abbrev pub HasWrittenPatterns : Function → Plan → Type 0
HasWrittenPatterns f plan =
    (k number : ℕ) (clauses : Clauses) (pats : Pats) (binds : ℕ) (right : Right) → slice_get (parts_of f) k ≡ Some clauses →
    clause_at clauses number ≡ Some (Is pats binds right) → pats_of (part_at plan k) number ≡ pats

abbrev pub PatternsAreWritten : Type 0
PatternsAreWritten =
    (S : Signature) (f : Function) (level left : ℕ) → IsFunctionOver (with_own S f) f → IfOk (plan_of S f level left).0 (HasWrittenPatterns f)
