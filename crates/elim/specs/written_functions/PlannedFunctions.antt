-- The plan of a function by clauses is the one that the elaborator makes.
use Rattle.std.specs.Prelude.{◌≡◌, ◌<◌, ◌≤◌, ℕ, List, length, map, Ok}
use Rattle.theory.specs.Terms.{Term}
use Rattle.theory.specs.Signatures.{Signature}
use Rattle.surface_syntax.specs.Trees as surf
use Rattle.surface_syntax.specs.declared.tree.Word.{Word}
use Rattle.tree_translation.specs.Plans.{Plan}
use Rattle.tree_translation.specs.Recursion.{recursion_of}
use Rattle.clause_reports.specs.Equations.{last_argument, part_at}
use Rattle.clause_reports.specs.elaboration.Functions.{planned_of}
use Rattle.function_session.specs.Elaborating.{Elaborated}
use Rattle.elim.specs.written_functions.Clauses.{FunctionAt, at_columns}
use Rattle.elim.specs.written_functions.Functions.{IsByClauses}

-- Each part of the function starts from that of the plan. If there are helpers, the values of the recursion, at terms for the columns, are
-- the last argument of a helper in T, by the plan.
pub record IsOfPlan (T : Signature) (plan : Plan) (f : FunctionAt) : Type 0 where
  pub parts : (k : ℕ) → k < length plan.parts → f.parts k ≡ record {
    telescope = (part_at plan k).tele;
    goal = (part_at plan k).goal;
    columns = (part_at plan k).terms;
  }
  pub values : 1 < length plan.parts → (terms : List Term) → f.function.arity ≤ length terms
      → last_argument T plan (recursion_of T plan) terms ≡ map (λ v. at_columns f terms v.term) f.values

-- an accepted function is by clauses, and has the plan of the run that may spend so many units
pub record IsByPlannedClauses (S : Signature) (fuel : ℕ) (x : Word) (ty : surf.Surf) (clauses : surf.Clauses) (a : Elaborated) : Type 0 where
  pub by_clauses : IsByClauses S x ty clauses a.signature a.lines
  pub plan : Plan
  pub planned : (planned_of S by_clauses.given fuel).0 ≡ Ok plan
  pub of_plan : IsOfPlan a.signature plan by_clauses.at
