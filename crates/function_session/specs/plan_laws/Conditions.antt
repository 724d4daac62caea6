-- The conditions on a function by clauses under which its plan has the properties of plans.
use Rattle.std.specs.Prelude.{◌≡◌, ℕ, Ok, []}
use Rattle.theory.specs.Terms.{Term}
use Rattle.theory.specs.Signatures.{Signature}
use Rattle.theory.specs.WellFormed.{provisional}
use Rattle.kernel_check.specs.Checking.{infer_sort_of}
use Rattle.kernel_reduce.specs.Reduction.{nesting}
use Rattle.resolve.specs.Functions.{Function}
use Rattle.resolve.specs.Scoping.{IsResolvedFunction}
use Rattle.clause_reports.specs.elaboration.Functions.{function_level}
use Rattle.clause_reports.specs.elaboration.Refusals.{OfType, granted}
use Rattle.unification.specs.ScopedStates.{IsReady}

-- A function that is resolved over a ready signature, which stays ready with the function.
pub record IsFunctionFor (S : Signature) (f : Function) : Type 0 where
  pub ready : IsReady S
  pub with_function : IsReady (provisional S f.name f.type)
  pub resolved : IsResolvedFunction S (provisional S f.name f.type) f

-- The checker gives the function's type a sort, with some units, and it has this level, which is not too high.
pub record HasLevel (S : Signature) (f : Function) (level : ℕ) : Type 0 where
  pub fuel : ℕ
  pub sort : Term
  pub granted_sort : (granted S OfType (infer_sort_of S nesting [] f.type fuel)).0 ≡ Ok sort
  pub is_level : function_level S sort ≡ Ok level
