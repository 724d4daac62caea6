-- The laws of walks, trees and plans over a signature that has the function.
use Rattle.std.specs.Prelude.{◌≡◌, ◌<◌, ℕ, Ok, IfOk, List, length}
use Rattle.theory.specs.Terms.{Term, top}
use Rattle.theory.specs.Telescopes.{Telescope}
use Rattle.theory.specs.Signatures.{Signature}
use Rattle.core_terms.specs.Clauses.{Clause, Clauses}
use Rattle.case_trees.specs.OwnWalks.{own_walk_of}
use Rattle.case_trees.specs.Trees.{split_of}
use Rattle.with_abstraction.specs.Abstractions.{abstract_over_of}
use Rattle.clause_reports.specs.elaboration.Functions.{plan_of}
use Rattle.resolve.specs.Functions.{Function}
use Rattle.tree_translation.specs.Conditions.{IsPlanned}
use Rattle.tree_translation.specs.Plans.{Plan}
use Rattle.leaf_terms.specs.CallsApart.{PlanCallsApart}
use Rattle.function_session.specs.plan_laws.Conditions.{IsFunctionFor}
use Rattle.function_session.specs.plan_laws.Reading.{AreReadAlike}

-- Walks, trees and abstractions over two such signatures are the same, with the same units.
abbrev pub SameWalks : Type 0
SameWalks =
    (S T : Signature) (context : Telescope) (goal : Term) (terms : List Term) (c : Clause) (number left : ℕ) → AreReadAlike S T →
    own_walk_of S context goal terms c number left ≡ own_walk_of T context goal terms c number left

abbrev pub SameTrees : Type 0
SameTrees =
    (S T : Signature) (context : Telescope) (goal : Term) (terms : List Term) (clauses : Clauses) (left : ℕ) → AreReadAlike S T →
    split_of S context goal terms clauses left ≡ split_of T context goal terms clauses left

abbrev pub SameAbstractions : Type 0
SameAbstractions =
    (S T : Signature) (context : Telescope) (goal t type : Term) (left : ℕ) → AreReadAlike S T →
    abstract_over_of S context goal t type left ≡ abstract_over_of T context goal t type left

-- ---- plans

-- the parts of a plan that come from its function as they are
pub record IsPlanOf (S : Signature) (f : Function) (level : ℕ) (plan : Plan) : Type 0 where
  pub base : plan.base ≡ length S.entries
  pub name : plan.name ≡ f.name
  pub type : plan.type ≡ f.type
  pub arity : plan.arity ≡ f.arity
  pub level_is : plan.level ≡ level

abbrev pub PlanIsOfFunction : Type 0
PlanIsOfFunction = (S : Signature) (f : Function) (level left : ℕ) → IfOk (plan_of S f level left).0 (IsPlanOf S f level)

-- The plan of a function is one: its parts have the walks, the right sides and the trees of their clauses, over the signature with the
-- function, and neither a tree nor what a part begins with names the function.
abbrev pub PlanIsPlanned : Type 0
PlanIsPlanned =
    (S : Signature) (f : Function) (level left : ℕ) (plan : Plan) → IsFunctionFor S f → level < top → (plan_of S f level left).0 ≡ Ok plan → IsPlanned S plan

-- In the plan of a function no call is the decreasing argument of another one.
abbrev pub PlanStandsApart : Type 0
PlanStandsApart =
    (S : Signature) (f : Function) (level left : ℕ) (plan : Plan) → IsFunctionFor S f → (plan_of S f level left).0 ≡ Ok plan → level < top →
    PlanCallsApart plan
