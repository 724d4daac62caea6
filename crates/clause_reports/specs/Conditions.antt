-- The conditions of a report: a plan that is translated, and a signature that has its entries.
use Rattle.std.specs.Prelude.{◌≡◌, ◌<◌, ◌-◌, ℕ, Option, Some, None, List, length, slice_get}
use Rattle.theory.specs.Terms.{Term, top}
use Rattle.theory.specs.Signatures.{Signature, Definition, IsPrefix}
use Rattle.core_sig.specs.Names.{find}
use Rattle.core_sig.specs.declared.entry.Found.TheVariants.{Entry as FoundEntry}
use Rattle.tree_translation.specs.Conditions.{IsPlanned}
use Rattle.tree_translation.specs.Plans.{Plan}
use Rattle.tree_translation.specs.Recursion.{Recursion, recursion_of}
use Rattle.clause_reports.specs.Equations.{part_at, part_name}
use Rattle.clause_reports.specs.Generated.{all_name}
use Rattle.clause_reports.specs.Reports.{Reference}
use Rattle.tree_translation.specs.Naming.{motive_name, step_name}

-- a definition of this name
pub record IsDefined (S : Signature) (name : List ℕ) : Type 0 where
  pub number : ℕ
  pub type : Term
  pub body : Term
  pub there : slice_get S.entries number ≡ Some (Definition name type body)
  pub found : find S name ≡ Some (FoundEntry number)

-- with recursion also its motive, its step, and the values of the recursion where a helper has them
abbrev pub HasRecursion : Signature → Plan → Option Recursion → Type 0
HasRecursion S plan None = Unit {0}
HasRecursion S plan (Some r) =
    IsDefined S (motive_name plan.name) × (IsDefined S (step_name plan.name)
    × (1 < length plan.parts → IsDefined S (all_name r.family plan.level)))

-- S is a signature that has grown, by the plan's entries, from `before`, over which the plan was translated.
pub record IsEntered (before S : Signature) (plan : Plan) : Type 0 where
  pub planned : IsPlanned before plan
  pub prefix : IsPrefix before S
  pub parts : (k : ℕ) → k < length plan.parts → IsDefined S (part_name plan k)
  pub recursion : HasRecursion S plan (recursion_of before plan)

-- a clause of the plan, with its own walk
pub record IsReference (plan : Plan) (c : Reference) : Type 0 where
  pub part : c.part < length plan.parts
  pub walk : slice_get (part_at plan c.part).walks c.clause ≡ Some c.walk
  pub level : (part_at plan c.part).level < top - 2
