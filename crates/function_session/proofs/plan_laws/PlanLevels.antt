-- The level of a function's plan is no less than that of the family of its position.
use Rattle.std.proofs.Common.{◌≡◌, ℕ, ◌≤◌, Some, sym, ◌∙◌, arith}
use Rattle.theory.specs.Signatures.{Signature}
use Rattle.entry_laws.proofs.OnlyEntries.{recursion-entry}
use Rattle.entry_laws.proofs.order_scopes.OrderLengths.{recursion-tells}
use Rattle.resolve.specs.Functions.{Function}
use Rattle.tree_translation.proofs.structural_rec.AdmittingPositions.{admission-decides}
use Rattle.tree_translation.specs.Conditions.{IsPlanned}
use Rattle.tree_translation.specs.Plans.{Plan, own_part}
use Rattle.tree_translation.specs.Recursion.{Recursion, recursion_of}
use Rattle.function_session.specs.plan_laws.Conditions.{HasLevel}
use Rattle.function_session.specs.plan_laws.Laws.{IsPlanOf}
use Rattle.function_session.proofs.plan_laws.FamilyLevels.{family-level}

pub position-low : (S : Signature) (f : Function) (level : ℕ) (plan : Plan) → HasLevel S f level → IsPlanOf S f level plan → IsPlanned S plan
    → (r : Recursion) → recursion_of S plan ≡ Some r → r.family.level ≤ plan.level
position-low S f level plan has is planned r e =
    let part = own_part plan in
    let admits = (admission-decides S part.tele r.position r.admission).0 (recursion-tells S plan r e).admits in
    let low : r.family.level ≤ level =
    family-level S f level r.position part.tele part.goal r.admission r.family has (sym is.type ∙ planned.type) admits (recursion-entry S plan r e) in
    let same : plan.level ≡ level = is.level_is in
    omega (arith, same, low)
