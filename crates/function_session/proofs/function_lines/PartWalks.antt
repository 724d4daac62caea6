-- The walks of a part of a plan, and the parts themselves, from the first on.
use Rattle.std.proofs.Common.{◌≡◌, ◌+◌, ℕ, Some, List, slice_get, ap, ap₂, ◌∙◌, arith}
use Rattle.std.proofs.lemmas.Option.{get_or_from_slice_get}
use Rattle.tree_translation.specs.Plans.{Part, Plan, no_part}
use Rattle.clause_reports.specs.Equations.{part_at}
use Rattle.function_session.specs.function_lines.Conditions.{AreFrom}

pub all-from : {A : Type 0} (xs : List A) → AreFrom 0 xs xs
all-from xs j a e = (let place : 0 + j ≡ j = omega arith in ap (slice_get xs) place) ∙ e

pub walks-from : (plan : Plan) (k : ℕ) (part : Part) → slice_get plan.parts k ≡ Some part → AreFrom 0 part.walks (part_at plan k).walks
walks-from plan k part at = λ j w e.
    let place : 0 + j ≡ j = omega arith in
    ap₂ (λ (p : Part) i. slice_get p.walks i) (get_or_from_slice_get plan.parts k part no_part at) place ∙ e
