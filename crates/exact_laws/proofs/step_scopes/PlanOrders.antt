-- A plan has a context in its order of recursion.
use Rattle.std.proofs.Common.{◌≡◌, Some, length, subst}
use Rattle.theory.specs.Signatures.{Signature}
use Rattle.entry_laws.proofs.order_scopes.OrderedScopes.{ordered-scoped}
use Rattle.entry_laws.proofs.order_scopes.RecursionOrders.{recursion-ordered}
use Rattle.tree_translation.specs.structural_rec.Laws.{IsOrder, IsTelescopeOrder}
use Rattle.tree_translation.specs.Plans.{Plan, own_part}
use Rattle.tree_translation.specs.Recursion.{Recursion, order_of, recursion_of}
use Rattle.exact_laws.specs.step_scopes.Laws.{PlanOrdered}

telescope-there : (S : Signature) (plan : Plan) (r : Recursion) → recursion_of S plan ≡ Some r
    → IsTelescopeOrder (own_part plan).tele (order_of (length (own_part plan).tele) (Some r))
telescope-there S plan r is =
    subst (λ o. IsTelescopeOrder (own_part plan).tele (order_of (length (own_part plan).tele) o)) is (recursion-ordered S (own_part plan).tele plan.position)

pub order-there : (S : Signature) (plan : Plan) (r : Recursion) → recursion_of S plan ≡ Some r
    → IsOrder (length (own_part plan).tele) (order_of (length (own_part plan).tele) (Some r))
order-there S plan r is = (telescope-there S plan r is).positions

pub plan-ordered : PlanOrdered
plan-ordered S plan r planned is =
    let part = own_part plan in
    let both = ordered-scoped S part.tele part.goal (order_of (length part.tele) (Some r)) planned.own.context_scoped planned.own.goal_scoped (telescope-there S plan r is) in
    record { telescope = both.0; goal = both.1 }
