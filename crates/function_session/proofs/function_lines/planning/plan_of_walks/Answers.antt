use Rattle.std.proofs.Common.{Bool, ◌&&◌, ap₂, map, subst as transport}
use Rattle.core_terms.specs.Meanings.{tree_of}
use Rattle.function_checks.specs.function_refusals.RefusalMeanings.{Elaborates}
use Rattle.function_checks.specs.function_walks.WalkingMeanings.{session_of, walked_of}
use Rattle.function_plans.proofs.PlansMade.{plan-is}
use Rattle.leaf_terms.specs.PlanMeanings.{plan_of}
use Rattle.tree_translation.specs.structural_rec.Meanings.{uses_of}
use Rattle.function_session.proofs.function_lines.planning.plan_of_walks.Goals as goal

pub returns-clause-answer : goal.returns-clause-answer
returns-clause-answer c =
    transport (Elaborates plan_of c.plan.result c.plan.new.kernel.left)
    (plan-is (session_of c.args.s) (tree_of c.args.ty) c.args.arity c.args.level (walked_of c.args.w) (map walked_of c.args.helpers.items)
    (uses_of c.args.uses.now) c.args.kernel.now.left (ap₂ (λ (a b : Bool). a && b) c.requires.low c.requires.uses))
    c.plan.ensures.answer
