use Rattle.std.proofs.Common.{rules, map, option_map, subst as transport}
use Rattle.std.specs.Option.{option_copied}
use Rattle.core_terms.specs.TreeMeanings.{case_tree_of}
use Rattle.core_terms.proofs.Builders.{ok_is}
use Rattle.function_plans.proofs.HelperChains.{helpers-step}
use Rattle.function_plans.proofs.Removed.{first-removed, map-last}
use Rattle.function_checks.specs.function_refusals.RefusalMeanings.{Elaborates}
use Rattle.function_checks.specs.function_walks.WalkingMeanings.{session_of, walked_of}
use Rattle.leaf_terms.specs.PlanMeanings.{part_of, parts_of}
use Rattle.leaf_terms.specs.RecursionMeanings.{recursion_of}
use Rattle.function_plans.proofs.helpers.+helpers_finished.Goals as goal

pub returns-clause-answer : goal.returns-clause-answer
returns-clause-answer t c =
    transport (Elaborates parts_of c.helpers_finished.result c.helpers_finished.new.kernel.left)
    (helpers-step (parts_of c.args.made) (parts_of c.push.new.self) (session_of c.args.s) (option_map recursion_of (option_copied c.args.r))
    c.args.level c.args.number c.in_ok-next.next (walked_of c.remove-w.result) (map walked_of c.remove-w.new.self.items)
    (map walked_of c.args.helpers.items) c.args.kernel.now.left c.helper_tree.new.kernel.left (case_tree_of c.in_ok-tree.tree)
    (part_of c.in_ok-finished.field-0) c.helper_level-own.result
    (first-removed walked_of c.args.helpers.items c.remove-w.new.self.items c.remove-w.result (search rules) c.remove-w.ensures.value c.remove-w.ensures.items)
    c.in_ok-next.ensures.ok (map-last part_of c.args.made c.push.new.self c.in_ok-finished.field-0 c.in_ok-push.ensures.ok) (ok_is c.in_ok-finished.ensures)
    c.helper_level-own.ensures c.in_ok-tree.ensures.answer)
    c.helpers_finished.ensures.answer
