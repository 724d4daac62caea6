-- The nodes at which the trees of a function begin: the below value is hidden, and nothing else.
use Rattle.std.specs.Prelude.{Option, Some, length}
use Rattle.theory.specs.Telescopes.{Telescope}
use Rattle.problems.specs.Conditions.{AreBelow}
use Rattle.tree_translation.specs.Conditions.{IsSeen}
use Rattle.tree_translation.specs.Entries.{helper_node, step_node}
use Rattle.tree_translation.specs.Naming.{Naming}
use Rattle.tree_translation.specs.Plans.{Part, Plan, own_part}
use Rattle.tree_translation.specs.Recursion.{Recursion, order_of, ordered_telescope}
use Rattle.tree_translation.specs.Splits.{Node}

-- `seen` is the part that is seen of a node's context, and the hidden variables are some of that context
pub record IsRoot (node : Node) (seen : Telescope) : Type 0 where
  pub is_seen : IsSeen node.context node.hidden seen
  pub hidden : AreBelow (length node.context) node.hidden

-- a helper's tree, and the function's own without recursion
abbrev pub HelperNodeOver : Type 0
HelperNodeOver = (plan : Plan) (r : Option Recursion) (part : Part) (number : Naming) → IsRoot (helper_node plan r part number) part.tele

-- the function's own tree with recursion
abbrev pub StepNodeOver : Type 0
StepNodeOver =
    (plan : Plan) (r : Recursion) (number : Naming) →
    IsRoot (step_node plan r number) (ordered_telescope (own_part plan).tele (order_of (length (own_part plan).tele) (Some r)))
