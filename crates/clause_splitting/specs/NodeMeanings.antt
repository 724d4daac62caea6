-- The clauses and the nodes that those of the code represent.
use Rattle.std.specs.Prelude.{List, map}
use Rattle.case_trees.specs.Trees as pure
use Rattle.clause_walks.specs.Meanings.{pairs_of}
use Rattle.clause_walks.specs.PointMeanings.{point_of}
use Rattle.clause_splitting.specs.declared.nodes.Live.{Live}
use Rattle.clause_splitting.specs.declared.nodes.Node.{Node}

abbrev pub live_of : Live → pure.Live
live_of c = record { number = c.number; pairs = pairs_of c.pairs }

abbrev pub all_live_of : List Live → List pure.Live
all_live_of live = map live_of live

abbrev pub node_of : Node → pure.Node
node_of node = record { point = point_of node.point; live = all_live_of node.live }
