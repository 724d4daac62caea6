-- The meanings of splits, constructors, variables and leaves of the code.
use Rattle.std.specs.Prelude.{ℕ, List, map}
use Rattle.core_terms.specs.Meanings.{tree_of, tele_of}
use Rattle.core_terms.specs.TreeMeanings.{branches_of}
use Rattle.problems.specs.MemberMeanings.{member_meant}
use Rattle.clause_reports.specs.ProofWalks.{Place}
use Rattle.proof_walks.specs.proof_terms.ProofMeanings.{place_of}
use Rattle.proof_walks.specs.NodeWalks as pure
use Rattle.proof_walks.specs.declared.leaves.Leaf.{Leaf}
use Rattle.proof_walks.specs.declared.nodes.Met.{Met}
use Rattle.proof_walks.specs.declared.nodes.Variable.{Variable}
use Rattle.proof_walks.specs.declared.walking.Node.{Node}

abbrev pub node_of : Node → pure.Node
node_of node = record {
  family = node.family;
  variable = node.variable;
  branches = branches_of node.branches.now;
  splits = node.splits;
}

abbrev pub met_of : Met → pure.Met
met_of met = record { number = met.number; arguments = tele_of met.arguments }

abbrev pub variable_of : Variable → pure.Variable
variable_of v = record { number = v.number; type = tree_of v.ty; member = member_meant v.member }

-- a leaf, by the number of its clause and its place
abbrev pub leaf_of : Leaf → ℕ × Place
leaf_of leaf = (leaf.clause, place_of leaf.place.now)

abbrev pub leaves_of : List Leaf → List (ℕ × Place)
leaves_of leaves = map leaf_of leaves
