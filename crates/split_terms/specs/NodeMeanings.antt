-- The meanings of nodes of the code, alone and beside names, and the conditions on the family of a variable that is split.
use Rattle.std.specs.Prelude.{◌≡◌, ℕ, List, [], ◌∷◌, length, map}
use Rattle.theory.specs.Terms as tree
use Rattle.core_terms.specs.Meanings.{tree_of, tele_of}
use Rattle.core_terms.specs.declared.term.Term.{Term}
use Rattle.core_sig.specs.Kinds.{HasKinds, HaveKinds}
use Rattle.core_sig.specs.Meanings.{family_of}
use Rattle.core_sig.specs.declared.family.Constructor.{Constructor}
use Rattle.tree_translation.specs.Splits as pure
use Rattle.tree_translation.specs.Standings as standings
use Rattle.problems.specs.declared.members.Member.{Member}
use Rattle.run_terms.specs.StandingMeanings.{standing_of}
use Rattle.run_terms.specs.declared.state.Standing.{Standing}
use Rattle.split_terms.specs.declared.node.Node.{Node}

abbrev pub node_of : Node → pure.Node
node_of n = record { context = tele_of n.ctx; goal = tree_of n.goal; hidden = n.hidden }

-- the arguments of the family's constructors have the kinds of their types, and all its parameters are there
pub record IsWhole (m : Member) : Type 0 where
  pub kinds : HasKinds m.number m.family.now
  pub parameters : length m.params ≡ length m.family.now.params

-- the arguments of a constructor have the kinds of their types
abbrev pub FitsIn : Member → Constructor → Type 0
FitsIn m c = HaveKinds m.number (family_of m.family.now) 0 c.args

abbrev pub AllFitIn : Member → List Constructor → Type 0
AllFitIn m [] = Unit {0}
AllFitIn m (c ∷ constructors) = FitsIn m c × AllFitIn m constructors

-- names, and a term
abbrev pub named_of : List (List ℕ) × Term → List (List ℕ) × tree.Term
named_of r = (r.0, tree_of r.1)

-- names, and a standing
abbrev pub named_standing_of : List (List ℕ) × Standing → List (List ℕ) × standings.Standing
named_standing_of r = (r.0, standing_of r.1)

-- names, and nodes
abbrev pub named_nodes_of : List (List ℕ) × List Node → List (List ℕ) × List pure.Node
named_nodes_of r = (r.0, map node_of r.1)
