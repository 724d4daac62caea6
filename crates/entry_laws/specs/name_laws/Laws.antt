-- The order of the names of a split node.
use Rattle.std.specs.Prelude.{◌≡◌, ℕ, ◌-◌, List, length, IfOk}
use Rattle.theory.specs.Terms.{Term}
use Rattle.theory.specs.Signatures.{Signature}
use Rattle.core_terms.specs.CaseTrees.{Step}
use Rattle.problems.specs.Conditions.{AreBelow}
use Rattle.tree_translation.specs.Conditions.{IsSplitGiven}
use Rattle.tree_translation.specs.Naming.{mentions, once}
use Rattle.tree_translation.specs.Splits.{Node, split_term}
use Rattle.tree_translation.specs.Standings.{levels_from}

-- The new names of a split node are all mentioned, and for the first time in the order in which they are added. One thing is asked
-- beyond what a split node is given: each hidden level is one of the context, so that the arguments of constructors are seen.
abbrev pub SplitNamesInOrderBelow : Type 0
SplitNamesInOrderBelow =
    (S : Signature) (L : ℕ) (node : Node) (x : ℕ) (type : Term) (runs : List (List Step)) (ends : List Term) (names : List (List ℕ)) →
    AreBelow (length node.context) node.hidden → IsSplitGiven S node x type runs ends (length names) →
    IfOk (split_term S (length S.entries) L node x type runs ends names).term
    (λ t. once (levels_from 0 (length names)) (mentions (length S.entries) t)
    ≡ levels_from (length names) (length (split_term S (length S.entries) L node x type runs ends names).names - length names))
