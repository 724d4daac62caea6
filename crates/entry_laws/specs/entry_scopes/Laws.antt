-- Scopes of the entries of a function.
use Rattle.std.specs.Prelude.{◌≡◌, ℕ, List, length, IfOk, All, true}
use Rattle.theory.specs.Terms.{Term}
use Rattle.theory.specs.Prelude.{prelude}
use Rattle.theory.specs.Signatures.{Signature, IsPrefix}
use Rattle.theory.specs.Telescopes.{Telescope}
use Rattle.core_terms.specs.CaseTrees.{Step, Tree}
use Rattle.core_sig.specs.DraftScopes.{IsDraftTerm}
use Rattle.core_sig.specs.EntryTerms.{EachInTelescope}
use Rattle.unification.specs.ScopedStates.{IsReady}
use Rattle.case_trees.specs.Points.{Point}
use Rattle.case_trees.specs.Scoped.{IsScopedLeaf, IsScopedTree}
use Rattle.case_trees.specs.Standing.{StandsAt}
use Rattle.problems.specs.Conditions.{AreBelow}
use Rattle.tree_translation.specs.Conditions.{IsSeen, IsSplitGiven}
use Rattle.tree_translation.specs.Naming.{number_in, is_named}
use Rattle.tree_translation.specs.RightSides.{leaf_term}
use Rattle.tree_translation.specs.Splits.{Node, split_term}
use Rattle.tree_translation.specs.TreeTerms.{Translation, tree_names, tree_term}

-- The term of a split node is over the node's context, and names entries and the names that are there then. There are two conditions
-- beside those on a split node: the signature begins with the prelude, whose pairs and whose type without terms the term of a cycle
-- names, and each hidden level is one of the context.
abbrev pub SplitScopedAfterPrelude : Type 0
SplitScopedAfterPrelude =
    (S : Signature) (L : ℕ) (node : Node) (x : ℕ) (type : Term) (runs : List (List Step)) (ends : List Term) (names : List (List ℕ)) →
    IsPrefix (prelude S.has_k) S → AreBelow (length node.context) node.hidden → IsSplitGiven S node x type runs ends (length names) →
    IfOk (split_term S (length S.entries) L node x type runs ends names).term
    (IsDraftTerm S (length S.entries) (length (split_term S (length S.entries) L node x type runs ends names).names) (length node.context))

-- ---- trees

-- A node over a context that is seen of it: its types and its goal name entries and `names` of a draft, and its hidden levels are some of
-- its context.
pub record IsNodeGiven (S : Signature) (names : ℕ) (node : Node) (context : Telescope) : Type 0 where
  pub seen : IsSeen node.context node.hidden context
  pub hidden : AreBelow (length node.context) node.hidden
  pub context_scoped : EachInTelescope (IsDraftTerm S (length S.entries) names) 0 node.context
  pub goal_scoped : IsDraftTerm S (length S.entries) names (length node.context) node.goal

-- each leaf has a term over the context of its node
abbrev pub LeavesAreScoped : Translation → (names : ℕ) → Type 0
LeavesAreScoped w names =
    (node : Node) (clause : ℕ) (context : Telescope) (goal : Term) (substitution terms binds : List Term) → IsNodeGiven w.signature names node context →
    IsScopedLeaf w.signature context goal substitution terms binds →
    IsDraftTerm w.signature (length w.signature.entries) names (length node.context)
    (leaf_term w.number w.plan w.recursions w.part w.order (length node.context) node.hidden clause substitution terms binds)

-- Where each leaf has a term over the context of its node, so has the whole tree: it names entries and the names of its table.
abbrev pub TreeScopedByLeaves : Type 0
TreeScopedByLeaves =
    (w : Translation) (names : List (List ℕ)) (p : Point) (t : Tree) (node : Node) → IsReady w.signature → IsPrefix (prelude w.signature.has_k) w.signature →
    w.number ≡ number_in (length w.signature.entries) names → All (λ name. is_named names name ≡ true) (tree_names w.signature w.part.level t node) →
    StandsAt w.signature p t → IsScopedTree w.signature t → IsNodeGiven w.signature (length names) node p.context → LeavesAreScoped w (length names) →
    IsDraftTerm w.signature (length w.signature.entries) (length names) (length node.context) (tree_term w t node)
