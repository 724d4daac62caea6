-- The term of a tree is a draft's, where those of its leaves are.
use Rattle.std.proofs.Common.{◌≡◌, ℕ, ◌+◌, true, List, [], ◌∷◌, length, All, sym, subst, arith}
use Rattle.theory.specs.Telescopes.{Telescope}
use Rattle.theory.specs.Signatures.{Signature}
use Rattle.theory.specs.SignatureScopes.{IsConstantNumber, IsScopedTelescope}
use Rattle.core_sig.specs.DraftScopes.{IsDraftTerm}
use Rattle.core_sig.specs.EntryTerms.{EachInTelescope}
use Rattle.tree_translation.specs.Naming.{number_in, is_named}
use Rattle.tree_translation.specs.Splits.{Node}
use Rattle.tree_translation.specs.TreeTerms.{tree_names, tree_term}
use Rattle.entry_laws.proofs.OnlyConstants.{Each, each-all, each-weaker}
use Rattle.entry_laws.proofs.TableNames.{place-low}
use Rattle.entry_laws.specs.entry_scopes.Laws.{IsNodeGiven, TreeScopedByLeaves}
use Rattle.entry_laws.proofs.entry_scopes.DraftSignatures.{with_count, name-number, draft-scoped, draft-telescope, scoped-draft}
use Rattle.entry_laws.proofs.entry_scopes.WholeCycles.{prelude-there}
use Rattle.entry_laws.proofs.entry_scopes.WholeTrees.{IsTreeNode, tree-scoped}

-- a telescope that is scoped over the signature with names is over the draft
telescope-draft : (S : Signature) (count n : ℕ) (tele : Telescope) → IsScopedTelescope (with_count S count) n tele → EachInTelescope (IsDraftTerm S (length S.entries) count) n tele
telescope-draft S count n [] h = tt
telescope-draft S count n (a ∷ tele) h = (scoped-draft S count n a h.0, telescope-draft S count (n + 1) tele h.1)

node-given : (S : Signature) (count : ℕ) (node : Node) (context : Telescope) → IsTreeNode (with_count S count) node context → IsNodeGiven S count node context
node-given S count node context is = record {
  seen = is.over.is_seen;
  hidden = is.over.hidden;
  context_scoped = telescope-draft S count 0 node.context is.terms.context;
  goal_scoped = scoped-draft S count (length node.context) node.goal is.terms.goal;
}

node-there : (S : Signature) (count : ℕ) (node : Node) (context : Telescope) → IsNodeGiven S count node context → IsTreeNode (with_count S count) node context
node-there S count node context is = record {
  terms = record { context = draft-telescope S count 0 node.context is.context_scoped; goal = draft-scoped S count (length node.context) node.goal is.goal_scoped };
  over = record { is_seen = is.seen; hidden = is.hidden };
}

-- the names of a table have numbers of constants
named-constants : (S : Signature) (names others : List (List ℕ)) → All (λ name. is_named names name ≡ true) others
    → Each (λ name. IsConstantNumber (with_count S (length names)) (number_in (length S.entries) names name)) others
named-constants S names others all =
    each-weaker others
    (λ name is.
    let low = place-low names name is in name-number S (length names) (number_in (length S.entries) names name) (omega arith) (omega arith))
    (each-all (λ name. is_named names name ≡ true) others all)

pub tree_scoped_by_leaves : TreeScopedByLeaves
tree_scoped_by_leaves w names p t node ready prelude_first numbered named stands scoped given leaves =
    let S = w.signature in
    let count = length names in
    scoped-draft S count (length node.context) (tree_term w t node)
    (tree-scoped w count ready (prelude-there S count prelude_first) t
    (λ next clause context goal substitution terms binds is leaf.
    draft-scoped S count (length next.context) _ (leaves next clause context goal substitution terms binds (node-given S count next context is) leaf))
    p node stands scoped (node-there S count node p.context given)
    (subst (λ number. Each (λ name. IsConstantNumber (with_count S count) (number name)) (tree_names S w.part.level t node)) (sym numbered)
    (named-constants S names (tree_names S w.part.level t node) named)))
