-- The term of a tree is scoped over a node's context, where those of its leaves are.
use Rattle.std.proofs.Common.{◌≡◌, ℕ, suc, ◌+◌, Some, List, length, slice_get, refl, sym, ap, subst, ◌∙◌, arith}
use Rattle.theory.specs.Terms.{Term}
use Rattle.theory.specs.Telescopes.{Telescope}
use Rattle.theory.specs.Families.{Constructor}
use Rattle.theory.specs.Signatures.{Signature}
use Rattle.theory.specs.SignatureScopes.{IsConstantNumber, IsScoped}
use Rattle.core_terms.specs.CaseTrees as tree
use Rattle.core_terms.specs.CaseTrees.{Step, Tree, Branch, Branches}
use Rattle.core_sig.specs.DraftScopes.{IsDraftTerm}
use Rattle.unification.specs.Laws.{Chain, IsReached}
use Rattle.unification.specs.Outcomes.{Solved, Absurd}
use Rattle.unification.specs.Rules.{none, more}
use Rattle.unification.specs.ScopedStates.{IsReady, IsScopedProblem}
use Rattle.unification.specs.States.{State}
use Rattle.case_trees.specs.Points.{Point}
use Rattle.case_trees.specs.Problems.{Member, member_of, problem_of}
use Rattle.case_trees.specs.Scoped.{IsScopedLeaf, IsScopedTree, AreScopedBranches}
use Rattle.case_trees.specs.Standing.{StandsAt, BranchesAt, behind_solution}
use Rattle.tree_translation.specs.Conditions.{IsSplit, AreEnds}
use Rattle.tree_translation.specs.Laws.{Widens}
use Rattle.tree_translation.specs.Replays.{behind_step, behind_run}
use Rattle.tree_translation.specs.RightSides.{leaf_term}
use Rattle.tree_translation.specs.Splits.{Node, branch_standing, split_member, on_member, split_names, member_names}
use Rattle.tree_translation.specs.Standings.{Standing, problem_state}
use Rattle.tree_translation.specs.TreeTerms.{Translation, type_in, variable_in, node_of, node_behind, next_node, runs_of, tree_term, branch_ends, tree_names, branches_names}
use Rattle.tree_translation.proofs.SeenSteps.{step-seen}
use Rattle.tree_translation.proofs.SeenTerms.{widening, widened-is}
use Rattle.entry_laws.proofs.replay_laws.SeenMembers.{member_under, member-instance}
use Rattle.entry_laws.proofs.replay_laws.TreeNodes.{IsNodeOver, node-after, branch-below, split-runs, problem-reached, solved-goes, absurd-ends}
use Rattle.entry_laws.proofs.OnlyConstants.{Each, each-left, each-right}
use Rattle.entry_laws.proofs.entry_scopes.DraftSignatures.{with_count, scoped-draft}
use Rattle.entry_laws.proofs.entry_scopes.WholeCycles.{HasPrelude}
use Rattle.entry_laws.proofs.entry_scopes.WholeSplits.{IsNodeIn, branch-whole, branch-problem, branch-seen, member-scoped}
use Rattle.entry_laws.proofs.entry_scopes.WholeStandings.{IsWhole, whole-step}

-- a run keeps a standing scoped
pub run-whole : (S : Signature) (count : ℕ) (ready : IsReady S) (s t : State) (steps : List Step) (w : Standing) → Chain S s steps t → Widens w s → IsWhole (with_count S count) w
    → IsWhole (with_count S count) (behind_run S steps w)
run-whole S count ready s t _ w (none _) h is = is
run-whole S count ready s t _ w (more _ r _ step steps at goes chain) h is =
    run-whole S count ready r t steps (behind_step S w step) chain (step-seen S s r step w goes h) (whole-step S count ready s r step w goes at h is)

reached-whole : (S : Signature) (count : ℕ) (ready : IsReady S) (s : State) (steps : List Step) (context : Telescope) (solution : List Term) (w : Standing)
    → IsReached S s (Solved steps context solution) → Widens w s → IsWhole (with_count S count) w → IsWhole (with_count S count) (behind_run S steps w)
reached-whole S count ready s steps _ _ w (IsReached.solved t _ chain empty) h is = run-whole S count ready s t steps w chain h is

-- a node of a tree over a signature with names
pub record IsTreeNode (T : Signature) (node : Node) (context : Telescope) : Type 0 where
  pub terms : IsNodeIn T node
  pub over : IsNodeOver node context

module _ (w : Translation) (count : ℕ) (ready : IsReady w.signature) (first : HasPrelude (with_count w.signature count)) where
  -- each leaf has a scoped term, at each node over its context
  abbrev pub LeavesScoped : Type 0
  LeavesScoped =
      (node : Node) (clause : ℕ) (context : Telescope) (goal : Term) (substitution terms binds : List Term) → IsTreeNode (with_count w.signature count) node context →
      IsScopedLeaf w.signature context goal substitution terms binds →
      IsScoped (with_count w.signature count) (length node.context)
      (leaf_term w.number w.plan w.recursions w.part w.order (length node.context) node.hidden clause substitution terms binds)

  abbrev pub Constants : List (List ℕ) → Type 0
  Constants names = Each (λ name. IsConstantNumber (with_count w.signature count) (w.number name)) names

  -- what a split gives each of its branches
  record IsBranching (p : Point) (node : Node) (x y : ℕ) (m whole : Member) : Type 0 where
    problem : (number : ℕ) (c : Constructor) → slice_get whole.family.constructors number ≡ Some c → IsScopedProblem w.signature (problem_of p.context x m number c)
    widens : (number : ℕ) (c : Constructor) → Widens (branch_standing node whole y number c) (problem_state (problem_of p.context x m number c))
    scoped : (number : ℕ) (c : Constructor) → slice_get whole.family.constructors number ≡ Some c → IsWhole (with_count w.signature count) (branch_standing node whole y number c)

  mutual
    pub tree-scoped : (t : Tree) → LeavesScoped → (p : Point) (node : Node) → StandsAt w.signature p t → IsScopedTree w.signature t
        → IsTreeNode (with_count w.signature count) node p.context → Constants (tree_names w.signature w.part.level t node)
        → IsScoped (with_count w.signature count) (length node.context) (tree_term w t node)
    tree-scoped (tree.Leaf clause _ _ _ terms binds) leaves p node (StandsAt.leaf _ _ _ _ converts) scoped is named =
        leaves node clause p.context p.goal p.substitution terms binds is scoped
    tree-scoped (tree.Split _ x _ type branches) leaves p node (StandsAt.split _ _ _ m _ family branches_at) scoped is named =
        let S = w.signature in
        let L = w.part.level in
        let y = variable_in node x in
        let A = type_in node type in
        let q = widening (length node.context) node.hidden in
        let whole = member_under q m in
        let found : member_of S A ≡ Some whole = ap (member_of S) (widened-is (length node.context) node.hidden type) ∙ member-instance S q type m family.member in
        let split : IsSplit S node y A (runs_of branches) = record {
          seen = p.context;
          y = x;
          reduced = type;
          member = m;
          is_seen = is.over.is_seen;
          inside = family.variable;
          variable = refl;
          type_seen = refl;
          is_member = family.member;
          are_runs = split-runs S p x m 0 m.family.constructors branches branches_at;
          context_scoped = scoped.0;
          reduced_scoped = scoped.2;
        } in
        let branching : IsBranching p node x y m whole = record {
          problem = λ number c there. branch-problem S count ready first w.number L node is.terms is.over.hidden y A (runs_of branches) split whole found number c there;
          widens = λ number c. branch-seen S count ready first w.number L node is.terms is.over.hidden y A (runs_of branches) split whole found number c;
          scoped = λ number c there. branch-whole S count ready first w.number L node is.terms is.over.hidden y A (runs_of branches) split whole found number c there;
        } in
        let here = each-left (split_names S L node y A (runs_of branches)) (branches_names S L branches node y (member_of S A) 0) named in
        let later = each-right (split_names S L node y A (runs_of branches)) (branches_names S L branches node y (member_of S A) 0) named in
        subst (λ o. IsScoped (with_count S count) (length node.context) (on_member o (λ m. split_member S w.number L node m y (runs_of branches) (branch_ends w branches node y o 0))))
        (sym found)
        (member-scoped S count ready first w.number L node is.terms is.over.hidden y A (runs_of branches) split whole found count (branch_ends w branches node y (Some whole) 0) (omega arith)
        (ends-are branches leaves p node x y m whole 0 m.family.constructors is branching branches_at scoped.3
        (λ j c e. let place : j ≡ 0 + j = omega arith in ap (slice_get m.family.constructors) (sym place) ∙ e)
        (subst (λ o. Constants (branches_names S L branches node y o 0)) found later))
        (subst (λ o. Constants (member_names S L node y (runs_of branches) o)) found here))

    ends-are : (branches : Branches) → LeavesScoped → (p : Point) (node : Node) (x y : ℕ) (m whole : Member) (number : ℕ) (cs : List Constructor)
        → IsTreeNode (with_count w.signature count) node p.context → IsBranching p node x y m whole → BranchesAt w.signature p x m number cs branches
        → AreScopedBranches w.signature (length p.context) branches
        → ((j : ℕ) (c : Constructor) → slice_get cs j ≡ Some c → slice_get whole.family.constructors (number + j) ≡ Some c)
        → Constants (branches_names w.signature w.part.level branches node y (Some whole) number)
        → AreEnds w.signature (length w.signature.entries) count node whole y number cs (runs_of branches) (branch_ends w branches node y (Some whole) number)
    ends-are tree.nil leaves p node x y m whole number _ is branching (BranchesAt.none _ _ _ _) scoped there named = AreEnds.none
    ends-are (tree.cons (tree.Absurd steps context u v) branches) leaves p node x y m whole number _ is branching (BranchesAt.absurd _ _ _ _ c cs _ _ _ _ _ ran rest) scoped there named =
        let S = w.signature in
        let problem = problem_of p.context x m number c in
        let place : number + 0 ≡ number = omega arith in
        let here : slice_get whole.family.constructors number ≡ Some c = ap (slice_get whole.family.constructors) (sym place) ∙ there 0 c refl in
        let reached = problem-reached S problem ran.units (Absurd steps context u v) ready (branching.problem number c here) ran.run in
        AreEnds.absurd (absurd-ends S (problem_state problem) steps context u v reached)
        (ends-are branches leaves p node x y m whole (number + 1) cs is branching rest scoped.1
        (λ j c e. let next : number + suc j ≡ number + 1 + j = omega arith in ap (slice_get whole.family.constructors) (sym next) ∙ there (suc j) c e) named)
    ends-are (tree.cons (tree.Solved steps origins subtree) branches) leaves p node x y m whole number _ is branching (BranchesAt.solved _ _ _ _ c cs _ context solution _ _ ran stands rest) scoped there named =
        let S = w.signature in
        let L = w.part.level in
        let problem = problem_of p.context x m number c in
        let place : number + 0 ≡ number = omega arith in
        let here : slice_get whole.family.constructors number ≡ Some c = ap (slice_get whole.family.constructors) (sym place) ∙ there 0 c refl in
        let standing = branch_standing node whole y number c in
        let reached = problem-reached S problem ran.units (Solved steps context solution) ready (branching.problem number c here) ran.run in
        let after = reached-whole S count ready (problem_state problem) steps context solution standing reached (branching.widens number c) (branching.scoped number c here) in
        let next = node_of (behind_run S steps standing) in
        let next_is : IsTreeNode (with_count S count) next context = record {
          terms = record { context = after.scoped.context; goal = after.scoped.solution 0 next.goal (omega arith) };
          over = node-after S problem steps context solution standing ready (branching.problem number c here) ran (branching.widens number c) (branch-below node whole y number c is.over.hidden);
        } in
        let own = each-left (tree_names S L subtree (next_node S node y number steps (Some whole))) (branches_names S L branches node y (Some whole) (number + 1)) named in
        let others = each-right (tree_names S L subtree (next_node S node y number steps (Some whole))) (branches_names S L branches node y (Some whole) (number + 1)) named in
        let own_there : Constants (tree_names S L subtree next) = subst (λ o. Constants (tree_names S L subtree (node_behind S node whole y number steps o))) here own in
        AreEnds.solved (solved-goes S (problem_state problem) steps context solution reached)
        (subst (λ o. IsDraftTerm S (length S.entries) count (length next.context) (tree_term w subtree (node_behind S node whole y number steps o))) (sym here)
        (scoped-draft S count (length next.context) (tree_term w subtree next)
        (tree-scoped subtree leaves (behind_solution p context solution) next stands scoped.0.1 next_is own_there)))
        (ends-are branches leaves p node x y m whole (number + 1) cs is branching rest scoped.1
        (λ j c e. let step : number + suc j ≡ number + 1 + j = omega arith in ap (slice_get whole.family.constructors) (sym step) ∙ there (suc j) c e) others)
