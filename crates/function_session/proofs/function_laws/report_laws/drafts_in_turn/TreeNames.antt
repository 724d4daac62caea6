-- The names that the term of a tree may mention can be generated, where the level of its part is low enough.
use Rattle.std.proofs.Common.{◌≡◌, ℕ, suc, ◌+◌, ◌<◌, Some, List, ◌∷◌, length, slice_get, refl, sym, ap, ◌∙◌, subst as transport, arith}
use Rattle.theory.specs.Terms.{Term, top}
use Rattle.theory.specs.Families.{Constructor}
use Rattle.theory.specs.Signatures.{Signature}
use Rattle.core_terms.specs.CaseTrees.{Branches, Tree}
use Rattle.unification.specs.Outcomes.{Absurd, Outcome, Solved, steps_in}
use Rattle.unification.specs.ScopedStates.{IsReady, IsScopedProblem}
use Rattle.case_trees.specs.Points.{Point}
use Rattle.case_trees.specs.Problems.{Member, member_of, problem_of}
use Rattle.case_trees.specs.Scoped.{AreScopedBranches, IsScopedTree}
use Rattle.case_trees.specs.Standing.{BranchesAt, Runs, StandsAt, behind_solution}
use Rattle.case_trees.proofs.ScopedProblems.{member-in, problem-scoped}
use Rattle.tree_translation.specs.Laws.{Widens}
use Rattle.tree_translation.specs.Replays.{behind_run}
use Rattle.tree_translation.specs.RunTerms.{run_names}
use Rattle.tree_translation.specs.Splits.{Node, branch_standing, member_names, methods_names, split_names}
use Rattle.tree_translation.specs.Standings.{problem_state}
use Rattle.tree_translation.specs.TreeTerms.{branches_names, node_behind, node_of, runs_of, tree_names, type_in, variable_in}
use Rattle.tree_translation.proofs.SeenTerms.{widened-is, widening}
use Rattle.entry_laws.proofs.replay_laws.SeenBranches.{branch-widens}
use Rattle.entry_laws.proofs.replay_laws.SeenMembers.{member-entry, member-instance, member_under}
use Rattle.entry_laws.proofs.replay_laws.TreeNodes.{IsNodeOver, branch-below, node-after}
use Rattle.entry_laws.proofs.OnlyConstants.{Each, each-append}
use Rattle.drafts.specs.draft_entering.Conditions.{IsGeneratedName}
use Rattle.function_session.proofs.function_laws.report_laws.drafts_in_turn.RunNames.{IsFitting, can-analyse, problem-names}

-- a member of the whole context of a node
abbrev whole_of : Node → Member → Member
whole_of node m = member_under (widening (length node.context) node.hidden) m

-- a split of a tree at a node over the context of a point
record IsSplitOver (S : Signature) (p : Point) (node : Node) (x : ℕ) (type : Term) (m : Member) : Type 0 where
  over : IsNodeOver node p.context
  inside : x < length p.context
  is_member : member_of S type ≡ Some m
  scoped : (number : ℕ) (c : Constructor) → slice_get m.family.constructors number ≡ Some c → IsScopedProblem S (problem_of p.context x m number c)

module _ (S : Signature) (ready : IsReady S) (L : ℕ) (fits : IsFitting L) where
  whole-member : (p : Point) (node : Node) (x : ℕ) (type : Term) (m : Member) → IsSplitOver S p node x type m
      → member_of S (type_in node type) ≡ Some (whole_of node m)
  whole-member p node x type m is =
      ap (member_of S) (widened-is (length node.context) node.hidden type)
      ∙ member-instance S (widening (length node.context) node.hidden) type m is.is_member

  branch-seen : (p : Point) (node : Node) (x : ℕ) (type : Term) (m : Member) → IsSplitOver S p node x type m → (number : ℕ) (c : Constructor)
      → Widens (branch_standing node (whole_of node m) (variable_in node x) number c) (problem_state (problem_of p.context x m number c))
  branch-seen p node x type m is number c =
      branch-widens S node (variable_in node x) x p.context (type_in node type) type (whole_of node m) m number c is.over.is_seen is.over.hidden is.inside refl refl
      is.is_member (whole-member p node x type m is)

  branch-run : (p : Point) (node : Node) (x : ℕ) (type : Term) (m : Member) → IsSplitOver S p node x type m → (number : ℕ) (c : Constructor)
      → slice_get m.family.constructors number ≡ Some c → (outcome : Outcome) → Runs S (problem_of p.context x m number c) outcome
      → Each (IsGeneratedName S) (run_names S L (steps_in outcome) (branch_standing node (whole_of node m) (variable_in node x) number c))
  branch-run p node x type m is number c there outcome runs =
      problem-names S L fits (problem_of p.context x m number c) outcome (branch_standing node (whole_of node m) (variable_in node x) number c) ready
      (is.scoped number c there) runs (branch-seen p node x type m is number c)

  -- the constructors from a number on
  abbrev AreFrom : Member → (number : ℕ) → List Constructor → Type 0
  AreFrom m number cs = (j : ℕ) (c : Constructor) → slice_get cs j ≡ Some c → slice_get m.family.constructors (number + j) ≡ Some c

  from-next : (m : Member) (number : ℕ) (c : Constructor) (cs : List Constructor) → AreFrom m number (c ∷ cs) → AreFrom m (number + 1) cs
  from-next m number c cs h j d e =
      let next : number + suc j ≡ number + 1 + j = omega arith in ap (slice_get m.family.constructors) (sym next) ∙ h (suc j) d e

  from-first : (m : Member) (number : ℕ) (c : Constructor) (cs : List Constructor) → AreFrom m number (c ∷ cs) → slice_get m.family.constructors number ≡ Some c
  from-first m number c cs h = let place : number + 0 ≡ number = omega arith in ap (slice_get m.family.constructors) (sym place) ∙ h 0 c refl

  methods-fit : (p : Point) (node : Node) (x : ℕ) (type : Term) (m : Member) → IsSplitOver S p node x type m → (number : ℕ) (cs : List Constructor) → AreFrom m number cs
      → (branches : Branches) → BranchesAt S p x m number cs branches
      → Each (IsGeneratedName S) (methods_names S L node (whole_of node m) (variable_in node x) number cs (runs_of branches))
  methods-fit p node x type m is number _ from _ (BranchesAt.none _ _ _ _) = Each.none
  methods-fit p node x type m is number _ from _ (BranchesAt.absurd _ _ _ _ c cs steps context u v branches runs rest) =
      each-append _ _ (branch-run p node x type m is number c (from-first m number c cs from) (Absurd steps context u v) runs)
      (methods-fit p node x type m is (number + 1) cs (from-next m number c cs from) branches rest)
  methods-fit p node x type m is number _ from _ (BranchesAt.solved _ _ _ _ c cs steps context solution subtree branches runs stands rest) =
      each-append _ _ (branch-run p node x type m is number c (from-first m number c cs from) (Solved steps context solution) runs)
      (methods-fit p node x type m is (number + 1) cs (from-next m number c cs from) branches rest)

  mutual
    pub tree-fits : (t : Tree) (p : Point) (node : Node) → StandsAt S p t → IsScopedTree S t → IsNodeOver node p.context
        → Each (IsGeneratedName S) (tree_names S L t node)
    tree-fits _ p node (StandsAt.leaf _ _ _ _ converts) scoped over = Each.none
    tree-fits _ p node (StandsAt.split _ x type m branches family at) scoped over =
        let y = variable_in node x in
        let A = type_in node type in
        let is : IsSplitOver S p node x type m = record {
          over = over;
          inside = family.variable;
          is_member = family.member;
          scoped = λ number c there.
              problem-scoped S p.context x m number c ready scoped.0 family.variable
              (member-in S (length p.context) type m scoped.2 family.member) there;
        } in
        let found = whole-member p node x type m is in
        let start : AreFrom m 0 m.family.constructors = λ j c e. (let place : j ≡ 0 + j = omega arith in ap (slice_get m.family.constructors) (sym place) ∙ e) in
        let low : L < top = omega (arith, fits) in
        each-append (split_names S L node y A (runs_of branches)) (branches_names S L branches node y (member_of S A) 0)
        (transport (λ o. Each (IsGeneratedName S) (member_names S L node y (runs_of branches) o)) (sym found)
        (Each.more (can-analyse S L m.n m.family low (member-entry S type m family.member))
        (methods-fit p node x type m is 0 m.family.constructors start branches at)))
        (transport (λ o. Each (IsGeneratedName S) (branches_names S L branches node y o 0)) (sym found)
        (branches-fit p node x type m is 0 m.family.constructors start branches at scoped.3))

    branches-fit : (p : Point) (node : Node) (x : ℕ) (type : Term) (m : Member) → IsSplitOver S p node x type m → (number : ℕ) (cs : List Constructor)
        → AreFrom m number cs → (branches : Branches) → BranchesAt S p x m number cs branches → AreScopedBranches S (length p.context) branches
        → Each (IsGeneratedName S) (branches_names S L branches node (variable_in node x) (Some (whole_of node m)) number)
    branches-fit p node x type m is number _ from _ (BranchesAt.none _ _ _ _) scoped = Each.none
    branches-fit p node x type m is number _ from _ (BranchesAt.absurd _ _ _ _ c cs steps context u v branches runs rest) scoped =
        branches-fit p node x type m is (number + 1) cs (from-next m number c cs from) branches rest scoped.1
    branches-fit p node x type m is number _ from _ (BranchesAt.solved _ _ _ _ c cs steps context solution subtree branches runs stands rest) scoped =
        let y = variable_in node x in
        let whole = whole_of node m in
        let here = from-first m number c cs from in
        let problem = problem_of p.context x m number c in
        let standing = branch_standing node whole y number c in
        let over =
        node-after S problem steps context solution standing ready (is.scoped number c here) runs (branch-seen p node x type m is number c)
        (branch-below node whole y number c is.over.hidden) in
        let next = node_of (behind_run S steps standing) in
        each-append (tree_names S L subtree (node_behind S node whole y number steps (slice_get whole.family.constructors number)))
        (branches_names S L branches node y (Some whole) (number + 1))
        (transport (λ o. Each (IsGeneratedName S) (tree_names S L subtree (node_behind S node whole y number steps o))) (sym here)
        (tree-fits subtree (behind_solution p context solution) next stands scoped.0.1 over))
        (branches-fit p node x type m is (number + 1) cs (from-next m number c cs from) branches rest scoped.1)
