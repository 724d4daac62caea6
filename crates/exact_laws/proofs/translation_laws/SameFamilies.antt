-- Signatures that have the same families at the same numbers give the same terms: nothing else of them is read.
use Rattle.std.proofs.Common.{◌≡◌, ℕ, ◌+◌, ◌-◌, cond, Option, Some, None, option_and_then, List, [], ◌∷◌, ◌++◌, slice_get, refl, ap, ap₂, ◌∙◌}
use Rattle.theory.specs.Terms.{Term, Const}
use Rattle.theory.specs.Terms.Term.{Con, Fam}
use Rattle.theory.specs.Families.{Constructor}
use Rattle.theory.specs.Signatures.{Signature}
use Rattle.theory.specs.Telescopes.{applied, functions}
use Rattle.theory.specs.Spines.{head_of, spine_of}
use Rattle.core_terms.specs.CaseTrees as tree
use Rattle.core_terms.specs.CaseTrees.{Branch, Branches, Step, Tree}
use Rattle.core_terms.specs.declared.case_tree.Rule.{Rule}
use Rattle.core_terms.specs.declared.case_tree.Rule.TheVariants.{SolveRight, SolveLeft, Inject, Conflict, Cycle, Delete}
use Rattle.kernel_reduce.specs.Entries.{family_at}
use Rattle.tele_eq.specs.TelescopicEquality.{reflexivities}
use Rattle.unification.specs.Built.{built_of, with_all, with_spine}
use Rattle.unification.specs.Records.{argument_items, family_items}
use Rattle.unification.specs.States.{State}
use Rattle.case_trees.specs.Problems.{Member, member_at, member_of, member_with}
use Rattle.tree_translation.specs.Comparisons.{compared, compared_in}
use Rattle.tree_translation.specs.ConfusionTerms.{conflict_term, inject_term}
use Rattle.tree_translation.specs.CycleTerms.{cycle_term}
use Rattle.tree_translation.specs.Naming.{Naming, case_name}
use Rattle.tree_translation.specs.Replays.{behind_rule, behind_run, behind_step, step_in, unless_compared}
use Rattle.tree_translation.specs.RunTerms.{compared_names, cycle_names, on_comparison, on_side, rule_names, rule_term, run_names, run_term}
use Rattle.tree_translation.specs.Splits.{Node, behind_first, branch_standing, first_of, is_absurd, member_names, member_types, methods_names, on_member, scrutinee, split_member, split_methods, split_motive, split_names, split_node}
use Rattle.tree_translation.specs.Standings.{Standing, state_term}
use Rattle.tree_translation.specs.TreeTerms.{Translation, branch_end, branch_ends, branch_names, branches_names, next_node, node_behind, node_of, runs_of, tree_names, tree_term, type_in, variable_in}
use Rattle.exact_laws.proofs.translation_laws.AnsweredTrees.{at_signature}

-- the same family at each number
abbrev pub HaveSame : Signature → Signature → Type 0
HaveSame S T = (n : ℕ) → family_at S n ≡ family_at T n

module _ (S T : Signature) (same : HaveSame S T) where
  spine-same : (h : Term) (us : List Term) → with_spine S h us ≡ with_spine T h us
  spine-same (Con n number) us =
      ap (option_and_then (λ f. option_and_then (with_all n number f us) (slice_get f.constructors number))) (same n)
  spine-same _ us = refl

  pub built-same : (t : Term) → built_of S t ≡ built_of T t
  built-same t = spine-same (head_of t) (spine_of t)

  at-same : (h : Term) (us : List Term) → member_at S h us ≡ member_at T h us
  at-same (Fam n) us = ap (option_and_then (member_with n us)) (same n)
  at-same _ us = refl

  pub member-same : (t : Term) → member_of S t ≡ member_of T t
  member-same t = at-same (head_of t) (spine_of t)

  pub compared-same : (s : State) (step : Step) → compared S s step ≡ compared T s step
  compared-same s step = ap₂ (compared_in s step) (built-same step.left) (built-same step.right)

  rule-same : (w : Standing) (step : Step) (rule : Rule) → behind_rule S w step rule ≡ behind_rule T w step rule
  rule-same w step (SolveRight x) = refl
  rule-same w step (SolveLeft x) = refl
  rule-same w step (Inject n number) = ap (unless_compared w step.group) (compared-same w.state step)
  rule-same w step Delete = refl
  rule-same w step (Conflict n c d) = refl
  rule-same w step (Cycle x) = refl

  step-same : (w : Standing) (step : Step) → behind_step S w step ≡ behind_step T w step
  step-same w step = rule-same w (step_in w step) (step_in w step).rule

  pub replay-same : (steps : List Step) (w : Standing) → behind_run S steps w ≡ behind_run T steps w
  replay-same [] w = refl
  replay-same (step ∷ steps) w = ap (behind_run S steps) (step-same w step) ∙ replay-same steps (behind_step T w step)

  -- ---- terms

  term-same : (number : Naming) (L : ℕ) (w : Standing) (step : Step) (rule : Rule) (N : Term)
      → rule_term S number L w step rule N ≡ rule_term T number L w step rule N
  term-same number L w step (SolveRight x) N = refl
  term-same number L w step (SolveLeft x) N = refl
  term-same number L w step (Inject n c) N =
      ap (λ o. on_comparison o (λ comparison. inject_term number L w (step.group - 1) comparison N)) (compared-same w.state step)
  term-same number L w step (Conflict n c d) N =
      ap (λ o. on_comparison o (conflict_term number L w (step.group - 1))) (compared-same w.state step)
  term-same number L w step (Cycle x) N =
      ap₂ (λ l r. on_side step.left step.right l r (cycle_term number L w x)) (built-same step.left) (built-same step.right)
  term-same number L w step Delete N = refl

  run-same : (number : Naming) (L : ℕ) (end : Term) (steps : List Step) (w : Standing) → run_term S number L end steps w ≡ run_term T number L end steps w
  run-same number L end [] w = refl
  run-same number L end (step ∷ steps) w =
      let after : Standing → Term → Term = λ next inner.
      rule_term S number L w (step_in w step) (step_in w step).rule (state_term next inner) in
      let next = behind_step T w step in
      ap₂ after (step-same w step)
      (ap (run_term S number L end steps) (step-same w step) ∙ run-same number L end steps next)
      ∙ term-same number L w (step_in w step) (step_in w step).rule (state_term next (run_term T number L end steps next))

  methods-same : (number : Naming) (L : ℕ) (node : Node) (m : Member) (x at : ℕ) (cs : List Constructor) (runs : List (List Step)) (ends : List Term)
      → split_methods S number L node m x at cs runs ends ≡ split_methods T number L node m x at cs runs ends
  methods-same number L node m x at [] runs ends = refl
  methods-same number L node m x at (c ∷ cs) [] ends = refl
  methods-same number L node m x at (c ∷ cs) (steps ∷ runs) ends =
      ap₂ ◌∷◌
      (ap (λ inner. functions (member_types (argument_items m.n m.parameters c)) (state_term (branch_standing node m x at c) inner))
      (run-same number L (first_of ends) steps (branch_standing node m x at c)))
      (methods-same number L node m x (at + 1) cs runs (cond (is_absurd steps) ends (behind_first ends)))

  split-same : (number : Naming) (L : ℕ) (node : Node) (x : ℕ) (type : Term) (runs : List (List Step)) (ends : List Term)
      → split_node S number L node x type runs ends ≡ split_node T number L node x type runs ends
  split-same number L node x type runs ends =
      ap (λ o. on_member o (λ m. split_member S number L node m x runs ends)) (member-same type) ∙ by (member_of T type)
    where
      by : (o : Option Member) → on_member o (λ m. split_member S number L node m x runs ends) ≡ on_member o (λ m. split_member T number L node m x runs ends)
      by None = refl
      by (Some m) =
          ap (λ methods.
          applied (Const (number (case_name m.family L)))
          (m.parameters
          ++ split_motive node m x
          ∷ (methods ++ (scrutinee m x ++ reflexivities (family_items m.n m.family m.parameters) (scrutinee m x)))))
          (methods-same number L node m x 0 m.family.constructors runs ends)

  found-same : (node : Node) (m : Member) (x number : ℕ) (steps : List Step) (o : Option Constructor)
      → node_behind S node m x number steps o ≡ node_behind T node m x number steps o
  found-same node m x number steps None = refl
  found-same node m x number steps (Some c) = ap node_of (replay-same steps (branch_standing node m x number c))

  pub next-same : (node : Node) (x number : ℕ) (steps : List Step) (o : Option Member) → next_node S node x number steps o ≡ next_node T node x number steps o
  next-same node x number steps None = refl
  next-same node x number steps (Some m) = found-same node m x number steps (slice_get m.family.constructors number)

  -- ---- names

  pub step-names-same : (L : ℕ) (w : Standing) (step : Step) (rule : Rule) → rule_names S L w step rule ≡ rule_names T L w step rule
  step-names-same L w step (SolveRight x) = refl
  step-names-same L w step (SolveLeft x) = refl
  step-names-same L w step (Inject n c) = ap (compared_names L) (compared-same w.state step)
  step-names-same L w step (Conflict n c d) = ap (compared_names L) (compared-same w.state step)
  step-names-same L w step (Cycle x) = ap₂ cycle_names (built-same step.left) (built-same step.right)
  step-names-same L w step Delete = refl

  run-names-same : (L : ℕ) (steps : List Step) (w : Standing) → run_names S L steps w ≡ run_names T L steps w
  run-names-same L [] w = refl
  run-names-same L (step ∷ steps) w =
      ap₂ ◌++◌ (step-names-same L w (step_in w step) (step_in w step).rule)
      (ap (run_names S L steps) (step-same w step) ∙ run-names-same L steps (behind_step T w step))

  methods-names-same : (L : ℕ) (node : Node) (m : Member) (x at : ℕ) (cs : List Constructor) (runs : List (List Step))
      → methods_names S L node m x at cs runs ≡ methods_names T L node m x at cs runs
  methods-names-same L node m x at [] runs = refl
  methods-names-same L node m x at (c ∷ cs) [] = refl
  methods-names-same L node m x at (c ∷ cs) (steps ∷ runs) =
      ap₂ ◌++◌ (run-names-same L steps (branch_standing node m x at c)) (methods-names-same L node m x (at + 1) cs runs)

  split-names-same : (L : ℕ) (node : Node) (x : ℕ) (type : Term) (runs : List (List Step)) → split_names S L node x type runs ≡ split_names T L node x type runs
  split-names-same L node x type runs = ap (member_names S L node x runs) (member-same type) ∙ by (member_of T type)
    where
      by : (o : Option Member) → member_names S L node x runs o ≡ member_names T L node x runs o
      by None = refl
      by (Some m) = ap (λ names. case_name m.family L ∷ names) (methods-names-same L node m x 0 m.family.constructors runs)

-- ---- trees

mutual
  pub tree-same : (S T : Signature) → HaveSame S T → (v : Translation) (t : Tree) (node : Node)
      → tree_term (at_signature S v) t node ≡ tree_term (at_signature T v) t node
  tree-same S T same v (tree.Leaf clause context goal substitution terms binds) node = refl
  tree-same S T same v (tree.Split context x n type branches) node =
      let y = variable_in node x in
      let A = type_in node type in
      ap (split_node S v.number v.part.level node y A (runs_of branches))
      (ap (λ o. branch_ends (at_signature S v) branches node y o 0) (member-same S T same A) ∙ ends-same S T same v branches node y (member_of T A) 0)
      ∙ split-same S T same v.number v.part.level node y A (runs_of branches) (branch_ends (at_signature T v) branches node y (member_of T A) 0)

  ends-same : (S T : Signature) → HaveSame S T → (v : Translation) (branches : Branches) (node : Node) (x : ℕ) (o : Option Member) (number : ℕ)
      → branch_ends (at_signature S v) branches node x o number ≡ branch_ends (at_signature T v) branches node x o number
  ends-same S T same v tree.nil node x o number = refl
  ends-same S T same v (tree.cons branch branches) node x o number =
      ap₂ ◌++◌ (end-same S T same v branch node x o number) (ends-same S T same v branches node x o (number + 1))

  end-same : (S T : Signature) → HaveSame S T → (v : Translation) (branch : Branch) (node : Node) (x : ℕ) (o : Option Member) (number : ℕ)
      → branch_end (at_signature S v) branch node x o number ≡ branch_end (at_signature T v) branch node x o number
  end-same S T same v (tree.Absurd steps context l r) node x o number = refl
  end-same S T same v (tree.Solved steps origins subtree) node x o number =
      ap (λ t. t ∷ [])
      (ap (tree_term (at_signature S v) subtree) (next-same S T same node x number steps o)
      ∙ tree-same S T same v subtree (next_node T node x number steps o))

mutual
  pub tree-names-same : (S T : Signature) → HaveSame S T → (L : ℕ) (t : Tree) (node : Node) → tree_names S L t node ≡ tree_names T L t node
  tree-names-same S T same L (tree.Leaf clause context goal substitution terms binds) node = refl
  tree-names-same S T same L (tree.Split context x n type branches) node =
      let y = variable_in node x in
      let A = type_in node type in
      ap₂ ◌++◌ (split-names-same S T same L node y A (runs_of branches))
      (ap (λ o. branches_names S L branches node y o 0) (member-same S T same A) ∙ branches-names-same S T same L branches node y (member_of T A) 0)

  branches-names-same : (S T : Signature) → HaveSame S T → (L : ℕ) (branches : Branches) (node : Node) (x : ℕ) (o : Option Member) (number : ℕ)
      → branches_names S L branches node x o number ≡ branches_names T L branches node x o number
  branches-names-same S T same L tree.nil node x o number = refl
  branches-names-same S T same L (tree.cons branch branches) node x o number =
      ap₂ ◌++◌ (branch-names-same S T same L branch node x o number) (branches-names-same S T same L branches node x o (number + 1))

  branch-names-same : (S T : Signature) → HaveSame S T → (L : ℕ) (branch : Branch) (node : Node) (x : ℕ) (o : Option Member) (number : ℕ)
      → branch_names S L branch node x o number ≡ branch_names T L branch node x o number
  branch-names-same S T same L (tree.Absurd steps context l r) node x o number = refl
  branch-names-same S T same L (tree.Solved steps origins subtree) node x o number =
      ap (tree_names S L subtree) (next-same S T same node x number steps o) ∙ tree-names-same S T same L subtree (next_node T node x number steps o)
