-- The code gives the same answers over signatures that have the same families at the same numbers.
use Rattle.std.proofs.Common.{◌≡◌, ℕ, ◌+◌, ◌-◌, ◌&&◌, cond, Option, Some, None, List, [], ◌∷◌, ◌++◌, slice_get, Result, Ok, Err, refl, ap, ap₂, ◌∙◌}
use Rattle.theory.specs.Terms.{Term, App}
use Rattle.theory.specs.Families.{Constructor}
use Rattle.theory.specs.Signatures.{Signature}
use Rattle.core_terms.specs.Answers.{and_then, is_low}
use Rattle.core_terms.specs.CaseTrees as tree
use Rattle.core_terms.specs.CaseTrees.{Branch, Branches, Step, Tree}
use Rattle.core_terms.specs.declared.case_tree.Rule.{Rule}
use Rattle.core_terms.specs.declared.case_tree.Rule.TheVariants.{SolveRight, SolveLeft, Inject, Conflict, Cycle, Delete}
use Rattle.core_terms.specs.declared.stop.Stop.{Stop}
use Rattle.core_terms.specs.declared.stop.Stop.TheVariants.{Deep}
use Rattle.case_trees.specs.Problems.{Member}
use Rattle.tree_translation.specs.CycleTerms.{cycle_term}
use Rattle.tree_translation.specs.Naming.{Naming, case_name}
use Rattle.tree_translation.specs.Replays.{step_in}
use Rattle.tree_translation.specs.RunTerms.{on_side}
use Rattle.tree_translation.specs.Splits.{Node, behind_first, first_of, is_absurd}
use Rattle.tree_translation.specs.Standings.{Standing, state_term}
use Rattle.tree_translation.specs.TreeTerms.{Translation, node_of, runs_of, type_in, variable_in}
use Rattle.run_terms.specs.CodeConfusions.{conflict_made, inject_made}
use Rattle.run_terms.specs.CodeRuns.{after_rule, after_run, after_step, injected_if_there}
use Rattle.split_terms.specs.CodeRunTerms.{on_comparison_made, rule_made, rule_names_made, run_made, run_names_made, sides_made, step_made, step_names_made}
use Rattle.split_terms.specs.CodeSplits.{branch_names_made, member_made, member_names_made, method_made, method_with, methods_names_made, motive_made, split_end, split_head, split_names_made, split_node_made, split_option_made, standing_made, with_methods}
use Rattle.function_entries.specs.CodeTrees.{branch_names_made as branch_names, branches_names_made, end_made, ends_made, names_at_split, next_made, node_after, split_at, tree_made, tree_names_made}
use Rattle.exact_laws.proofs.translation_laws.AnsweredTrees.{at_signature}
use Rattle.exact_laws.proofs.translation_laws.SameFamilies.{HaveSame, built-same, compared-same, member-same, step-names-same}

-- an answer after another one, where both are the same
pub then-same : {A B : Type 0} (r s : Result A Stop) (go on : A → Result B Stop) → r ≡ s → ((a : A) → go a ≡ on a) → and_then r go ≡ and_then s on
then-same {A = A} {B = B} r s go on e each = ap (λ r. and_then r go) e ∙ by s
  where
    by : (s : Result A Stop) → and_then s go ≡ and_then s on
    by (Ok a) = each a
    by (Err z) = refl

module _ (S T : Signature) (same : HaveSame S T) where
  -- ---- standings

  after-rule-same : (w : Standing) (step : Step) (rule : Rule) → after_rule S w step rule ≡ after_rule T w step rule
  after-rule-same w step (SolveRight x) = refl
  after-rule-same w step (SolveLeft x) = refl
  after-rule-same w step (Inject n number) =
      ap (λ o. cond (is_low step.left && is_low step.right) (injected_if_there w step.group o) (Err Deep)) (compared-same S T same w.state step)
  after-rule-same w step Delete = refl
  after-rule-same w step (Conflict n c d) = refl
  after-rule-same w step (Cycle x) = refl

  after-same : (w : Standing) (step : Step) → after_step S w step ≡ after_step T w step
  after-same w step = after-rule-same w (step_in w step) (step_in w step).rule

  run-after-same : (steps : List Step) (w : Standing) → after_run S steps w ≡ after_run T steps w
  run-after-same [] w = refl
  run-after-same (step ∷ steps) w =
      then-same (after_step S w step) (after_step T w step) (after_run S steps) (after_run T steps) (after-same w step) (run-after-same steps)

  -- ---- runs

  sides-same : (number : Naming) (L : ℕ) (w : Standing) (step : Step) (rule : Rule) (N : Term)
      → sides_made S number L w step rule N ≡ sides_made T number L w step rule N
  sides-same number L w step (SolveRight x) N = refl
  sides-same number L w step (SolveLeft x) N = refl
  sides-same number L w step (Inject n c) N =
      ap (λ o. on_comparison_made o (λ c. inject_made number L w (step.group - 1) c N)) (compared-same S T same w.state step)
  sides-same number L w step (Conflict n c d) N =
      ap (λ o. on_comparison_made o (conflict_made number L w (step.group - 1))) (compared-same S T same w.state step)
  sides-same number L w step (Cycle x) N =
      ap₂ (λ l r. Ok (on_side step.left step.right l r (cycle_term number L w x))) (built-same S T same step.left) (built-same S T same step.right)
  sides-same number L w step Delete N = refl

  made-same : (number : Naming) (L : ℕ) (w : Standing) (step : Step) (rule : Rule) (N : Term)
      → rule_made S number L w step rule N ≡ rule_made T number L w step rule N
  made-same number L w step (SolveRight x) N = refl
  made-same number L w step (SolveLeft x) N = refl
  made-same number L w step (Inject n c) N =
      ap (λ r. cond (is_low step.left && is_low step.right) r (Err Deep)) (sides-same number L w step (Inject n c) N)
  made-same number L w step (Conflict n c d) N =
      ap (λ r. cond (is_low step.left && is_low step.right) r (Err Deep)) (sides-same number L w step (Conflict n c d) N)
  made-same number L w step (Cycle x) N =
      ap (λ r. cond (is_low step.left && is_low step.right) r (Err Deep)) (sides-same number L w step (Cycle x) N)
  made-same number L w step Delete N = refl

  run-made-same : (number : Naming) (L : ℕ) (end : Term) (steps : List Step) (w : Standing) → run_made S number L end steps w ≡ run_made T number L end steps w
  run-made-same number L end [] w = refl
  run-made-same number L end (step ∷ steps) w =
      then-same (after_step S w step) (after_step T w step) (λ next. and_then (run_made S number L end steps next) (step_made S number L w step next))
      (λ next. and_then (run_made T number L end steps next) (step_made T number L w step next)) (after-same w step) (λ next.
      then-same (run_made S number L end steps next) (run_made T number L end steps next) (step_made S number L w step next) (step_made T number L w step next)
      (run-made-same number L end steps next) (λ inner. made-same number L w (step_in w step) (step_in w step).rule (state_term next inner)))

  rule-names-same : (L : ℕ) (w : Standing) (step : Step) (rule : Rule) (names : List (List ℕ))
      → rule_names_made S L w step rule names ≡ rule_names_made T L w step rule names
  rule-names-same L w step (SolveRight x) names = refl
  rule-names-same L w step (SolveLeft x) names = refl
  rule-names-same L w step (Inject n c) names =
      ap (λ own. cond (is_low step.left && is_low step.right) (Ok (names ++ own)) (Err Deep)) (step-names-same S T same L w step (Inject n c))
  rule-names-same L w step (Conflict n c d) names =
      ap (λ own. cond (is_low step.left && is_low step.right) (Ok (names ++ own)) (Err Deep)) (step-names-same S T same L w step (Conflict n c d))
  rule-names-same L w step (Cycle x) names =
      ap (λ own. cond (is_low step.left && is_low step.right) (Ok (names ++ own)) (Err Deep)) (step-names-same S T same L w step (Cycle x))
  rule-names-same L w step Delete names = refl

  run-names-same : (L : ℕ) (steps : List Step) (w : Standing) (names : List (List ℕ)) → run_names_made S L steps w names ≡ run_names_made T L steps w names
  run-names-same L [] w names = refl
  run-names-same L (step ∷ steps) w names =
      then-same (step_names_made S L w step names) (step_names_made T L w step names)
      (λ all. and_then (after_step S w step) (λ next. run_names_made S L steps next all))
      (λ all. and_then (after_step T w step) (λ next. run_names_made T L steps next all)) (rule-names-same L w (step_in w step) (step_in w step).rule names) (λ all.
      then-same (after_step S w step) (after_step T w step) (λ next. run_names_made S L steps next all) (λ next. run_names_made T L steps next all)
      (after-same w step) (λ next. run-names-same L steps next all))

  -- ---- splits

  pub member-made-same : (type : Term) → member_made S type ≡ member_made T type
  member-made-same type = ap (λ o. cond (is_low type) (Ok o) (Err Deep)) (member-same S T same type)

  method-same : (number : Naming) (L : ℕ) (node : Node) (m : Member) (x at : ℕ) (c : Constructor) (steps : List Step) (end : Term)
      → method_made S number L node m x at c steps end ≡ method_made T number L node m x at c steps end
  method-same number L node m x at c steps end =
      then-same (standing_made node m x at c) (standing_made node m x at c)
      (λ s. and_then (run_made S number L end steps s) (λ inner. Ok (method_with m c s inner)))
      (λ s. and_then (run_made T number L end steps s) (λ inner. Ok (method_with m c s inner))) refl (λ s.
      ap (λ (r : Result Term Stop). and_then r (λ inner. Ok (method_with m c s inner))) (run-made-same number L end steps s))

  with-same : (number : Naming) (L : ℕ) (node : Node) (m : Member) (x at : ℕ) (cs : List Constructor) (runs : List (List Step)) (ends : List Term) (head : Term)
      → with_methods head S number L node m x at cs runs ends ≡ with_methods head T number L node m x at cs runs ends
  with-same number L node m x at [] runs ends head = refl
  with-same number L node m x at (c ∷ cs) [] ends head = refl
  with-same number L node m x at (c ∷ cs) (steps ∷ runs) ends head =
      let others = cond (is_absurd steps) ends (behind_first ends) in
      then-same (method_made S number L node m x at c steps (first_of ends)) (method_made T number L node m x at c steps (first_of ends))
      (λ method. with_methods (App head method) S number L node m x (at + 1) cs runs others)
      (λ method. with_methods (App head method) T number L node m x (at + 1) cs runs others) (method-same number L node m x at c steps (first_of ends)) (λ method.
      with-same number L node m x (at + 1) cs runs others (App head method))

  option-same : (number : Naming) (L : ℕ) (node : Node) (x : ℕ) (runs : List (List Step)) (ends : List Term) (o : Option Member)
      → split_option_made S number L node x runs ends o ≡ split_option_made T number L node x runs ends o
  option-same number L node x runs ends None = refl
  option-same number L node x runs ends (Some m) =
      let head = split_head number L m in
      let cs = m.family.constructors in
      then-same (motive_made node m x) (motive_made node m x) (λ motive. and_then (with_methods (head motive) S number L node m x 0 cs runs ends) (split_end m x))
      (λ motive. and_then (with_methods (head motive) T number L node m x 0 cs runs ends) (split_end m x)) refl (λ motive.
      ap (λ (r : Result Term Stop). and_then r (split_end m x)) (with-same number L node m x 0 cs runs ends (head motive)))

  pub split-made-same : (number : Naming) (L : ℕ) (node : Node) (x : ℕ) (type : Term) (runs : List (List Step)) (ends : List Term)
      → split_node_made S number L node x type runs ends ≡ split_node_made T number L node x type runs ends
  split-made-same number L node x type runs ends =
      then-same (member_made S type) (member_made T type) (split_option_made S number L node x runs ends) (split_option_made T number L node x runs ends)
      (member-made-same type) (option-same number L node x runs ends)

  methods-names-same : (L : ℕ) (node : Node) (m : Member) (x at : ℕ) (cs : List Constructor) (runs : List (List Step)) (names : List (List ℕ))
      → methods_names_made S L node m x at cs runs names ≡ methods_names_made T L node m x at cs runs names
  methods-names-same L node m x at [] runs names = refl
  methods-names-same L node m x at (c ∷ cs) [] names = refl
  methods-names-same L node m x at (c ∷ cs) (steps ∷ runs) names =
      then-same (branch_names_made S L node m x at c steps names) (branch_names_made T L node m x at c steps names)
      (methods_names_made S L node m x (at + 1) cs runs) (methods_names_made T L node m x (at + 1) cs runs)
      (then-same (standing_made node m x at c) (standing_made node m x at c) (λ s. run_names_made S L steps s names) (λ s. run_names_made T L steps s names) refl
      (λ s. run-names-same L steps s names))
      (λ all. methods-names-same L node m x (at + 1) cs runs all)

  option-names-same : (L : ℕ) (node : Node) (x : ℕ) (runs : List (List Step)) (names : List (List ℕ)) (o : Option Member)
      → member_names_made S L node x runs names o ≡ member_names_made T L node x runs names o
  option-names-same L node x runs names None = refl
  option-names-same L node x runs names (Some m) = methods-names-same L node m x 0 m.family.constructors runs (names ++ case_name m.family L ∷ [])

  pub split-names-made-same : (L : ℕ) (node : Node) (x : ℕ) (type : Term) (runs : List (List Step)) (names : List (List ℕ))
      → split_names_made S L node x type runs names ≡ split_names_made T L node x type runs names
  split-names-made-same L node x type runs names =
      then-same (member_made S type) (member_made T type) (member_names_made S L node x runs names) (member_names_made T L node x runs names)
      (member-made-same type) (option-names-same L node x runs names)

  -- ---- nodes

  found-made-same : (node : Node) (m : Member) (x number : ℕ) (steps : List Step) (o : Option Constructor)
      → node_after S node m x number steps o ≡ node_after T node m x number steps o
  found-made-same node m x number steps None = refl
  found-made-same node m x number steps (Some c) =
      then-same (standing_made node m x number c) (standing_made node m x number c) (λ s. and_then (after_run S steps s) (λ end. Ok (node_of end)))
      (λ s. and_then (after_run T steps s) (λ end. Ok (node_of end))) refl (λ s.
      ap (λ (r : Result Standing Stop). and_then r (λ end. Ok (node_of end))) (run-after-same steps s))

  pub next-made-same : (node : Node) (x number : ℕ) (steps : List Step) (o : Option Member)
      → next_made S node x number steps o ≡ next_made T node x number steps o
  next-made-same node x number steps None = refl
  next-made-same node x number steps (Some m) = found-made-same node m x number steps (slice_get m.family.constructors number)

-- ---- trees

mutual
  pub tree-made-same : (S T : Signature) → HaveSame S T → (v : Translation) (t : Tree) (node : Node)
      → tree_made (at_signature S v) t node ≡ tree_made (at_signature T v) t node
  tree-made-same S T same v (tree.Leaf clause context goal substitution terms binds) node = refl
  tree-made-same S T same v (tree.Split context x n type branches) node =
      let y = variable_in node x in
      let A = type_in node type in
      then-same (member_made S A) (member_made T A)
      (λ o. and_then (ends_made (at_signature S v) branches node y o 0 []) (split_at (at_signature S v) node y A branches))
      (λ o. and_then (ends_made (at_signature T v) branches node y o 0 []) (split_at (at_signature T v) node y A branches)) (member-made-same S T same A) (λ o.
      then-same (ends_made (at_signature S v) branches node y o 0 []) (ends_made (at_signature T v) branches node y o 0 [])
      (split_at (at_signature S v) node y A branches) (split_at (at_signature T v) node y A branches) (ends-made-same S T same v branches node y o 0 []) (λ ends.
      split-made-same S T same v.number v.part.level node y A (runs_of branches) ends))

  ends-made-same : (S T : Signature) → HaveSame S T → (v : Translation) (branches : Branches) (node : Node) (x : ℕ) (o : Option Member) (number : ℕ) (made : List Term)
      → ends_made (at_signature S v) branches node x o number made ≡ ends_made (at_signature T v) branches node x o number made
  ends-made-same S T same v tree.nil node x o number made = refl
  ends-made-same S T same v (tree.cons branch branches) node x o number made =
      then-same (end_made (at_signature S v) branch node x o number made) (end_made (at_signature T v) branch node x o number made)
      (λ all. ends_made (at_signature S v) branches node x o (number + 1) all) (λ all. ends_made (at_signature T v) branches node x o (number + 1) all)
      (end-made-same S T same v branch node x o number made) (λ all. ends-made-same S T same v branches node x o (number + 1) all)

  end-made-same : (S T : Signature) → HaveSame S T → (v : Translation) (branch : Branch) (node : Node) (x : ℕ) (o : Option Member) (number : ℕ) (made : List Term)
      → end_made (at_signature S v) branch node x o number made ≡ end_made (at_signature T v) branch node x o number made
  end-made-same S T same v (tree.Absurd steps context l r) node x o number made = refl
  end-made-same S T same v (tree.Solved steps origins subtree) node x o number made =
      then-same (next_made S node x number steps o) (next_made T node x number steps o)
      (λ next. and_then (tree_made (at_signature S v) subtree next) (λ t. Ok (made ++ t ∷ [])))
      (λ next. and_then (tree_made (at_signature T v) subtree next) (λ t. Ok (made ++ t ∷ []))) (next-made-same S T same node x number steps o) (λ next.
      ap (λ (r : Result Term Stop). and_then r (λ t. Ok (made ++ t ∷ []))) (tree-made-same S T same v subtree next))

mutual
  pub tree-names-made-same : (S T : Signature) → HaveSame S T → (L : ℕ) (t : Tree) (node : Node) (names : List (List ℕ))
      → tree_names_made S L t node names ≡ tree_names_made T L t node names
  tree-names-made-same S T same L (tree.Leaf clause context goal substitution terms binds) node names = refl
  tree-names-made-same S T same L (tree.Split context x n type branches) node names =
      let y = variable_in node x in
      let A = type_in node type in
      then-same (member_made S A) (member_made T A)
      (λ o. and_then (names_at_split S L node y A branches names) (branches_names_made S L branches node y o 0))
      (λ o. and_then (names_at_split T L node y A branches names) (branches_names_made T L branches node y o 0)) (member-made-same S T same A) (λ o.
      then-same (names_at_split S L node y A branches names) (names_at_split T L node y A branches names) (branches_names_made S L branches node y o 0)
      (branches_names_made T L branches node y o 0) (split-names-made-same S T same L node y A (runs_of branches) names) (λ all.
      branches-names-made-same S T same L branches node y o 0 all))

  branches-names-made-same : (S T : Signature) → HaveSame S T → (L : ℕ) (branches : Branches) (node : Node) (x : ℕ) (o : Option Member) (number : ℕ) (names : List (List ℕ))
      → branches_names_made S L branches node x o number names ≡ branches_names_made T L branches node x o number names
  branches-names-made-same S T same L tree.nil node x o number names = refl
  branches-names-made-same S T same L (tree.cons branch branches) node x o number names =
      then-same (branch_names S L branch node x o number names) (branch_names T L branch node x o number names)
      (λ all. branches_names_made S L branches node x o (number + 1) all) (λ all. branches_names_made T L branches node x o (number + 1) all)
      (branch-names-made-same S T same L branch node x o number names) (λ all. branches-names-made-same S T same L branches node x o (number + 1) all)

  branch-names-made-same : (S T : Signature) → HaveSame S T → (L : ℕ) (branch : Branch) (node : Node) (x : ℕ) (o : Option Member) (number : ℕ) (names : List (List ℕ))
      → branch_names S L branch node x o number names ≡ branch_names T L branch node x o number names
  branch-names-made-same S T same L (tree.Absurd steps context l r) node x o number names = refl
  branch-names-made-same S T same L (tree.Solved steps origins subtree) node x o number names =
      then-same (next_made S node x number steps o) (next_made T node x number steps o) (λ next. tree_names_made S L subtree next names)
      (λ next. tree_names_made T L subtree next names) (next-made-same S T same node x number steps o) (λ next. tree-names-made-same S T same L subtree next names)
