-- The terms of split nodes and trees have constants of one kind, where the names that they may mention have numbers of that kind.
use Rattle.std.proofs.Common.{◌≡◌, ℕ, ◌+◌, Bool, true, false, cond, Option, Some, None, IfSome, List, [], ◌∷◌, length, slice_get, refl}
use Rattle.theory.specs.Terms.{Term, Var, Const, lift}
use Rattle.theory.specs.Telescopes.{variables}
use Rattle.theory.specs.Families.{Constructor}
use Rattle.theory.specs.Signatures.{Signature}
use Rattle.core_terms.specs.CaseTrees as tree
use Rattle.core_terms.specs.CaseTrees.{Step, Tree, Branch, Branches}
use Rattle.tele_eq.specs.TelescopicEquality.{equations, reflexivities}
use Rattle.unification.specs.Injecting.{lifted}
use Rattle.unification.specs.Records.{argument_items, family_items}
use Rattle.unification.specs.ScopedStates.{IsScopedStep, AreScopedSteps, variables_behind}
use Rattle.case_trees.specs.Problems.{Member, member_of}
use Rattle.case_trees.specs.Scoped.{IsScopedTree, AreScopedBranches, IsScopedBranch}
use Rattle.tree_translation.specs.Naming.{Naming, case_name}
use Rattle.tree_translation.specs.Standings.{Standing, state_term}
use Rattle.tree_translation.specs.RunTerms.{run_term, run_names}
use Rattle.tree_translation.specs.Splits.{Node, member_types, scrutinee, split_motive, branch_standing, split_method, is_absurd, first_of, behind_first, split_methods, split_member, on_member, split_node, methods_names, member_names, split_names}
use Rattle.tree_translation.specs.TreeTerms.{Translation, type_in, variable_in, node_behind, next_node, steps_of, runs_of, tree_term, branch_ends, branch_end, tree_names, branches_names, branch_names}
use Rattle.tree_translation.specs.RightSides.{leaf_term}
use Rattle.entry_laws.proofs.OnlyConstants.{Each, each-append, each-left, each-right, HasOnly, only-lift, only-products, only-functions, only-applied, only-variables}
use Rattle.entry_laws.proofs.OnlyEquations.{only-equations, only-reflexivities}
use Rattle.entry_laws.proofs.OnlyFamilies.{CoversConstants, only-scoped, only-all_scoped, FamiliesOnly, MemberOnly, ConstructorOnly, only-member, only-constructor, only-lifted, only-argument_items, only-family_items}
use Rattle.entry_laws.proofs.OnlyStates.{OptionOnly, StepOnly, StandingOnly, NodeOnly, only-placed, only-placed_telescope, only-types, only-branch_standing, only-behind_run}
use Rattle.entry_laws.proofs.OnlyRuns.{NumbersHave, only-run_term}

-- ---- split nodes

only-scrutinee : {Q : ℕ → Type 0} (m : Member) (x : ℕ) → MemberOnly Q m → Each (HasOnly Q) (scrutinee m x)
only-scrutinee m x h = each-append m.indices (Var x ∷ []) h.indices (Each.more HasOnly.of_var Each.none)

only-split_motive : {Q : ℕ → Type 0} (node : Node) (m : Member) (x : ℕ) → NodeOnly Q node → MemberOnly Q m → HasOnly Q (split_motive node m x)
only-split_motive node m x hn h =
    let count = length m.indices + 1 in
    let items = family_items m.n m.family (lifted count m.parameters) in
    let types = equations items (variables count) (lifted count (scrutinee m x)) in
    only-functions (member_types (family_items m.n m.family m.parameters)) _ (only-family_items m.n m.family m.parameters h.family h.parameters)
    (only-products types (lift node.goal (count + length types) 0)
    (only-equations items (variables count) (lifted count (scrutinee m x)) (only-family_items m.n m.family (lifted count m.parameters) h.family (only-lifted count m.parameters h.parameters))
    (only-variables count) (only-lifted count (scrutinee m x) (only-scrutinee m x h)))
    (only-lift node.goal (count + length types) 0 hn.goal))

only-state_term : {Q : ℕ → Type 0} (s : Standing) (inner : Term) → StandingOnly Q s → HasOnly Q inner → HasOnly Q (state_term s inner)
only-state_term s inner h k =
    only-functions _ inner (only-placed_telescope s.variables s.depth _ (only-types s.state.equations h.state.equations)) k

only-split_method : {Q : ℕ → Type 0} (S : Signature) (number : Naming) (L : ℕ) (node : Node) (m : Member) (x at : ℕ) (c : Constructor) (steps : List Step) (end : Term)
    → FamiliesOnly Q S → NumbersHave Q number (run_names S L steps (branch_standing node m x at c)) → NodeOnly Q node → MemberOnly Q m → ConstructorOnly Q c
    → Each (StepOnly Q) steps → HasOnly Q end → HasOnly Q (split_method S number L node m x at c steps end)
only-split_method S number L node m x at c steps end families named hn hm hc hs he =
    let s = branch_standing node m x at c in
    let h = only-branch_standing node m x at c hn hm hc in
    only-functions (member_types (argument_items m.n m.parameters c)) _ (only-argument_items m.n m.parameters c hm.parameters hc)
    (only-state_term s (run_term S number L end steps s) h (only-run_term S number L end steps s families named h hs he))

only-first : {Q : ℕ → Type 0} (ends : List Term) → Each (HasOnly Q) ends → HasOnly Q (first_of ends)
only-first [] Each.none = HasOnly.of_sort
only-first (t ∷ ends) (Each.more h all) = h

only-others : {Q : ℕ → Type 0} (absurd_run : Bool) (ends : List Term) → Each (HasOnly Q) ends → Each (HasOnly Q) (cond absurd_run ends (behind_first ends))
only-others true ends all = all
only-others false [] Each.none = Each.none
only-others false (t ∷ ends) (Each.more h all) = all

only-split_methods : {Q : ℕ → Type 0} (S : Signature) (number : Naming) (L : ℕ) (node : Node) (m : Member) (x at : ℕ) (constructors : List Constructor) (runs : List (List Step))
    (ends : List Term) → FamiliesOnly Q S → NumbersHave Q number (methods_names S L node m x at constructors runs) → NodeOnly Q node → MemberOnly Q m
    → Each (ConstructorOnly Q) constructors → Each (Each (StepOnly Q)) runs → Each (HasOnly Q) ends
    → Each (HasOnly Q) (split_methods S number L node m x at constructors runs ends)
only-split_methods S number L node m x at (c ∷ constructors) (steps ∷ runs) ends families named hn hm (Each.more hc hcs) (Each.more hs hr) he =
    Each.more
    (only-split_method S number L node m x at c steps (first_of ends) families (each-left (run_names S L steps (branch_standing node m x at c)) _ named) hn hm hc hs (only-first ends he))
    (only-split_methods S number L node m x (at + 1) constructors runs (cond (is_absurd steps) ends (behind_first ends)) families
    (each-right (run_names S L steps (branch_standing node m x at c)) _ named) hn hm hcs hr (only-others (is_absurd steps) ends he))
only-split_methods S number L node m x at (c ∷ constructors) [] ends families named hn hm hcs hr he = Each.none
only-split_methods S number L node m x at [] runs ends families named hn hm hcs hr he = Each.none

only-on_member : {Q : ℕ → Type 0} (S : Signature) (number : Naming) (L : ℕ) (node : Node) (x : ℕ) (runs : List (List Step)) (ends : List Term) (o : Option Member)
    → FamiliesOnly Q S → NumbersHave Q number (member_names S L node x runs o) → NodeOnly Q node → IfSome o (MemberOnly Q) → Each (Each (StepOnly Q)) runs
    → Each (HasOnly Q) ends → HasOnly Q (on_member o (λ m. split_member S number L node m x runs ends))
only-on_member S number L node x runs ends None families named hn hm hr he = HasOnly.of_sort
only-on_member S number L node x runs ends (Some m) families (Each.more q named) hn hm hr he =
    let items = family_items m.n m.family m.parameters in
    only-applied (Const (number (case_name m.family L))) _ (HasOnly.of_const q)
    (each-append m.parameters _ hm.parameters
    (Each.more (only-split_motive node m x hn hm)
    (each-append (split_methods S number L node m x 0 m.family.constructors runs ends) _
    (only-split_methods S number L node m x 0 m.family.constructors runs ends families named hn hm hm.family.constructors hr he)
    (each-append (scrutinee m x) (reflexivities items (scrutinee m x)) (only-scrutinee m x hm)
    (only-reflexivities items (scrutinee m x) (only-family_items m.n m.family m.parameters hm.family hm.parameters) (only-scrutinee m x hm))))))

pub only-split_node : {Q : ℕ → Type 0} (S : Signature) (number : Naming) (L : ℕ) (node : Node) (x : ℕ) (type : Term) (runs : List (List Step)) (ends : List Term)
    → FamiliesOnly Q S → NumbersHave Q number (split_names S L node x type runs) → NodeOnly Q node → HasOnly Q type → Each (Each (StepOnly Q)) runs
    → Each (HasOnly Q) ends → HasOnly Q (split_node S number L node x type runs ends)
only-split_node S number L node x type runs ends families named hn ht hr he =
    only-on_member S number L node x runs ends (member_of S type) families named hn (only-member S type families ht) hr he

-- ---- steps of scoped trees

pub only-steps : {Q : ℕ → Type 0} (S : Signature) (n : ℕ) (steps : List Step) → CoversConstants Q S → AreScopedSteps S n steps → Each (StepOnly Q) steps
only-steps S n [] covers h = Each.none
only-steps S n (step ∷ steps) covers h =
    let one : IsScopedStep S n step = h.0 in
    Each.more
    (record { ty = only-scoped S (n + one.place) step.ty covers one.type; left = only-scoped S n step.left covers one.left; right = only-scoped S n step.right covers one.right })
    (only-steps S (variables_behind step.rule n) steps covers h.1)

only-branch_steps : {Q : ℕ → Type 0} (S : Signature) (n : ℕ) (branch : Branch) → CoversConstants Q S → IsScopedBranch S n branch → Each (StepOnly Q) (steps_of branch)
only-branch_steps S n (tree.Absurd steps context u v) covers h = only-steps S (n + h.0.arguments) steps covers h.0.scoped
only-branch_steps S n (tree.Solved steps origins subtree) covers h = only-steps S (n + h.0.arguments) steps covers h.0.scoped

only-runs : {Q : ℕ → Type 0} (S : Signature) (n : ℕ) (branches : Branches) → CoversConstants Q S → AreScopedBranches S n branches → Each (Each (StepOnly Q)) (runs_of branches)
only-runs S n tree.nil covers h = Each.none
only-runs S n (tree.cons branch branches) covers h = Each.more (only-branch_steps S n branch covers h.0) (only-runs S n branches covers h.1)

-- ---- nodes after runs

only-member_there : {Q : ℕ → Type 0} (S : Signature) (t : Term) → FamiliesOnly Q S → HasOnly Q t → OptionOnly (MemberOnly Q) (member_of S t)
only-member_there {Q} S t families h = by (member_of S t) (only-member S t families h)
  where
    by : (o : Option Member) → IfSome o (MemberOnly Q) → OptionOnly (MemberOnly Q) o
    by None k = tt
    by (Some m) k = k

only-node_behind : {Q : ℕ → Type 0} (S : Signature) (node : Node) (m : Member) (x number : ℕ) (steps : List Step) → FamiliesOnly Q S → NodeOnly Q node → MemberOnly Q m
    → Each (StepOnly Q) steps → NodeOnly Q (node_behind S node m x number steps (slice_get m.family.constructors number))
only-node_behind {Q} S node m x number steps families hn hm hs = by (slice_get m.family.constructors number) refl
  where
    by : (o : Option Constructor) → slice_get m.family.constructors number ≡ o → NodeOnly Q (node_behind S node m x number steps o)
    by None e = hn
    by (Some c) e =
        let is =
        only-behind_run S steps (branch_standing node m x number c) families
        (only-branch_standing node m x number c hn hm (only-constructor m.family.constructors number c e hm.family.constructors)) hs in
        record { context = is.state.context; goal = is.goal }

only-next_node : {Q : ℕ → Type 0} (S : Signature) (node : Node) (x number : ℕ) (steps : List Step) (o : Option Member) → FamiliesOnly Q S → NodeOnly Q node
    → OptionOnly (MemberOnly Q) o → Each (StepOnly Q) steps → NodeOnly Q (next_node S node x number steps o)
only-next_node S node x number steps None families hn hm hs = hn
only-next_node S node x number steps (Some m) families hn hm hs = only-node_behind S node m x number steps families hn hm hs

-- ---- trees

-- The conditions on a translation. R is a property of the constants of the signature.
pub record TreeOnly (Q R : ℕ → Type 0) (w : Translation) : Type 0 where
  pub families : FamiliesOnly Q w.signature
  pub covers : CoversConstants Q w.signature
  pub entries : CoversConstants R w.signature
  pub leaves : (n : ℕ) (hidden : List ℕ) (clause : ℕ) (substitution terms binds : List Term) → Each (HasOnly R) substitution → Each (HasOnly R) terms → Each (HasOnly R) binds
      → HasOnly Q (leaf_term w.number w.plan w.recursions w.part w.order n hidden clause substitution terms binds)

mutual
  pub only-tree_term : {Q R : ℕ → Type 0} (w : Translation) (t : Tree) (node : Node) → TreeOnly Q R w → IsScopedTree w.signature t
      → NumbersHave Q w.number (tree_names w.signature w.part.level t node) → NodeOnly Q node → HasOnly Q (tree_term w t node)
  only-tree_term w (tree.Leaf clause context goal substitution terms binds) node h scoped named hn =
      h.leaves (length node.context) node.hidden clause substitution terms binds
      (only-all_scoped w.signature (length context) substitution h.entries scoped.substitution)
      (only-all_scoped w.signature (length context) terms h.entries scoped.terms)
      (only-all_scoped w.signature (length context) binds h.entries scoped.binds)
  only-tree_term w (tree.Split context x n type branches) node h scoped named hn =
      let S = w.signature in
      let y = variable_in node x in
      let reduced = type_in node type in
      let ht = only-placed _ _ type (only-scoped S (length context) type h.covers scoped.2) in
      only-split_node S w.number w.part.level node y reduced (runs_of branches) (branch_ends w branches node y (member_of S reduced) 0) h.families
      (each-left (split_names S w.part.level node y reduced (runs_of branches)) _ named) hn ht (only-runs S (length context) branches h.covers scoped.3)
      (only-branch_ends w branches node y (member_of S reduced) 0 (length context) h scoped.3
      (each-right (split_names S w.part.level node y reduced (runs_of branches)) _ named) hn (only-member_there S reduced h.families ht))

  only-branch_ends : {Q R : ℕ → Type 0} (w : Translation) (branches : Branches) (node : Node) (x : ℕ) (o : Option Member) (number n : ℕ) → TreeOnly Q R w
      → AreScopedBranches w.signature n branches → NumbersHave Q w.number (branches_names w.signature w.part.level branches node x o number) → NodeOnly Q node
      → OptionOnly (MemberOnly Q) o → Each (HasOnly Q) (branch_ends w branches node x o number)
  only-branch_ends w tree.nil node x o number n h scoped named hn hm = Each.none
  only-branch_ends w (tree.cons branch branches) node x o number n h scoped named hn hm =
      each-append (branch_end w branch node x o number) (branch_ends w branches node x o (number + 1))
      (only-branch_end w branch node x o number n h scoped.0 (each-left (branch_names w.signature w.part.level branch node x o number) _ named) hn hm)
      (only-branch_ends w branches node x o (number + 1) n h scoped.1 (each-right (branch_names w.signature w.part.level branch node x o number) _ named) hn hm)

  only-branch_end : {Q R : ℕ → Type 0} (w : Translation) (branch : Branch) (node : Node) (x : ℕ) (o : Option Member) (number n : ℕ) → TreeOnly Q R w
      → IsScopedBranch w.signature n branch → NumbersHave Q w.number (branch_names w.signature w.part.level branch node x o number) → NodeOnly Q node
      → OptionOnly (MemberOnly Q) o → Each (HasOnly Q) (branch_end w branch node x o number)
  only-branch_end w (tree.Absurd steps context u v) node x o number n h scoped named hn hm = Each.none
  only-branch_end w (tree.Solved steps origins subtree) node x o number n h scoped named hn hm =
      let S = w.signature in
      Each.more
      (only-tree_term w subtree (next_node S node x number steps o) h scoped.1 named
      (only-next_node S node x number steps o h.families hn hm (only-steps S (n + scoped.0.arguments) steps h.covers scoped.0.scoped)))
      Each.none
