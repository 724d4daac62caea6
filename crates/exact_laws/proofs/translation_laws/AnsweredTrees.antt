-- The term of a case tree is made, unless it is too high, where those of its leaves are.
use Rattle.std.proofs.Common.{◌≡◌, ℕ, suc, ◌+◌, ◌≤◌, true, false, cond, Option, Some, List, [], ◌∷◌, ◌++◌, length, slice_get, Result, Ok, refl, sym, ap, ◌∙◌, subst as transport, append_assoc, arith}
use Rattle.theory.specs.Terms.{Term, height}
use Rattle.theory.specs.Families.{Constructor}
use Rattle.theory.specs.Signatures.{Signature}
use Rattle.core_terms.specs.Answers.{and_then}
use Rattle.core_terms.specs.CaseTrees as tree
use Rattle.core_terms.specs.CaseTrees.{Branches, Step, Tree}
use Rattle.core_terms.specs.declared.stop.Stop.{Stop}
use Rattle.tele_eq.proofs.Growing.{append-none}
use Rattle.unification.specs.Outcomes.{Absurd, Solved}
use Rattle.unification.specs.ScopedStates.{IsReady}
use Rattle.problems.specs.Conditions.{AreLow}
use Rattle.case_trees.specs.Points.{Point}
use Rattle.case_trees.specs.Problems.{Member, problem_of}
use Rattle.case_trees.specs.Scoped.{AreScopedBranches, IsScopedTree}
use Rattle.case_trees.specs.Standing.{BranchesAt, EachLeaf, EachLeafOf, HasFamily, Runs, StandsAt, behind_solution}
use Rattle.tree_translation.specs.Conditions.{IsEnd}
use Rattle.tree_translation.specs.Naming.{case_name}
use Rattle.tree_translation.specs.Replays.{behind_run}
use Rattle.tree_translation.specs.Splits.{Node, behind_first, branch_standing, is_absurd, on_member, split_member, split_method, split_methods, split_node}
use Rattle.tree_translation.specs.Standings.{Standing, problem_state}
use Rattle.tree_translation.specs.TreeTerms.{Translation, branch_ends, next_node, node_behind, node_of, runs_of, tree_term, type_in, variable_in}
use Rattle.run_terms.specs.CodeRuns.{after_run}
use Rattle.entry_laws.proofs.replay_laws.AnsweredRuns.{replay-answers}
use Rattle.entry_laws.proofs.replay_laws.SeenMembers.{member-count}
use Rattle.entry_laws.proofs.replay_laws.TreeNodes.{IsNodeOver, absurd-ends, branch-below, node-after, problem-reached, solved-goes, split-runs}
use Rattle.exact_laws.specs.run_laws.Laws.{IsRun}
use Rattle.exact_laws.specs.run_laws.SplitLaws.{IsRunSplit}
use Rattle.exact_laws.proofs.run_laws.AnsweredSplits.{IsSplitOver, LowMethod, branch-run, branch-there, method-low, split-answers, split-low, type-low, whole-member, whole_of}
use Rattle.exact_laws.proofs.run_laws.RunEnds.{end-low}
use Rattle.function_entries.specs.CodeTrees.{ends_made, next_made, node_after, split_at, tree_made}
use Rattle.exact_laws.specs.translation_laws.Laws.{LeafMade, TreeAnswers}

-- ---- the parts of a split

-- a split of a tree, at its node
pub split-over : (S : Signature) (p : Point) (node : Node) (x : ℕ) (type : Term) (m : Member) → IsReady S → HasFamily S p.context x type m
    → (branches : Branches) → IsScopedTree S (tree.Split p.context x m.n type branches) → IsNodeOver node p.context
    → IsSplitOver S node (variable_in node x) (type_in node type) p.context x type m
split-over S p node x type m ready family branches scoped over = record {
  ready = ready;
  is_seen = over.is_seen;
  hidden = over.hidden;
  inside = family.variable;
  variable = refl;
  type_seen = refl;
  is_member = family.member;
  context_scoped = scoped.0;
  reduced_scoped = scoped.2;
}

pub run-split : (S : Signature) (p : Point) (node : Node) (x : ℕ) (type : Term) (m : Member) → IsReady S → HasFamily S p.context x type m
    → (branches : Branches) → BranchesAt S p x m 0 m.family.constructors branches → IsScopedTree S (tree.Split p.context x m.n type branches)
    → IsNodeOver node p.context → IsRunSplit S node (variable_in node x) (type_in node type) (runs_of branches)
run-split S p node x type m ready family branches at scoped over = record {
  ready = ready;
  hidden = over.hidden;
  split = record {
    seen = p.context;
    y = x;
    reduced = type;
    member = m;
    is_seen = over.is_seen;
    inside = family.variable;
    variable = refl;
    type_seen = refl;
    is_member = family.member;
    are_runs = split-runs S p x m 0 m.family.constructors branches at;
    context_scoped = scoped.0;
    reduced_scoped = scoped.2;
  };
}

-- A split with its constructors from a number on, whose methods are low: what its branches ask for.
pub record AreFrom (w : Translation) (p : Point) (node : Node) (x : ℕ) (type : Term) (m : Member) (number : ℕ) (cs : List Constructor) : Type 0 where
  pub over : IsSplitOver w.signature node (variable_in node x) (type_in node type) p.context x type m
  pub few : length m.family.indices + 1 ≤ 1000
  pub stand : (i : ℕ) (c : Constructor) → slice_get cs i ≡ Some c → slice_get m.family.constructors (number + i) ≡ Some c

pub from-first : (w : Translation) (p : Point) (node : Node) (x : ℕ) (type : Term) (m : Member) (number : ℕ) (c : Constructor) (cs : List Constructor)
    → AreFrom w p node x type m number (c ∷ cs) → slice_get m.family.constructors number ≡ Some c
from-first w p node x type m number c cs from =
    let e : number + 0 ≡ number = omega arith in transport (λ i. slice_get m.family.constructors i ≡ Some c) e (from.stand 0 c refl)

pub from-next : (w : Translation) (p : Point) (node : Node) (x : ℕ) (type : Term) (m : Member) (number : ℕ) (c : Constructor) (cs : List Constructor)
    → AreFrom w p node x type m number (c ∷ cs) → AreFrom w p node x type m (number + 1) cs
from-next w p node x type m number c cs from = record {
  over = from.over;
  few = from.few;
  stand = λ i c e.
      (let f : number + suc i ≡ number + 1 + i = omega arith in transport (λ j. slice_get m.family.constructors j ≡ Some c) f (from.stand (suc i) c e));
}

-- ---- a solved branch

-- the terms of the ends from a constructor on
abbrev pub ends_from : Translation → Branches → Node → (x : ℕ) → Member → (number : ℕ) → List Term
ends_from w branches node x m number = branch_ends w branches node (variable_in node x) (Some (whole_of node m)) number

-- the methods from a constructor on
abbrev pub methods_from : Translation → Branches → Node → (x : ℕ) → Member → (number : ℕ) → List Constructor → List Term
methods_from w branches node x m number cs =
    split_methods w.signature w.number w.part.level node (whole_of node m) (variable_in node x) number cs (runs_of branches)
    (ends_from w branches node x m number)

-- the node after the run
abbrev pub node_from : Translation → Node → (x : ℕ) → Member → (number : ℕ) → List Step → Node
node_from w node x m number steps = next_node w.signature node (variable_in node x) number steps (Some (whole_of node m))

pub record IsSolvedBranch (w : Translation) (node : Node) (x : ℕ) (m : Member) (number : ℕ) (steps : List Step) (context : List Term) (end : Term) : Type 0 where
  pub made : next_made w.signature node (variable_in node x) number steps (Some (whole_of node m)) ≡ Ok (node_from w node x m number steps)
  pub over : IsNodeOver (node_from w node x m number steps) context
  pub low : height end ≤ 2000

pub solved-branch : (w : Translation) (p : Point) (node : Node) (x : ℕ) (type : Term) (m : Member) (number : ℕ) (c : Constructor) (cs : List Constructor)
    (steps : List Step) (context solution : List Term) (end : Term) → AreFrom w p node x type m number (c ∷ cs)
    → Runs w.signature (problem_of p.context x m number c) (Solved steps context solution)
    → height (split_method w.signature w.number w.part.level node (whole_of node m) (variable_in node x) number c steps end) ≤ 2000
    → is_absurd steps ≡ false → IsSolvedBranch w node x m number steps context end
solved-branch w p node x type m number c cs steps context solution end from runs low goes = record {
  made = made;
  over = transport (λ next. IsNodeOver next context) (sym same)
      (node-after S (problem_of p.context x m number c) steps context solution s run.ready run.scoped run.runs run.widens
      (branch-below node (whole_of node m) (variable_in node x) number c from.over.hidden));
  low = end-low S (problem_of p.context x m number c) steps context solution s w.number w.part.level end run goes parts.inner;
}
  where
    S : Signature
    S = w.signature

    s : Standing
    s = branch_standing node (whole_of node m) (variable_in node x) number c

    there : slice_get m.family.constructors number ≡ Some c
    there = from-first w p node x type m number c cs from

    run : IsRun w.signature (problem_of p.context x m number c) (Solved steps context solution)
        (branch_standing node (whole_of node m) (variable_in node x) number c)
    run = branch-run S node (variable_in node x) (type_in node type) p.context x type m from.over number c (Solved steps context solution) there runs

    parts : LowMethod w.signature w.number w.part.level node (whole_of node m) (variable_in node x) number c steps end
    parts =
        method-low S w.number w.part.level node (whole_of node m) (variable_in node x) number c steps end
        (branch-there S node (variable_in node x) (type_in node type) p.context x type m from.over from.few number c steps (Solved steps context solution) there runs
        (IsEnd.solved context solution)).even low

    same : node_from w node x m number steps
        ≡ node_of (behind_run w.signature steps (branch_standing node (whole_of node m) (variable_in node x) number c))
    same = ap (node_behind S node (whole_of node m) (variable_in node x) number steps) there

    made : next_made w.signature node (variable_in node x) number steps (Some (whole_of node m)) ≡ Ok (node_from w node x m number steps)
    made =
        ap (node_after S node (whole_of node m) (variable_in node x) number steps) there
        ∙ (ap (λ (r : Result Standing Stop). and_then r (λ s. and_then (after_run S steps s) (λ end. Ok (node_of end)))) parts.standing
        ∙ (ap (λ (r : Result Standing Stop). and_then r (λ end. Ok (node_of end)))
        (replay-answers S (problem_of p.context x m number c) (Solved steps context solution) s run.ready run.scoped run.runs run.widens)
        ∙ ap (λ next. Ok next) (sym same)))

-- whether a run solves its problem
pub run-goes : (w : Translation) (p : Point) (node : Node) (x : ℕ) (type : Term) (m : Member) (number : ℕ) (c : Constructor) (cs : List Constructor)
    (steps : List Step) (context solution : List Term) → AreFrom w p node x type m number (c ∷ cs)
    → Runs w.signature (problem_of p.context x m number c) (Solved steps context solution) → is_absurd steps ≡ false
run-goes w p node x type m number c cs steps context solution from runs =
    let run =
    branch-run w.signature node (variable_in node x) (type_in node type) p.context x type m from.over number c (Solved steps context solution)
    (from-first w p node x type m number c cs from) runs in
    solved-goes w.signature (problem_state (problem_of p.context x m number c)) steps context solution
    (problem-reached w.signature (problem_of p.context x m number c) runs.units (Solved steps context solution) run.ready run.scoped runs.run)

pub run-ends : (w : Translation) (p : Point) (node : Node) (x : ℕ) (type : Term) (m : Member) (number : ℕ) (c : Constructor) (cs : List Constructor)
    (steps : List Step) (context : List Term) (u v : Term) → AreFrom w p node x type m number (c ∷ cs)
    → Runs w.signature (problem_of p.context x m number c) (Absurd steps context u v) → is_absurd steps ≡ true
run-ends w p node x type m number c cs steps context u v from runs =
    let run =
    branch-run w.signature node (variable_in node x) (type_in node type) p.context x type m from.over number c (Absurd steps context u v)
    (from-first w p node x type m number c cs from) runs in
    absurd-ends w.signature (problem_state (problem_of p.context x m number c)) steps context u v
    (problem-reached w.signature (problem_of p.context x m number c) runs.units (Absurd steps context u v) run.ready run.scoped runs.run)

-- the methods of the further constructors, where their ends are such terms
pub low-after : (w : Translation) (node : Node) (x : ℕ) (m : Member) (number : ℕ) (cs : List Constructor) (runs : List (List Step)) (ends others : List Term)
    → ends ≡ others → AreLow (split_methods w.signature w.number w.part.level node (whole_of node m) (variable_in node x) number cs runs ends)
    → AreLow (split_methods w.signature w.number w.part.level node (whole_of node m) (variable_in node x) number cs runs others)
low-after w node x m number cs runs ends others e low =
    transport (λ ends. AreLow (split_methods w.signature w.number w.part.level node (whole_of node m) (variable_in node x) number cs runs ends)) e low

-- ---- trees

-- a translation over another signature
abbrev pub at_signature : Signature → Translation → Translation
at_signature S v = record v { signature = S }

mutual
  tree-there : (S : Signature) (v : Translation) (p : Point) (t : Tree) (node : Node) → IsReady S → StandsAt S p t → IsScopedTree S t
      → IsNodeOver node p.context → EachLeaf (LeafMade (at_signature S v)) t → height (tree_term (at_signature S v) t node) ≤ 2000 → tree_made (at_signature S v) t node ≡ Ok (tree_term (at_signature S v) t node)
  tree-there S v p _ node ready (StandsAt.leaf _ number terms binds converts) scoped over leaves low = leaves (length node.context) node.hidden low
  tree-there S v p _ node ready (StandsAt.split _ x type m branches family at) scoped over leaves low =
      let w = at_signature S v in
      let y = variable_in node x in
      let A = type_in node type in
      let m' = whole_of node m in
      let is = split-over S p node x type m ready family branches scoped over in
      let here = whole-member S node y A p.context x type m is in
      let ends : Option Member → List Term = λ o. branch_ends w branches node y o 0 in
      let low' : height (split_node S w.number w.part.level node y A (runs_of branches) (ends (Some m'))) ≤ 2000 =
      transport (λ o. height (split_node S w.number w.part.level node y A (runs_of branches) (ends o)) ≤ 2000) here low in
      let whole : height (split_member S w.number w.part.level node m' y (runs_of branches) (ends (Some m'))) ≤ 2000 =
      transport (λ o. height (on_member o (λ m. split_member S w.number w.part.level node m y (runs_of branches) (ends (Some m')))) ≤ 2000) here low' in
      let parts =
      split-low node m' y (w.number (case_name m'.family w.part.level)) (methods_from w branches node x m 0 m.family.constructors)
      (member-count S A m' here) whole in
      let from : AreFrom w p node x type m 0 m.family.constructors = record {
        over = is;
        few = parts.few;
        stand = λ i c e. (let f : i ≡ 0 + i = omega arith in transport (λ j. slice_get m.family.constructors j ≡ Some c) f e);
      } in
      ap (λ (r : Result (Option Member) Stop). and_then r (λ o. and_then (ends_made w branches node y o 0 []) (split_at w node y A branches)))
      (type-low S w.number w.part.level node m' y A (runs_of branches) (ends (Some m')) here whole)
      ∙ (ap (λ (r : Result (List Term) Stop). and_then r (split_at w node y A branches))
      (ends-there S v p node x type m 0 m.family.constructors branches from ready at scoped.3 leaves [] parts.methods_low)
      ∙ (split-answers S w.number w.part.level node y A (runs_of branches) (ends (Some m')) (run-split S p node x type m ready family branches at scoped over) low'
      ∙ ap (λ o. Ok (split_node S w.number w.part.level node y A (runs_of branches) (ends o))) (sym here)))

  ends-there : (S : Signature) (v : Translation) (p : Point) (node : Node) (x : ℕ) (type : Term) (m : Member) (number : ℕ) (cs : List Constructor) (branches : Branches)
      → AreFrom (at_signature S v) p node x type m number cs → IsReady S → BranchesAt S p x m number cs branches
      → AreScopedBranches S (length p.context) branches → EachLeafOf (LeafMade (at_signature S v)) branches → (made : List Term)
      → AreLow (methods_from (at_signature S v) branches node x m number cs)
      → ends_made (at_signature S v) branches node (variable_in node x) (Some (whole_of node m)) number made ≡ Ok (made ++ ends_from (at_signature S v) branches node x m number)
  ends-there S v p node x type m number _ _ from ready (BranchesAt.none _ _ _ _) scoped leaves made low = ap (λ all. Ok all) (sym (append-none made))
  ends-there S v p node x type m number _ _ from ready (BranchesAt.absurd _ _ _ _ c cs steps context l r branches runs rest) scoped leaves made low =
      let w = at_signature S v in
      ends-there S v p node x type m (number + 1) cs branches (from-next w p node x type m number c cs from) ready rest scoped.1 leaves.1 made
      (low-after w node x m (number + 1) cs (runs_of branches)
      (cond (is_absurd steps) (ends_from w branches node x m (number + 1)) (behind_first (ends_from w branches node x m (number + 1))))
      (ends_from w branches node x m (number + 1))
      (ap (λ b. cond b (ends_from w branches node x m (number + 1)) (behind_first (ends_from w branches node x m (number + 1))))
      (run-ends w p node x type m number c cs steps context l r from runs))
      low.1)
  ends-there S v p node x type m number _ _ from ready (BranchesAt.solved _ _ _ _ c cs steps context solution subtree branches runs stands rest) scoped leaves made low =
      let w = at_signature S v in
      let next = node_from w node x m number steps in
      let end = tree_term w subtree next in
      let others = ends_from w branches node x m (number + 1) in
      let goes = run-goes w p node x type m number c cs steps context solution from runs in
      let solved = solved-branch w p node x type m number c cs steps context solution end from runs low.0 goes in
      ap (λ (r : Result Node Stop). and_then (and_then r (λ next. and_then (tree_made w subtree next) (λ t. Ok (made ++ t ∷ []))))
      (λ all. ends_made w branches node (variable_in node x) (Some (whole_of node m)) (number + 1) all)) solved.made
      ∙ (ap (λ (r : Result Term Stop). and_then (and_then r (λ t. Ok (made ++ t ∷ [])))
      (λ all. ends_made w branches node (variable_in node x) (Some (whole_of node m)) (number + 1) all))
      (tree-there S v (behind_solution p context solution) subtree next ready stands scoped.0.1 solved.over leaves.0 solved.low)
      ∙ (ends-there S v p node x type m (number + 1) cs branches (from-next w p node x type m number c cs from) ready rest scoped.1 leaves.1 (made ++ end ∷ [])
      (low-after w node x m (number + 1) cs (runs_of branches) (cond (is_absurd steps) (end ∷ others) others) others
      (ap (λ b. cond b (end ∷ others) others) goes) low.1)
      ∙ ap (λ all. Ok all) (append_assoc made (end ∷ []) others)))

pub tree-answers : TreeAnswers
tree-answers w p t node is leaves low =
    tree-there w.signature w p t node is.ready is.stands is.scoped (record { is_seen = is.is_seen; hidden = is.hidden }) leaves low
