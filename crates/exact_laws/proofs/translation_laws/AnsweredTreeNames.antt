-- The names of a case tree are made where its term is not too high.
use Rattle.std.proofs.Common.{◌≡◌, ℕ, ◌+◌, ◌≤◌, cond, Option, Some, List, ◌∷◌, ◌++◌, length, slice_get, Result, Ok, sym, ap, ◌∙◌, subst as transport, append_assoc, arith}
use Rattle.theory.specs.Terms.{Term, height}
use Rattle.theory.specs.Families.{Constructor}
use Rattle.theory.specs.Signatures.{Signature}
use Rattle.core_terms.specs.Answers.{and_then}
use Rattle.core_terms.specs.CaseTrees.{Branches, Tree}
use Rattle.core_terms.specs.declared.stop.Stop.{Stop}
use Rattle.tele_eq.proofs.Growing.{append-none}
use Rattle.unification.specs.ScopedStates.{IsReady}
use Rattle.problems.specs.Conditions.{AreLow}
use Rattle.case_trees.specs.Points.{Point}
use Rattle.case_trees.specs.Problems.{Member}
use Rattle.case_trees.specs.Scoped.{AreScopedBranches, IsScopedTree}
use Rattle.case_trees.specs.Standing.{BranchesAt, StandsAt, behind_solution}
use Rattle.tree_translation.specs.Naming.{case_name}
use Rattle.tree_translation.specs.Splits.{Node, behind_first, is_absurd, on_member, split_member, split_names, split_node}
use Rattle.tree_translation.specs.TreeTerms.{Translation, branch_ends, branches_names, runs_of, tree_names, tree_term, type_in, variable_in}
use Rattle.entry_laws.proofs.replay_laws.SeenMembers.{member-count}
use Rattle.entry_laws.proofs.replay_laws.TreeNodes.{IsNodeOver}
use Rattle.exact_laws.proofs.run_laws.AnsweredSplits.{split-low, split_names-answer, type-low, whole-member, whole_of}
use Rattle.function_entries.specs.CodeTrees.{branches_names_made, names_at_split, tree_names_made}
use Rattle.exact_laws.specs.translation_laws.Laws.{TreeNamesAnswer}
use Rattle.exact_laws.proofs.translation_laws.AnsweredTrees.{AreFrom, at_signature, ends_from, from-next, low-after, methods_from, node_from, run-ends, run-goes, run-split, solved-branch, split-over}

mutual
  names-there : (S : Signature) (v : Translation) (p : Point) (t : Tree) (node : Node) → IsReady S → StandsAt S p t → IsScopedTree S t
      → IsNodeOver node p.context → height (tree_term (at_signature S v) t node) ≤ 2000 → (names : List (List ℕ))
      → tree_names_made S v.part.level t node names ≡ Ok (names ++ tree_names S v.part.level t node)
  names-there S v p _ node ready (StandsAt.leaf _ number terms binds converts) scoped over low names = ap (λ all. Ok all) (sym (append-none names))
  names-there S v p _ node ready (StandsAt.split _ x type m branches family at) scoped over low names =
      let w = at_signature S v in
      let L = w.part.level in
      let y = variable_in node x in
      let A = type_in node type in
      let m' = whole_of node m in
      let is = split-over S p node x type m ready family branches scoped over in
      let here = whole-member S node y A p.context x type m is in
      let ends : Option Member → List Term = λ o. branch_ends w branches node y o 0 in
      let low' : height (split_node S w.number L node y A (runs_of branches) (ends (Some m'))) ≤ 2000 =
      transport (λ o. height (split_node S w.number L node y A (runs_of branches) (ends o)) ≤ 2000) here low in
      let whole : height (split_member S w.number L node m' y (runs_of branches) (ends (Some m'))) ≤ 2000 =
      transport (λ o. height (on_member o (λ m. split_member S w.number L node m y (runs_of branches) (ends (Some m')))) ≤ 2000) here low' in
      let parts =
      split-low node m' y (w.number (case_name m'.family L)) (methods_from w branches node x m 0 m.family.constructors) (member-count S A m' here) whole in
      let from : AreFrom w p node x type m 0 m.family.constructors = record {
        over = is;
        few = parts.few;
        stand = λ i c e. (let f : i ≡ 0 + i = omega arith in transport (λ j. slice_get m.family.constructors j ≡ Some c) f e);
      } in
      let own = split_names S L node y A (runs_of branches) in
      let inner : Option Member → List (List ℕ) = λ o. branches_names S L branches node y o 0 in
      ap (λ (r : Result (Option Member) Stop). and_then r (λ o. and_then (names_at_split S L node y A branches names) (branches_names_made S L branches node y o 0)))
      (type-low S w.number L node m' y A (runs_of branches) (ends (Some m')) here whole)
      ∙ (ap (λ (r : Result (List (List ℕ)) Stop). and_then r (branches_names_made S L branches node y (Some m') 0))
      (split_names-answer S w.number L node y A (runs_of branches) (ends (Some m')) names (run-split S p node x type m ready family branches at scoped over) low')
      ∙ (branches-there S v p node x type m 0 m.family.constructors branches from ready at scoped.3 (names ++ own) parts.methods_low
      ∙ ap (λ all. Ok all) (append_assoc names own (inner (Some m')) ∙ ap (λ o. names ++ (own ++ inner o)) (sym here))))

  branches-there : (S : Signature) (v : Translation) (p : Point) (node : Node) (x : ℕ) (type : Term) (m : Member) (number : ℕ) (cs : List Constructor) (branches : Branches)
      → AreFrom (at_signature S v) p node x type m number cs → IsReady S → BranchesAt S p x m number cs branches
      → AreScopedBranches S (length p.context) branches → (names : List (List ℕ)) → AreLow (methods_from (at_signature S v) branches node x m number cs)
      → branches_names_made S v.part.level branches node (variable_in node x) (Some (whole_of node m)) number names
      ≡ Ok (names ++ branches_names S v.part.level branches node (variable_in node x) (Some (whole_of node m)) number)
  branches-there S v p node x type m number _ _ from ready (BranchesAt.none _ _ _ _) scoped names low = ap (λ all. Ok all) (sym (append-none names))
  branches-there S v p node x type m number _ _ from ready (BranchesAt.absurd _ _ _ _ c cs steps context l r branches runs rest) scoped names low =
      let w = at_signature S v in
      branches-there S v p node x type m (number + 1) cs branches (from-next w p node x type m number c cs from) ready rest scoped.1 names
      (low-after w node x m (number + 1) cs (runs_of branches)
      (cond (is_absurd steps) (ends_from w branches node x m (number + 1)) (behind_first (ends_from w branches node x m (number + 1))))
      (ends_from w branches node x m (number + 1))
      (ap (λ b. cond b (ends_from w branches node x m (number + 1)) (behind_first (ends_from w branches node x m (number + 1))))
      (run-ends w p node x type m number c cs steps context l r from runs))
      low.1)
  branches-there S v p node x type m number _ _ from ready (BranchesAt.solved _ _ _ _ c cs steps context solution subtree branches runs stands rest) scoped names low =
      let w = at_signature S v in
      let L = w.part.level in
      let next = node_from w node x m number steps in
      let end = tree_term w subtree next in
      let others = ends_from w branches node x m (number + 1) in
      let own = tree_names S L subtree next in
      let goes = run-goes w p node x type m number c cs steps context solution from runs in
      let solved = solved-branch w p node x type m number c cs steps context solution end from runs low.0 goes in
      let further : List (List ℕ) → Result (List (List ℕ)) Stop = λ all. branches_names_made S L branches node (variable_in node x) (Some (whole_of node m)) (number + 1) all in
      ap (λ (r : Result Node Stop). and_then (and_then r (λ next. tree_names_made S L subtree next names)) further) solved.made
      ∙ (ap (λ (r : Result (List (List ℕ)) Stop). and_then r further)
      (names-there S v (behind_solution p context solution) subtree next ready stands scoped.0.1 solved.over solved.low names)
      ∙ (branches-there S v p node x type m (number + 1) cs branches (from-next w p node x type m number c cs from) ready rest scoped.1 (names ++ own)
      (low-after w node x m (number + 1) cs (runs_of branches) (cond (is_absurd steps) (end ∷ others) others) others
      (ap (λ b. cond b (end ∷ others) others) goes) low.1)
      ∙ ap (λ all. Ok all)
      (append_assoc names own (branches_names S L branches node (variable_in node x) (Some (whole_of node m)) (number + 1)))))

pub tree_names-answer : TreeNamesAnswer
tree_names-answer w p t node names is low =
    names-there w.signature w p t node is.ready is.stands is.scoped (record { is_seen = is.is_seen; hidden = is.hidden }) low names
