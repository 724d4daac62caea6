-- The names of a tree are made at a node where the tree's term is not too high at another node, whose context differs in its constants alone.
use Rattle.std.proofs.Common.{◌≡◌, ℕ, suc, ◌+◌, ◌≤◌, nat_le, ◌&&◌, Bool, true, false, cond, Option, Some, List, [], ◌∷◌, ◌++◌, length, slice_get, Result, Ok, Err, refl, sym, ap, ap₂, ◌∙◌, subst as transport, append_assoc, arith}
use Rattle.theory.specs.Terms.{Term, Var, height}
use Rattle.theory.specs.Telescopes.{Telescope}
use Rattle.theory.specs.Families.{Constructor}
use Rattle.theory.specs.Signatures.{Signature}
use Rattle.core_terms.specs.Answers.{and_then, are_low}
use Rattle.core_terms.specs.CaseTrees.{Branches, Step, Tree}
use Rattle.core_terms.specs.declared.stop.Stop.{Stop}
use Rattle.core_terms.specs.declared.stop.Stop.TheVariants.{Deep}
use Rattle.tele_eq.specs.TelescopicEquality.{equations}
use Rattle.tele_eq.proofs.Growing.{append-none}
use Rattle.unification.specs.Heights.{are_low_items}
use Rattle.unification.specs.Injecting.{lifted}
use Rattle.unification.specs.Outcomes.{Outcome, Solved}
use Rattle.unification.specs.Records.{constructor_terms, family_items}
use Rattle.unification.specs.ScopedStates.{IsReady}
use Rattle.unification.specs.States.{starting}
use Rattle.problems.specs.Conditions.{AreLow}
use Rattle.case_trees.specs.Points.{Point}
use Rattle.case_trees.specs.Problems.{Member, problem_of}
use Rattle.case_trees.specs.Scoped.{AreScopedBranches, IsScopedTree}
use Rattle.case_trees.specs.Standing.{BranchesAt, Runs, StandsAt, behind_solution}
use Rattle.tree_translation.specs.Conditions.{AreRuns, IsEnd}
use Rattle.tree_translation.specs.Conditions.AreRuns.{none, more}
use Rattle.tree_translation.specs.Hidden.{widened, widened_number}
use Rattle.tree_translation.specs.Naming.{Naming, case_name}
use Rattle.tree_translation.specs.Replays.{behind_run}
use Rattle.tree_translation.specs.RunTerms.{run_names}
use Rattle.tree_translation.specs.Splits.{Node, behind_first, branch_standing, first_of, is_absurd, on_member, split_member, split_method, split_methods, split_names, split_node}
use Rattle.tree_translation.specs.Standings.{Standing}
use Rattle.tree_translation.specs.TreeTerms.{Translation, branch_ends, branches_names, next_node, node_behind, node_of, runs_of, tree_names, tree_term, type_in, variable_in}
use Rattle.tree_translation.proofs.SeenTerms.{widening}
use Rattle.run_terms.specs.CodeRuns.{after_run}
use Rattle.split_terms.specs.CodeRunTerms.{run_names_made}
use Rattle.split_terms.specs.CodeSplits as code
use Rattle.split_terms.specs.CodeSplits.{member_made, member_names_made, methods_names_made, split_names_made, standing_made, standing_with}
use Rattle.entry_laws.proofs.replay_laws.AnsweredRuns.{replay-answers}
use Rattle.entry_laws.proofs.replay_laws.SeenMembers.{member-count, member_under}
use Rattle.entry_laws.proofs.replay_laws.TreeNodes.{IsNodeOver, branch-below, node-after, split-runs}
use Rattle.exact_laws.specs.run_laws.Laws.{IsRun}
use Rattle.exact_laws.proofs.run_laws.AnsweredNames.{run_names-answer}
use Rattle.exact_laws.proofs.run_laws.AnsweredSplits.{IsSplitOver, branch-run, branch-there, method-low, split-low, type-low, whole-member, whole_of}
use Rattle.exact_laws.proofs.run_laws.MadeSplits.{split_names-are_these}
use Rattle.function_entries.specs.CodeTrees.{branches_names_made, names_at_split, next_made, node_after, tree_names_made}
use Rattle.entry_laws.proofs.SameNames.{IsLikeNode, like-long, next-like as next-alike}
use Rattle.exact_laws.proofs.translation_laws.AnsweredTrees.{AreFrom, at_signature, ends_from, from-first, from-next, low-after, methods_from, node_from, run-ends, run-goes, solved-branch, split-over}

-- ---- the common parts of such nodes

whole-same : (a b : Node) (m : Member) → IsLikeNode a b → whole_of b m ≡ whole_of a m
whole-same a b m h =
    ap₂ (λ n hidden. member_under (widening n hidden) m) (sym (like-long a.context b.context h.context)) (sym h.hidden)

variable-same : (a b : Node) (x : ℕ) → IsLikeNode a b → variable_in b x ≡ variable_in a x
variable-same a b x h = ap₂ (λ n hidden. widened_number n hidden x) (sym (like-long a.context b.context h.context)) (sym h.hidden)

type-same : (a b : Node) (type : Term) → IsLikeNode a b → type_in b type ≡ type_in a type
type-same a b type h = ap₂ (λ n hidden. widened n hidden type) (sym (like-long a.context b.context h.context)) (sym h.hidden)

member-alike : (S : Signature) (a b : Node) (type : Term) (m : Member) → IsLikeNode a b → member_made S (type_in b type) ≡ Ok (Some (whole_of b m))
    → member_made S (type_in a type) ≡ Ok (Some (whole_of a m))
member-alike S a b type m h e =
    ap (member_made S) (sym (type-same a b type h)) ∙ (e ∙ ap (λ n. Ok (Some n)) (whole-same a b m h))

-- the standing of a branch is made by a test that reads nothing of the node's context
standing-at : (a b : Node) (m : Member) (x number : ℕ) (c : Constructor) → standing_made b m x number c ≡ Ok (branch_standing b m x number c)
    → standing_made a m x number c ≡ Ok (branch_standing a m x number c)
standing-at a b m x number c e =
    let count = length c.arguments in
    let X = family_items m.n m.family (lifted count m.parameters) in
    let us = constructor_terms m.n number m.parameters c in
    let vs = lifted count m.indices ++ Var (x + count) ∷ [] in
    by (nat_le (length X) 1000 && (are_low_items X && (are_low us && are_low vs))) (equations X us vs) e
  where
    by : (test : Bool) (types : Telescope)
        → and_then (and_then (cond {A = Result Telescope Stop} test (Ok types) (Err Deep)) (λ types. Ok (starting (problem_of b.context x m number c) types)))
        (λ state. Ok (standing_with b (length c.arguments) state))
        ≡ Ok (standing_with b (length c.arguments) (starting (problem_of b.context x m number c) types))
        → and_then (and_then (cond {A = Result Telescope Stop} test (Ok types) (Err Deep)) (λ types. Ok (starting (problem_of a.context x m number c) types)))
        (λ state. Ok (standing_with a (length c.arguments) state))
        ≡ Ok (standing_with a (length c.arguments) (starting (problem_of a.context x m number c) types))
    by true types e = refl
    by false types e = absurd (cc)

standing-alike : (a b : Node) (m : Member) (x number : ℕ) (c : Constructor) → IsLikeNode a b
    → standing_made b (whole_of b m) (variable_in b x) number c ≡ Ok (branch_standing b (whole_of b m) (variable_in b x) number c)
    → standing_made a (whole_of a m) (variable_in a x) number c ≡ Ok (branch_standing a (whole_of a m) (variable_in a x) number c)
standing-alike a b m x number c h e =
    transport (λ n. standing_made a n (variable_in a x) number c ≡ Ok (branch_standing a n (variable_in a x) number c)) (whole-same a b m h)
    (transport (λ y. standing_made a (whole_of b m) y number c ≡ Ok (branch_standing a (whole_of b m) y number c)) (variable-same a b x h)
    (standing-at a b (whole_of b m) (variable_in b x) number c e))

-- ---- the names of a split

-- a split of a tree at two nodes
record AreSplits (S : Signature) (a b : Node) (seen : Telescope) (x : ℕ) (type : Term) (m : Member) : Type 0 where
  pub like : IsLikeNode a b
  pub one : IsSplitOver S a (variable_in a x) (type_in a type) seen x type m
  pub other : IsSplitOver S b (variable_in b x) (type_in b type) seen x type m
  pub few : length m.family.indices + 1 ≤ 1000

method-names : (S : Signature) (number : Naming) (L : ℕ) (a b : Node) (seen : Telescope) (x : ℕ) (type : Term) (m : Member) → AreSplits S a b seen x type m
    → (at : ℕ) (c : Constructor) (steps : List Step) (end : Term) (outcome : Outcome) (names : List (List ℕ)) → slice_get m.family.constructors at ≡ Some c
    → Runs S (problem_of seen x m at c) outcome → IsEnd steps outcome
    → height (split_method S number L b (whole_of b m) (variable_in b x) at c steps end) ≤ 2000
    → code.branch_names_made S L a (whole_of a m) (variable_in a x) at c steps names
    ≡ Ok (names ++ run_names S L steps (branch_standing a (whole_of a m) (variable_in a x) at c))
method-names S number L a b seen x type m are at c steps end outcome names there run ends low =
    let s = branch_standing a (whole_of a m) (variable_in a x) at c in
    let own = branch-there S a (variable_in a x) (type_in a type) seen x type m are.one are.few at c steps outcome there run ends in
    let other = branch-there S b (variable_in b x) (type_in b type) seen x type m are.other are.few at c steps outcome there run ends in
    let parts = method-low S number L b (whole_of b m) (variable_in b x) at c steps end other.even low in
    ap (λ (r : Result Standing Stop). and_then r (λ s. run_names_made S L steps s names)) (standing-alike a b m x at c are.like parts.standing)
    ∙ transport (λ steps. run_names_made S L steps s names ≡ Ok (names ++ run_names S L steps s)) own.steps_same
    (run_names-answer S own.problem own.outcome s L names own.run)

abbrev IsThere : Result (List (List ℕ)) Stop → Type 0
IsThere r = (all : List (List ℕ)) × (r ≡ Ok all)

methods-names : (S : Signature) (number : Naming) (L : ℕ) (a b : Node) (seen : Telescope) (x : ℕ) (type : Term) (m : Member) → AreSplits S a b seen x type m
    → (at : ℕ) (cs : List Constructor) (runs : List (List Step)) (ends : List Term) (names : List (List ℕ))
    → ((i : ℕ) (c : Constructor) → slice_get cs i ≡ Some c → slice_get m.family.constructors (at + i) ≡ Some c) → AreRuns S seen x m at cs runs
    → AreLow (split_methods S number L b (whole_of b m) (variable_in b x) at cs runs ends)
    → IsThere (methods_names_made S L a (whole_of a m) (variable_in a x) at cs runs names)
methods-names S number L a b seen x type m are at _ _ ends names stand none low = (names, refl)
methods-names S number L a b seen x type m are at (c ∷ cs) (steps ∷ runs) ends names stand (more outcome run end rest) low =
    let there : slice_get m.family.constructors at ≡ Some c =
    (let e : at + 0 ≡ at = omega arith in transport (λ i. slice_get m.family.constructors i ≡ Some c) e (stand 0 c refl)) in
    let first = method-names S number L a b seen x type m are at c steps (first_of ends) outcome names there run end low.0 in
    let others =
    methods-names S number L a b seen x type m are (at + 1) cs runs (cond (is_absurd steps) ends (behind_first ends))
    (names ++ run_names S L steps (branch_standing a (whole_of a m) (variable_in a x) at c))
    (λ i d e. (let f : at + suc i ≡ at + 1 + i = omega arith in transport (λ j. slice_get m.family.constructors j ≡ Some d) f (stand (suc i) d e))) rest low.1 in (
      others.0,
      ap (λ (r : Result (List (List ℕ)) Stop). and_then r (methods_names_made S L a (whole_of a m) (variable_in a x) (at + 1) cs runs)) first ∙ others.1,
    )

splits-names : (S : Signature) (number : Naming) (L : ℕ) (a b : Node) (seen : Telescope) (x : ℕ) (type : Term) (m : Member) → AreSplits S a b seen x type m
    → (runs : List (List Step)) (ends : List Term) (names : List (List ℕ)) → AreRuns S seen x m 0 m.family.constructors runs
    → member_made S (type_in a type) ≡ Ok (Some (whole_of a m))
    → AreLow (split_methods S number L b (whole_of b m) (variable_in b x) 0 m.family.constructors runs ends)
    → split_names_made S L a (variable_in a x) (type_in a type) runs names ≡ Ok (names ++ split_names S L a (variable_in a x) (type_in a type) runs)
splits-names S number L a b seen x type m are runs ends names run member low =
    let y = variable_in a x in
    let made =
    methods-names S number L a b seen x type m are 0 m.family.constructors runs ends (names ++ case_name m.family L ∷ [])
    (λ i c e. (let f : i ≡ 0 + i = omega arith in transport (λ j. slice_get m.family.constructors j ≡ Some c) f e)) run low in
    let whole = ap (λ (r : Result (Option Member) Stop). and_then r (member_names_made S L a y runs names)) member ∙ made.1 in
    whole ∙ ap (λ all. Ok all) (split_names-are_these S L a y (type_in a type) runs names made.0 whole)

-- ---- a solved branch

-- the node after the run
record IsSolvedAt (w : Translation) (a : Node) (x : ℕ) (m : Member) (number : ℕ) (steps : List Step) (context : Telescope) : Type 0 where
  pub made : next_made w.signature a (variable_in a x) number steps (Some (whole_of a m)) ≡ Ok (node_from w a x m number steps)
  pub over : IsNodeOver (node_from w a x m number steps) context

solved-at : (w : Translation) (p : Point) (a : Node) (x : ℕ) (type : Term) (m : Member) (number : ℕ) (c : Constructor) (cs : List Constructor)
    (steps : List Step) (context : Telescope) (solution : List Term) → AreFrom w p a x type m number (c ∷ cs)
    → Runs w.signature (problem_of p.context x m number c) (Solved steps context solution)
    → standing_made a (whole_of a m) (variable_in a x) number c ≡ Ok (branch_standing a (whole_of a m) (variable_in a x) number c)
    → IsSolvedAt w a x m number steps context
solved-at w p a x type m number c cs steps context solution from runs standing =
    let S = w.signature in
    let y = variable_in a x in
    let s = branch_standing a (whole_of a m) y number c in
    let there = from-first w p a x type m number c cs from in
    let run : IsRun S (problem_of p.context x m number c) (Solved steps context solution) s =
    branch-run S a y (type_in a type) p.context x type m from.over number c (Solved steps context solution) there runs in
    let same : node_from w a x m number steps ≡ node_of (behind_run S steps s) = ap (node_behind S a (whole_of a m) y number steps) there in
    record {
      made =
          ap (node_after S a (whole_of a m) y number steps) there
          ∙ (ap (λ (r : Result Standing Stop). and_then r (λ s. and_then (after_run S steps s) (λ end. Ok (node_of end)))) standing
          ∙ (ap (λ (r : Result Standing Stop). and_then r (λ end. Ok (node_of end)))
          (replay-answers S (problem_of p.context x m number c) (Solved steps context solution) s run.ready run.scoped run.runs run.widens)
          ∙ ap (λ next. Ok next) (sym same)));
      over =
          transport (λ next. IsNodeOver next context) (sym same)
          (node-after S (problem_of p.context x m number c) steps context solution s run.ready run.scoped run.runs run.widens
          (branch-below a (whole_of a m) y number c from.over.hidden));
    }

next-like : (w : Translation) (a b : Node) (x : ℕ) (m : Member) (number : ℕ) (steps : List Step) → IsLikeNode a b
    → IsLikeNode (node_from w a x m number steps) (node_from w b x m number steps)
next-like w a b x m number steps h =
    transport (λ n. IsLikeNode (next_node w.signature a (variable_in a x) number steps (Some n)) (node_from w b x m number steps)) (whole-same a b m h)
    (transport (λ y. IsLikeNode (next_node w.signature a y number steps (Some (whole_of b m))) (node_from w b x m number steps)) (variable-same a b x h)
    (next-alike w.signature a b (variable_in b x) number steps (Some (whole_of b m)) h))

-- the standing of a branch whose method is not too high at the other node
standing-low : (w : Translation) (p : Point) (a b : Node) (x : ℕ) (type : Term) (m : Member) (number : ℕ) (c : Constructor) (cs : List Constructor)
    (steps : List Step) (context : Telescope) (solution : List Term) (end : Term) → IsLikeNode a b → AreFrom w p b x type m number (c ∷ cs)
    → Runs w.signature (problem_of p.context x m number c) (Solved steps context solution)
    → height (split_method w.signature w.number w.part.level b (whole_of b m) (variable_in b x) number c steps end) ≤ 2000
    → standing_made a (whole_of a m) (variable_in a x) number c ≡ Ok (branch_standing a (whole_of a m) (variable_in a x) number c)
standing-low w p a b x type m number c cs steps context solution end h from runs low =
    let S = w.signature in
    let there = from-first w p b x type m number c cs from in
    let branch =
    branch-there S b (variable_in b x) (type_in b type) p.context x type m from.over from.few number c steps (Solved steps context solution) there runs
    (IsEnd.solved context solution) in
    let parts = method-low S w.number w.part.level b (whole_of b m) (variable_in b x) number c steps end branch.even low in
    standing-alike a b m x number c h parts.standing

-- ---- trees

mutual
  names-alike : (S : Signature) (v : Translation) (p : Point) (t : Tree) (a b : Node) → IsReady S → StandsAt S p t → IsScopedTree S t
      → IsNodeOver a p.context → IsNodeOver b p.context → IsLikeNode a b → height (tree_term (at_signature S v) t b) ≤ 2000 → (names : List (List ℕ))
      → tree_names_made S v.part.level t a names ≡ Ok (names ++ tree_names S v.part.level t a)
  names-alike S v p _ a b ready (StandsAt.leaf _ number terms binds converts) scoped over other like low names = ap (λ all. Ok all) (sym (append-none names))
  names-alike S v p _ a b ready (StandsAt.split _ x type m branches family at) scoped over other like low names =
      let w = at_signature S v in
      let L = w.part.level in
      let y = variable_in a x in
      let A = type_in a type in
      let z = variable_in b x in
      let B = type_in b type in
      let n = whole_of b m in
      let one = split-over S p a x type m ready family branches scoped over in
      let two = split-over S p b x type m ready family branches scoped other in
      let own = whole-member S a y A p.context x type m one in
      let here = whole-member S b z B p.context x type m two in
      let ends : Option Member → List Term = λ o. branch_ends w branches b z o 0 in
      let low' : height (split_node S w.number L b z B (runs_of branches) (ends (Some n))) ≤ 2000 =
      transport (λ o. height (split_node S w.number L b z B (runs_of branches) (ends o)) ≤ 2000) here low in
      let whole : height (split_member S w.number L b n z (runs_of branches) (ends (Some n))) ≤ 2000 =
      transport (λ o. height (on_member o (λ m. split_member S w.number L b m z (runs_of branches) (ends (Some n)))) ≤ 2000) here low' in
      let parts =
      split-low b n z (w.number (case_name n.family L)) (methods_from w branches b x m 0 m.family.constructors) (member-count S B n here) whole in
      let stand : (i : ℕ) (c : Constructor) → slice_get m.family.constructors i ≡ Some c → slice_get m.family.constructors (0 + i) ≡ Some c =
      λ i c e. (let f : i ≡ 0 + i = omega arith in transport (λ j. slice_get m.family.constructors j ≡ Some c) f e) in
      let first : AreFrom w p a x type m 0 m.family.constructors = record { over = one; few = parts.few; stand = stand } in
      let second : AreFrom w p b x type m 0 m.family.constructors = record { over = two; few = parts.few; stand = stand } in
      let are : AreSplits S a b p.context x type m = record { like = like; one = one; other = two; few = parts.few } in
      let member = member-alike S a b type m like (type-low S w.number L b n z B (runs_of branches) (ends (Some n)) here whole) in
      let mine = split_names S L a y A (runs_of branches) in
      let inner : Option Member → List (List ℕ) = λ o. branches_names S L branches a y o 0 in
      ap (λ (r : Result (Option Member) Stop). and_then r (λ o. and_then (names_at_split S L a y A branches names) (branches_names_made S L branches a y o 0)))
      member
      ∙ (ap (λ (r : Result (List (List ℕ)) Stop). and_then r (branches_names_made S L branches a y (Some (whole_of a m)) 0))
      (splits-names S w.number L a b p.context x type m are (runs_of branches) (ends (Some n)) names (split-runs S p x m 0 m.family.constructors branches at)
      member parts.methods_low)
      ∙ (branches-alike S v p a b x type m 0 m.family.constructors branches first second like ready at scoped.3 (names ++ mine) parts.methods_low
      ∙ ap (λ all. Ok all) (append_assoc names mine (inner (Some (whole_of a m))) ∙ ap (λ o. names ++ (mine ++ inner o)) (sym own))))

  branches-alike : (S : Signature) (v : Translation) (p : Point) (a b : Node) (x : ℕ) (type : Term) (m : Member) (number : ℕ) (cs : List Constructor)
      (branches : Branches) → AreFrom (at_signature S v) p a x type m number cs → AreFrom (at_signature S v) p b x type m number cs → IsLikeNode a b
      → IsReady S → BranchesAt S p x m number cs branches → AreScopedBranches S (length p.context) branches → (names : List (List ℕ))
      → AreLow (methods_from (at_signature S v) branches b x m number cs)
      → branches_names_made S v.part.level branches a (variable_in a x) (Some (whole_of a m)) number names
      ≡ Ok (names ++ branches_names S v.part.level branches a (variable_in a x) (Some (whole_of a m)) number)
  branches-alike S v p a b x type m number _ _ first second like ready (BranchesAt.none _ _ _ _) scoped names low =
      ap (λ all. Ok all) (sym (append-none names))
  branches-alike S v p a b x type m number _ _ first second like ready (BranchesAt.absurd _ _ _ _ c cs steps context l r branches runs rest) scoped names low =
      let w = at_signature S v in
      branches-alike S v p a b x type m (number + 1) cs branches (from-next w p a x type m number c cs first) (from-next w p b x type m number c cs second) like
      ready rest scoped.1 names
      (low-after w b x m (number + 1) cs (runs_of branches)
      (cond (is_absurd steps) (ends_from w branches b x m (number + 1)) (behind_first (ends_from w branches b x m (number + 1))))
      (ends_from w branches b x m (number + 1))
      (ap (λ test. cond test (ends_from w branches b x m (number + 1)) (behind_first (ends_from w branches b x m (number + 1))))
      (run-ends w p b x type m number c cs steps context l r second runs))
      low.1)
  branches-alike S v p a b x type m number _ _ first second like ready (BranchesAt.solved _ _ _ _ c cs steps context solution subtree branches runs stands rest)
      scoped names low =
      let w = at_signature S v in
      let L = w.part.level in
      let next = node_from w a x m number steps in
      let end = tree_term w subtree (node_from w b x m number steps) in
      let others = ends_from w branches b x m (number + 1) in
      let own = tree_names S L subtree next in
      let goes = run-goes w p b x type m number c cs steps context solution second runs in
      let there = solved-branch w p b x type m number c cs steps context solution end second runs low.0 goes in
      let here =
      solved-at w p a x type m number c cs steps context solution first runs
      (standing-low w p a b x type m number c cs steps context solution end like second runs low.0) in
      let further : List (List ℕ) → Result (List (List ℕ)) Stop = λ all. branches_names_made S L branches a (variable_in a x) (Some (whole_of a m)) (number + 1) all in
      ap (λ (r : Result Node Stop). and_then (and_then r (λ next. tree_names_made S L subtree next names)) further) here.made
      ∙ (ap (λ (r : Result (List (List ℕ)) Stop). and_then r further)
      (names-alike S v (behind_solution p context solution) subtree next (node_from w b x m number steps) ready stands scoped.0.1 here.over there.over
      (next-like w a b x m number steps like) there.low names)
      ∙ (branches-alike S v p a b x type m (number + 1) cs branches (from-next w p a x type m number c cs first) (from-next w p b x type m number c cs second) like
      ready rest scoped.1 (names ++ own)
      (low-after w b x m (number + 1) cs (runs_of branches) (cond (is_absurd steps) (end ∷ others) others) others
      (ap (λ test. cond test (end ∷ others) others) goes) low.1)
      ∙ ap (λ all. Ok all) (append_assoc names own (branches_names S L branches a (variable_in a x) (Some (whole_of a m)) (number + 1)))))

-- the names of the tree are made at the first node, where its term is not too high at the second one
pub tree-names-alike : (w : Translation) (p : Point) (t : Tree) (a b : Node) (names : List (List ℕ)) → IsReady w.signature → StandsAt w.signature p t
    → IsScopedTree w.signature t → IsNodeOver a p.context → IsNodeOver b p.context → IsLikeNode a b → height (tree_term w t b) ≤ 2000
    → tree_names_made w.signature w.part.level t a names ≡ Ok (names ++ tree_names w.signature w.part.level t a)
tree-names-alike w p t a b names ready stands scoped over other like low = names-alike w.signature w p t a b ready stands scoped over other like low names
