-- A node is grown from what its first clause reaches, with the ends of the runs there.
use Rattle.std.proofs.Common.{◌≡◌, ℕ, false, Some, None, Result, Ok, Err, List, [], ◌∷◌, ◌++◌, map, refl, sym, ap, ◌∙◌}
use Rattle.theory.specs.Terms.{Term}
use Rattle.theory.specs.Signatures.{Signature}
use Rattle.core_terms.specs.Answers.{SpentOr, and_next, on_answer}
use Rattle.core_terms.specs.CaseTrees as tree
use Rattle.core_terms.specs.CaseTrees.{Branch, Branches}
use Rattle.core_terms.specs.Patterns.{Pat}
use Rattle.unification.specs.Outcomes.{Outcome, Solved, Absurd, Stuck}
use Rattle.case_trees.specs.Looking.{Ran, first_found}
use Rattle.case_trees.specs.Pairs.{all_open}
use Rattle.case_trees.specs.Points.{Point}
use Rattle.case_trees.specs.Stops.{answers}
use Rattle.case_trees.specs.Trees.{Live, SplitAt, look, Growing, branch_by, grow_branches, split_at, by_first, by_live}
use Rattle.clause_walks.proofs.Reaches.{tree-reaches}
use Rattle.clause_walks.proofs.TurnCodes.{alike}
use Rattle.clause_walks.specs.Reaching.{end_of_run, reached_split, reach}
use Rattle.clause_splitting.specs.Growing.{reached_from, reached_at, branch_from, branches_from, with_branches, split_from, grown_from}

-- a call after an answer that is changed by `make`
pub next-made : {A B C E : Type 0} (first : SpentOr E A) (make : A → B) (go : B → ℕ → SpentOr E C)
    → and_next (and_next first (λ a rest. (Ok (make a), rest))) go ≡ and_next first (λ a rest. go (make a) rest)
next-made {A = A} {E = E} first make go = by first.0 first.1
  where
    by : (r : Result A E) (left : ℕ)
        → and_next (on_answer r left (λ a rest. (Ok (make a), rest))) go ≡ on_answer r left (λ a rest. go (make a) rest)
    by (Ok a) left = refl
    by (Err e) left = refl

-- ---- branches

branch-from : (go : Growing) (p : Point) (live : List Live) (run : Ran) (o : Outcome) (left : ℕ)
    → branch_by go p live run o left ≡ branch_from go p live (end_of_run run) o left
branch-from go p live run (Absurd steps context u v) left = refl
branch-from go p live run (Solved steps context solution) left = refl
branch-from go p live run (Stuck steps context u v why) left = refl

branches-from : (go : Growing) (p : Point) (live : List Live) (runs : List Ran) (left : ℕ)
    → grow_branches go p live runs left ≡ branches_from go p live (map end_of_run runs) left
branches-from go p live [] left = refl
branches-from go p live (run ∷ runs) left =
    ap (λ first. and_next first (λ branch rest. and_next (grow_branches go p live runs rest) (λ branches end. answers (Ok (tree.cons branch branches)) end)))
    (branch-from go p live run run.outcome left)
    ∙ alike (branch_from go p live (end_of_run run) run.outcome left) _ _ (λ branch rest.
    ap (λ others. and_next others (λ branches end. answers (Ok (tree.cons branch branches)) end)) (branches-from go p live runs rest))

pub split-from : (go : Growing) (p : Point) (live : List Live) (s : SplitAt) (left : ℕ)
    → split_at go p live s left ≡ split_from go p live (reached_split s) left
split-from go p live s left =
    ap (λ first. and_next first (λ branches rest. answers (Ok (tree.Split p.context s.variable s.looked.member.n s.looked.type branches)) rest))
    (branches-from go p live s.runs left)

-- ---- a node

first-grown : (S : Signature) (go : Growing) (p : Point) (c : Live) (live : List Live) (pairs : List (Pat × Term)) (left : ℕ)
    → by_first S go p c live pairs left ≡ and_next (reached_from S p c pairs left) (λ found rest. grown_from go p (c ∷ live) found rest)
first-grown S go p c live [] left = refl
first-grown S go p c live (pair ∷ others) left =
    alike (first_found S c.number p.context (look S c.number p.context) (pair ∷ others) None None left) (split_at go p (c ∷ live))
    (λ s rest. split_from go p (c ∷ live) (reached_split s) rest) (λ s rest. split-from go p (c ∷ live) s rest)
    ∙ (tree-reaches S c.number p.context (pair ∷ others) None None left (split_from go p (c ∷ live))
    ∙ sym
    (next-made (first_found S c.number p.context (reach S false c.number p.context) (pair ∷ others) None None left) Some
    (λ found rest. grown_from go p (c ∷ live) found rest)))

pub live-grown : (S : Signature) (go : Growing) (p : Point) (live : List Live) (left : ℕ)
    → by_live S go p live left ≡ and_next (reached_at S p live left) (λ found rest. grown_from go p live found rest)
live-grown S go p [] left = refl
live-grown S go p (c ∷ live) left = first-grown S go p c live (all_open c.pairs) left

-- ---- lists that are made

pub with-more : (made : List Branch) (branch : Branch) (branches : Branches)
    → with_branches (made ++ branch ∷ []) branches ≡ with_branches made (tree.cons branch branches)
with-more [] branch branches = refl
with-more (b ∷ made) branch branches = ap (tree.cons b) (with-more made branch branches)

pub with-end : (made : List Branch) → with_branches made tree.nil ≡ tree.branches made
with-end [] = refl
with-end (b ∷ made) = ap (tree.cons b) (with-end made)
