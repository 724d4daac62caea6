-- Walks through trees give no units back.
use Rattle.std.proofs.Common.{ℕ, zero, suc, ◌≤◌, ◌==◌, Bool, true, false, cond, Option, Some, None, List, [], ◌∷◌, arith}
use Rattle.theory.specs.Terms.{Term}
use Rattle.theory.specs.Signatures.{Signature}
use Rattle.core_terms.specs.CaseTrees as tree
use Rattle.core_terms.specs.CaseTrees.{Tree, Branch, Branches}
use Rattle.core_terms.proofs.Answers.{and_next-spends}
use Rattle.kernel_reduce.specs.Reduction.{whnf_of}
use Rattle.kernel_reduce.specs.Tidying.{tidy_of}
use Rattle.kernel_reduce.proofs.ReductionLaws.{whnf-spends}
use Rattle.unification.specs.Built.{Built, built_of}
use Rattle.unification.specs.Outcomes.{Outcome, Solved, Absurd, Stuck as StuckOutcome}
use Rattle.unification.specs.Solutions.{variable_in}
use Rattle.case_trees.specs.Looking.{Look, Found, Passed, Ran, run_all}
use Rattle.case_trees.specs.Problems.{Member, member_of, type_of_variable}
use Rattle.case_trees.proofs.SpentUnits.{run_all-spends}
use Rattle.clause_reports.specs.ProofWalks.{Place, Proofs, Walking, Splitting, Branching, value_at, moved_place, bounded_place, at_member, at_variable, at_other, at_head, at_split, solved_branch, solved_branches, with_runs, or_halted, split_variable, no_splitting, looked_again, walk_tree, take_branch, enter_branch}
use Rattle.clause_reports.specs.Stops.{Reporting, or_halts, halting}

abbrev Goes : Walking → Type 0
Goes go = (p : Place) (left : ℕ) → (go p left).1 ≤ left

abbrev Divides : Splitting → Type 0
Divides split = (x : ℕ) (type : Term) (m : Member) → Goes (split x type m)

abbrev Takes : Branching → Type 0
Takes branch = (number : ℕ) (arguments : List Term) → Goes (branch number arguments)

at_member-spends : (n : ℕ) (t : Term) (split : Splitting) (x : ℕ) (type : Term) (m : Option Member) → Divides split → Goes (at_member n t split x type m)
at_member-spends n t split x type None spends p left = omega arith
at_member-spends n t split x type (Some m) spends p left = by (m.n == n)
  where
    by : (same : Bool) → (cond same (split x type m p left) (at_member n t split x type None p left)).1 ≤ left
    by true = spends x type m p left
    by false = omega arith

at_variable-spends : (S : Signature) (n : ℕ) (t : Term) (split : Splitting) (x : Option ℕ) → Divides split → Goes (at_variable S n t split x)
at_variable-spends S n t split None spends p left = omega arith
at_variable-spends S n t split (Some x) spends p left =
    and_next-spends (halting (whnf_of S true left (type_of_variable p.context x))) _ left (whnf-spends S true left (type_of_variable p.context x))
    (λ type rest. at_member-spends n t split x type (member_of S type) spends p rest)

at_other-spends : (S : Signature) (n : ℕ) (t : Term) (split : Splitting) → Divides split → Goes (at_other S n t split)
at_other-spends S n t split spends p left =
    and_next-spends (halting (tidy_of S left t)) _ left (whnf-spends S false left t) (λ u rest.
    at_variable-spends S n t split (variable_in u) spends p rest)

at_head-spends : (S : Signature) (n : ℕ) (t : Term) (branch : Branching) (split : Splitting) (b : Option Built) → Takes branch → Divides split
    → Goes (at_head S n t branch split b)
at_head-spends S n t branch split None h k p left = at_other-spends S n t split k p left
at_head-spends S n t branch split (Some b) h k p left = by (b.n == n)
  where
    by : (same : Bool) → (cond same (branch b.number b.arguments p left) (at_other S n t split p left)).1 ≤ left
    by true = h b.number b.arguments p left
    by false = at_other-spends S n t split k p left

at_split-spends : (S : Signature) (n x : ℕ) (branch : Branching) (split : Splitting) → Takes branch → Divides split → Goes (at_split S n x branch split)
at_split-spends S n x branch split h k p left =
    let t = value_at p.values x in
    and_next-spends (halting (whnf_of S true left t)) _ left (whnf-spends S true left t) (λ w rest.
    at_head-spends S n t branch split (built_of S w) h k p rest)

solved_branch-spends : (go : Walking) (p : Place) (outcome : Outcome) (others : ℕ → Reporting Proofs) (left : ℕ) → Goes go
    → ((rest : ℕ) → (others rest).1 ≤ rest) → (solved_branch go p outcome others left).1 ≤ left
solved_branch-spends go p (Solved steps context solution) others left h k =
    and_next-spends (or_halts (bounded_place (moved_place p context solution)), left) _ left (omega arith) (λ q rest.
    and_next-spends (go q rest) _ rest (h q rest) (λ proof end.
    and_next-spends (others end) _ end (k end) (λ proofs last. omega arith)))
solved_branch-spends go p (Absurd steps context u v) others left h k = k left
solved_branch-spends go p (StuckOutcome steps context u v why) others left h k = k left

solved_branches-spends : (go : Walking) (p : Place) (runs : List Ran) (left : ℕ) → Goes go → (solved_branches go p runs left).1 ≤ left
solved_branches-spends go p [] left h = omega arith
solved_branches-spends go p (run ∷ runs) left h =
    solved_branch-spends go p run.outcome (solved_branches go p runs) left h (λ rest. solved_branches-spends go p runs rest h)

with_runs-spends : (go : Walking) (x : ℕ) (type : Term) (p : Place) (runs : Look (List Ran)) (left : ℕ) → Goes go → (with_runs go x type p runs left).1 ≤ left
with_runs-spends go x type p (Found runs) left h =
    and_next-spends (solved_branches go p runs left) _ left (solved_branches-spends go p runs left h) (λ proofs rest. omega arith)
with_runs-spends go x type p (Passed r) left h = omega arith

split_variable-spends : (S : Signature) (go : Walking) → Goes go → Divides (split_variable S go)
split_variable-spends S go h x type m p left =
    let runs = run_all S p.context x m 0 m.family.constructors left in
    and_next-spends (or_halted runs.0, runs.1) _ left (run_all-spends S p.context x m 0 m.family.constructors left) (λ found rest.
    with_runs-spends go x type p found rest h)

again-spends : (S : Signature) (n x : ℕ) (branch : Branching) → Takes branch → Goes (looked_again S n x branch)
again-spends S n x branch h p left =
    at_split-spends S n x branch (no_splitting (value_at p.values x)) h (λ y type m q rest. omega arith) p left

mutual
  pub walk_tree-spends : (S : Signature) (t : Tree) (p : Place) (left : ℕ) → (walk_tree S t p left).1 ≤ left
  walk_tree-spends S (tree.Leaf clause context goal substitution terms binds) p left = omega arith
  walk_tree-spends S (tree.Split context x n type branches) p left =
      at_split-spends S n x (take_branch S branches) (split_variable S (looked_again S n x (take_branch S branches)))
      (take_branch-spends S branches)
      (split_variable-spends S (looked_again S n x (take_branch S branches)) (again-spends S n x (take_branch S branches) (take_branch-spends S branches)))
      p left

  take_branch-spends : (S : Signature) (branches : Branches) (number : ℕ) (arguments : List Term) (p : Place) (left : ℕ)
      → (take_branch S branches number arguments p left).1 ≤ left
  take_branch-spends S tree.nil number arguments p left = omega arith
  take_branch-spends S (tree.cons branch branches) zero arguments p left = enter_branch-spends S branch arguments p left
  take_branch-spends S (tree.cons branch branches) (suc number) arguments p left = take_branch-spends S branches number arguments p left

  enter_branch-spends : (S : Signature) (branch : Branch) (arguments : List Term) (p : Place) (left : ℕ) → (enter_branch S branch arguments p left).1 ≤ left
  enter_branch-spends S (tree.Absurd steps context u v) arguments p left = omega arith
  enter_branch-spends S (tree.Solved steps origins subtree) arguments p left = walk_tree-spends S subtree _ left
