-- A walk for the proof of an equation never ends with a rejected entry.
use Rattle.std.proofs.Common.{ℕ, zero, suc, ◌==◌, Bool, true, false, cond, Option, Some, None, List, [], ◌∷◌, Result, Ok, Err}
use Rattle.theory.specs.Terms.{Term}
use Rattle.theory.specs.Signatures.{Signature}
use Rattle.core_terms.specs.Answers.{and_next}
use Rattle.core_terms.specs.CaseTrees as tree
use Rattle.core_terms.specs.CaseTrees.{Tree, Branch, Branches}
use Rattle.core_terms.specs.declared.stop.Stop.{Stop}
use Rattle.core_terms.proofs.Answers.{Splits, and_next-splits}
use Rattle.kernel_reduce.specs.Reduction.{whnf_of}
use Rattle.kernel_reduce.specs.Tidying.{tidy_of}
use Rattle.unification.specs.Built.{Built, built_of}
use Rattle.unification.specs.Outcomes.{Outcome, Solved, Absurd, Stuck as StuckOutcome}
use Rattle.unification.specs.Solutions.{variable_in}
use Rattle.case_trees.specs.Looking.{Look, Found, Passed, Ran, run_all}
use Rattle.case_trees.specs.Problems.{Member, member_of, type_of_variable}
use Rattle.case_trees.specs.Stops as tree_stop
use Rattle.case_trees.specs.Stops.{TreeStop}
use Rattle.clause_reports.specs.ProofWalks.{Place, Proofs, Walking, Splitting, Branching, value_at, moved_place, bounded_place, at_member, at_variable, at_other, at_head, at_split, solved_branch, solved_branches, with_runs, or_halted, split_variable, no_splitting, looked_again, walk_tree, take_branch, enter_branch}
use Rattle.clause_reports.specs.Stops.{Reporting, or_halts, halting}
use Rattle.elim.proofs.program_texts.EnteredNames.{ReportIn}

abbrev pub Any : {A : Type 0} → A → Type 0
Any a = Unit {0}

-- no entry is rejected
abbrev pub Quiet : {A : Type 0} → Reporting A → Type 0
Quiet r = Splits Any ReportIn r.0

pub halts-quiet : {A : Type 0} (r : Result A Stop) → Splits Any ReportIn (or_halts r)
halts-quiet (Ok a) = tt
halts-quiet (Err e) = tt

pub quietly : {A B : Type 0} (first : Reporting A) (go : A → ℕ → Reporting B) → Quiet first → ((a : A) (rest : ℕ) → Quiet (go a rest)) → Quiet (and_next first go)
quietly first go h k = and_next-splits Any Any ReportIn first go h (λ a rest u. k a rest)

halted-quiet : {A : Type 0} (r : Result A TreeStop) → Splits Any ReportIn (or_halted r)
halted-quiet (Ok a) = tt
halted-quiet (Err (tree_stop.Halts e)) = tt
halted-quiet (Err (tree_stop.Stuck clause context u v why)) = tt
halted-quiet (Err (tree_stop.Uncovered context terms)) = tt
halted-quiet (Err (tree_stop.NotAbsurd clause n number)) = tt
halted-quiet (Err (tree_stop.Impossible clause context u v)) = tt
halted-quiet (Err (tree_stop.WrongConstructor clause context type)) = tt
halted-quiet (Err (tree_stop.Forced clause context pat t)) = tt

abbrev Goes : Walking → Type 0
Goes go = (p : Place) (left : ℕ) → Quiet (go p left)

abbrev Divides : Splitting → Type 0
Divides split = (x : ℕ) (type : Term) (m : Member) → Goes (split x type m)

abbrev Takes : Branching → Type 0
Takes branch = (number : ℕ) (arguments : List Term) → Goes (branch number arguments)

at_member-quiet : (n : ℕ) (t : Term) (split : Splitting) (x : ℕ) (type : Term) (m : Option Member) → Divides split → Goes (at_member n t split x type m)
at_member-quiet n t split x type None h p left = tt
at_member-quiet n t split x type (Some m) h p left = by (m.n == n)
  where
    by : (same : Bool) → Quiet (cond same (split x type m p left) (at_member n t split x type None p left))
    by true = h x type m p left
    by false = tt

at_variable-quiet : (S : Signature) (n : ℕ) (t : Term) (split : Splitting) (x : Option ℕ) → Divides split → Goes (at_variable S n t split x)
at_variable-quiet S n t split None h p left = tt
at_variable-quiet S n t split (Some x) h p left =
    quietly (halting (whnf_of S true left (type_of_variable p.context x))) _ (halts-quiet (whnf_of S true left (type_of_variable p.context x)).0)
    (λ type rest. at_member-quiet n t split x type (member_of S type) h p rest)

at_other-quiet : (S : Signature) (n : ℕ) (t : Term) (split : Splitting) → Divides split → Goes (at_other S n t split)
at_other-quiet S n t split h p left =
    quietly (halting (tidy_of S left t)) _ (halts-quiet (tidy_of S left t).0) (λ u rest. at_variable-quiet S n t split (variable_in u) h p rest)

at_head-quiet : (S : Signature) (n : ℕ) (t : Term) (branch : Branching) (split : Splitting) (b : Option Built) → Takes branch → Divides split
    → Goes (at_head S n t branch split b)
at_head-quiet S n t branch split None h k p left = at_other-quiet S n t split k p left
at_head-quiet S n t branch split (Some b) h k p left = by (b.n == n)
  where
    by : (same : Bool) → Quiet (cond same (branch b.number b.arguments p left) (at_other S n t split p left))
    by true = h b.number b.arguments p left
    by false = at_other-quiet S n t split k p left

at_split-quiet : (S : Signature) (n x : ℕ) (branch : Branching) (split : Splitting) → Takes branch → Divides split → Goes (at_split S n x branch split)
at_split-quiet S n x branch split h k p left =
    let t = value_at p.values x in
    quietly (halting (whnf_of S true left t)) _ (halts-quiet (whnf_of S true left t).0) (λ w rest. at_head-quiet S n t branch split (built_of S w) h k p rest)

solved_branch-quiet : (go : Walking) (p : Place) (outcome : Outcome) (others : ℕ → Reporting Proofs) (left : ℕ) → Goes go
    → ((rest : ℕ) → Quiet (others rest)) → Quiet (solved_branch go p outcome others left)
solved_branch-quiet go p (Solved steps context solution) others left h k =
    quietly (or_halts (bounded_place (moved_place p context solution)), left) _ (halts-quiet (bounded_place (moved_place p context solution))) (λ q rest.
    quietly (go q rest) _ (h q rest) (λ proof end.
    quietly (others end) _ (k end) (λ proofs last. tt)))
solved_branch-quiet go p (Absurd steps context u v) others left h k = k left
solved_branch-quiet go p (StuckOutcome steps context u v why) others left h k = k left

solved_branches-quiet : (go : Walking) (p : Place) (runs : List Ran) (left : ℕ) → Goes go → Quiet (solved_branches go p runs left)
solved_branches-quiet go p [] left h = tt
solved_branches-quiet go p (run ∷ runs) left h =
    solved_branch-quiet go p run.outcome (solved_branches go p runs) left h (λ rest. solved_branches-quiet go p runs rest h)

with_runs-quiet : (go : Walking) (x : ℕ) (type : Term) (p : Place) (runs : Look (List Ran)) (left : ℕ) → Goes go → Quiet (with_runs go x type p runs left)
with_runs-quiet go x type p (Found runs) left h =
    quietly (solved_branches go p runs left) _ (solved_branches-quiet go p runs left h) (λ proofs rest. tt)
with_runs-quiet go x type p (Passed r) left h = tt

split_variable-quiet : (S : Signature) (go : Walking) → Goes go → Divides (split_variable S go)
split_variable-quiet S go h x type m p left =
    let runs = run_all S p.context x m 0 m.family.constructors left in
    quietly (or_halted runs.0, runs.1) _ (halted-quiet runs.0) (λ found rest. with_runs-quiet go x type p found rest h)

again-quiet : (S : Signature) (n x : ℕ) (branch : Branching) → Takes branch → Goes (looked_again S n x branch)
again-quiet S n x branch h p left =
    at_split-quiet S n x branch (no_splitting (value_at p.values x)) h (λ y type m q rest. tt) p left

mutual
  pub walk_tree-quiet : (S : Signature) (t : Tree) (p : Place) (left : ℕ) → Quiet (walk_tree S t p left)
  walk_tree-quiet S (tree.Leaf clause context goal substitution terms binds) p left = tt
  walk_tree-quiet S (tree.Split context x n type branches) p left =
      at_split-quiet S n x (take_branch S branches) (split_variable S (looked_again S n x (take_branch S branches)))
      (take_branch-quiet S branches)
      (split_variable-quiet S (looked_again S n x (take_branch S branches)) (again-quiet S n x (take_branch S branches) (take_branch-quiet S branches)))
      p left

  take_branch-quiet : (S : Signature) (branches : Branches) (number : ℕ) (arguments : List Term) (p : Place) (left : ℕ)
      → Quiet (take_branch S branches number arguments p left)
  take_branch-quiet S tree.nil number arguments p left = tt
  take_branch-quiet S (tree.cons branch branches) zero arguments p left = enter_branch-quiet S branch arguments p left
  take_branch-quiet S (tree.cons branch branches) (suc number) arguments p left = take_branch-quiet S branches number arguments p left

  enter_branch-quiet : (S : Signature) (branch : Branch) (arguments : List Term) (p : Place) (left : ℕ) → Quiet (enter_branch S branch arguments p left)
  enter_branch-quiet S (tree.Absurd steps context u v) arguments p left = tt
  enter_branch-quiet S (tree.Solved steps origins subtree) arguments p left = walk_tree-quiet S subtree _ left
