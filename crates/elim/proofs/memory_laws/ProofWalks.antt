-- The walks of proofs through trees end with an answer, out of units, for a height, or for a cause of their own.
use Rattle.std.proofs.Common.{ℕ, zero, suc, true, Option, Some, None, Result, Ok, Err, List, [], ◌∷◌, map}
use Rattle.theory.specs.Terms.{Term}
use Rattle.theory.specs.Signatures.{Signature}
use Rattle.core_terms.specs.CaseTrees as tree
use Rattle.core_terms.specs.CaseTrees.{Branch, Branches, Tree}
use Rattle.unification.specs.Built.{Built, built_of}
use Rattle.unification.specs.Outcomes.{Outcome, Solved, Absurd, Stuck}
use Rattle.unification.specs.Solutions.{variable_in}
use Rattle.case_trees.specs.Looking.{Look, Found, Passed, Ran}
use Rattle.case_trees.specs.Problems.{Member, member_of, type_of_variable}
use Rattle.case_trees.specs.Stops as stop
use Rattle.case_trees.specs.Stops.{TreeStop}
use Rattle.clause_reports.specs.ProofWalks.{Branching, Ends as Leaf, Place, Proofs, Splitting, Walking, at_head, at_member, at_origin, at_other, at_split, at_variable, bounded_place, cons, enter_branch, halted as halted_tree, looked_again, moved_place, nil, no_splitting, or_halted, solved_branch, solved_branches, split_variable, stuck_at, take_branch, value_at, walk_tree, with_runs}
use Rattle.clause_reports.specs.Stops.{Reporting}
use Rattle.elim.specs.memory_laws.Foreseen.{IsForeseen, IsForeseenReport, IsForeseenTree}
use Rattle.elim.proofs.memory_laws.Runs.{Only, Ends, ok, no, now, done, next, either, either-ends, deep}
use Rattle.elim.proofs.memory_laws.Kernel.{tidy, whnf}
use Rattle.elim.proofs.memory_laws.Walks.{all-run}
use Rattle.elim.proofs.memory_laws.Drafts.{halted, halts}

-- ---- looking at a split

abbrev Walks : Walking → Type 0
Walks go = (p : Place) (left : ℕ) → Ends IsForeseenReport (go p left)

abbrev EachBranch : Branching → Type 0
EachBranch branch = (number : ℕ) (arguments : List Term) → Walks (branch number arguments)

abbrev EachSplit : Splitting → Type 0
EachSplit split = (x : ℕ) (type : Term) (m : Member) → Walks (split x type m)

stuck : (t : Term) → Walks (stuck_at t)
stuck t p left = now (no tt)

member : (n : ℕ) (t : Term) {split : Splitting} → EachSplit split → (x : ℕ) (type : Term) (m : Option Member) → Walks (at_member n t split x type m)
member n t h x type None p left = stuck t p left
member n t h x type (Some m) p left = either-ends _ (h x type m p left) (stuck t p left)

variable : (S : Signature) (n : ℕ) (t : Term) {split : Splitting} → EachSplit split → (x : Option ℕ) → Walks (at_variable S n t split x)
variable S n t h None p left = stuck t p left
variable S n t h (Some x) p left =
    next (halts (whnf S true left (type_of_variable p.context x))) (λ type rest. member n t h x type (member_of S type) p rest)

other : (S : Signature) (n : ℕ) (t : Term) {split : Splitting} → EachSplit split → Walks (at_other S n t split)
other S n t h p left = next (halts (tidy S left t)) (λ u rest. variable S n t h (variable_in u) p rest)

head : (S : Signature) (n : ℕ) (t : Term) {branch : Branching} {split : Splitting} → EachBranch branch → EachSplit split → (b : Option Built)
    → Walks (at_head S n t branch split b)
head S n t k h None p left = other S n t h p left
head S n t k h (Some b) p left = either-ends _ (k b.number b.arguments p left) (other S n t h p left)

looked : (S : Signature) (n x : ℕ) {branch : Branching} {split : Splitting} → EachBranch branch → EachSplit split → Walks (at_split S n x branch split)
looked S n x k h p left =
    next (halts (whnf S true left (value_at p.values x))) (λ w rest. head S n (value_at p.values x) k h (built_of S w) p rest)

-- ---- splitting a variable

place-low : (p : Place) → Only IsForeseen (bounded_place p)
place-low p = either _ ok deep

solved : {go : Walking} → Walks go → (p : Place) (outcome : Outcome) {others : ℕ → Reporting Proofs} → ((left : ℕ) → Ends IsForeseenReport (others left))
    → (left : ℕ) → Ends IsForeseenReport (solved_branch go p outcome others left)
solved h p (Solved steps context solution) k left =
    next (now {left = left} (halted (place-low (moved_place p context solution)))) (λ q rest.
    next (h q rest) (λ proof end. next (k end) (λ proofs last. done)))
solved h p (Absurd steps context u v) k left = k left
solved h p (Stuck steps context u v why) k left = k left

all-solved : {go : Walking} → Walks go → (p : Place) (runs : List Ran) (left : ℕ) → Ends IsForeseenReport (solved_branches go p runs left)
all-solved h p [] left = done
all-solved h p (run ∷ runs) left = solved h p run.outcome (all-solved h p runs) left

runs-found : {go : Walking} → Walks go → (x : ℕ) (type : Term) (p : Place) (runs : Look (List Ran)) (left : ℕ)
    → Ends IsForeseenReport (with_runs go x type p runs left)
runs-found h x type p (Found runs) left = next (all-solved h p runs left) (λ proofs rest. done)
runs-found h x type p (Passed r) left = now (no tt)

of-tree : (e : TreeStop) → IsForeseenTree e → IsForeseenReport (halted_tree e)
of-tree (stop.Halts e) h = h
of-tree (stop.Stuck clause context u v why) h = tt
of-tree (stop.Uncovered context terms) h = tt
of-tree (stop.NotAbsurd clause n number) h = tt
of-tree (stop.Impossible clause context u v) h = tt
of-tree (stop.WrongConstructor clause context type) h = tt
of-tree (stop.Forced clause context pat t) h = tt

halted-run : {A : Type 0} (r : Result A TreeStop) → Only IsForeseenTree r → Only IsForeseenReport (or_halted r)
halted-run (Ok a) h = ok
halted-run (Err e) h = no (of-tree e h.is)

split : (S : Signature) {go : Walking} → Walks go → EachSplit (split_variable S go)
split S h x type m p left =
    next (now (halted-run _ (all-run S p.context x m 0 m.family.constructors left).only)) (λ runs rest. runs-found h x type p runs rest)

none : (t : Term) → EachSplit (no_splitting t)
none t x type m p left = stuck t p left

again : (S : Signature) (n x : ℕ) {branch : Branching} → EachBranch branch → Walks (looked_again S n x branch)
again S n x k p left = looked S n x k (none (value_at p.values x)) p left

-- ---- the walk

mutual
  pub walks : (S : Signature) (t : Tree) → Walks (walk_tree S t)
  walks S (tree.Leaf clause context goal substitution terms binds) p left = done
  walks S (tree.Split context x n type branches) p left =
      looked S n x (takes S branches) (split S (again S n x (takes S branches))) p left

  takes : (S : Signature) (branches : Branches) → EachBranch (take_branch S branches)
  takes S tree.nil number arguments p left = now (no tt)
  takes S (tree.cons branch branches) zero arguments p left = enters S branch arguments p left
  takes S (tree.cons branch branches) (suc number) arguments p left = takes S branches number arguments p left

  enters : (S : Signature) (branch : Branch) (arguments : List Term) → Walks (enter_branch S branch arguments)
  enters S (tree.Absurd steps context u v) arguments p left = now (no tt)
  enters S (tree.Solved steps origins subtree) arguments p left =
      walks S subtree (record p { values = map (at_origin p.values arguments) origins }) left
