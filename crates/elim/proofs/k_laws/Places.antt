-- The walk of a clause's terms through a tree comes to places without K, whatever the tree is.
use Rattle.std.proofs.Common.{ℕ, zero, suc, true, Option, Some, None, IfSome, Result, Ok, Err, List, [], ◌∷◌, ◌++◌, length, map, take}
use Rattle.theory.specs.Terms.{Term}
use Rattle.theory.specs.Telescopes.{Telescope}
use Rattle.theory.specs.Signatures.{Signature}
use Rattle.core_terms.specs.Answers.{Spent}
use Rattle.core_terms.specs.CaseTrees as tree
use Rattle.core_terms.specs.CaseTrees.{Branch, Branches, Tree}
use Rattle.core_terms.specs.declared.stop.Stop.{Stop}
use Rattle.kernel_reduce.specs.Reduction.{whnf_of}
use Rattle.kernel_reduce.specs.Tidying.{tidy_of}
use Rattle.unification.specs.Built.{Built, built_of}
use Rattle.unification.specs.Outcomes.{Outcome, Solved, Absurd, Stuck}
use Rattle.unification.specs.Solutions.{variable_in}
use Rattle.case_trees.specs.Looking.{Look, Found as There, Passed, Ran}
use Rattle.case_trees.specs.Problems.{Member, member_of, type_of_variable}
use Rattle.case_trees.specs.Stops.{TreeStop}
use Rattle.clause_reports.specs.ProofWalks.{Branching, Place, Proof, Proofs, Splitting, Walking, all_leaves, at_head, at_member, at_origin, at_other, at_split, at_variable, bounded_place, enter_branch, leaves_in, looked_again, moved_place, no_splitting, or_halted, solved_branch, solved_branches, split_variable, stuck_at, take_branch, value_at, walk_tree, with_runs}
use Rattle.clause_reports.specs.Stops.{Reporting, halting, or_halts}
use Rattle.elim.specs.k_laws.Lacking.{Lack, SignatureLacks}
use Rattle.elim.specs.k_laws.Walking.{OutcomeLacks}
use Rattle.elim.proofs.k_laws.Runs.{Gives, Ends, Any, anyhow, ok, no, now, done, refused, next, either, either-ends}
use Rattle.elim.proofs.k_laws.Terms.{first}
use Rattle.elim.proofs.k_laws.Kernel.{whnf}
use Rattle.elim.proofs.k_laws.Solving.{MemberLacks, member, variable-type}
use Rattle.elim.proofs.k_laws.Points.{all-put}
use Rattle.elim.proofs.k_laws.Looking.{LookHas, RunsLack, all-run}

-- the context and the terms; neither the equation nor the values of the tree's variables are put into them
pub record PlaceLacks (p : Place) : Type 0 where
  pub context : Lack p.context
  pub terms : Lack p.terms

abbrev pub PlacesLack : List (ℕ × Place) → Type 0
PlacesLack [] = Unit {0}
PlacesLack (leaf ∷ leaves) = PlaceLacks leaf.1 × PlacesLack leaves

-- each leaf
abbrev pub ProofLacks : Proof → Type 0
ProofLacks proof = PlacesLack (leaves_in proof)

abbrev pub ProofsLack : Proofs → Type 0
ProofsLack proofs = PlacesLack (all_leaves proofs)

both : (one other : List (ℕ × Place)) → PlacesLack one → PlacesLack other → PlacesLack (one ++ other)
both [] other h k = k
both (leaf ∷ one) other h k = (h.0, both one other h.1 k)

pub halted : {A : Type 0} {P : A → Type 0} {r : Result A Stop} → Gives P r → Gives P (or_halts r)
halted {A} {P} {r} h = by r h
  where
    by : (x : Result A Stop) → Gives P x → Gives P (or_halts x)
    by (Ok a) k = ok k.is
    by (Err e) k = no

pub halts : {A : Type 0} {P : A → Type 0} {spent : Spent A} → Ends P spent → Ends P (halting spent)
halts h = now (halted h.only)

abbrev Walks : Walking → Type 0
Walks go = (p : Place) (left : ℕ) → PlaceLacks p → Ends ProofLacks (go p left)

abbrev EachBranch : Branching → Type 0
EachBranch branch = (number : ℕ) (arguments : List Term) → Walks (branch number arguments)

abbrev EachSplit : Splitting → Type 0
EachSplit split = (x : ℕ) (type : Term) (m : Member) → MemberLacks m → Walks (split x type m)

-- ---- looking at a split

stuck : (t : Term) → Walks (stuck_at t)
stuck t p left h = refused

of-member : (n : ℕ) (t : Term) {split : Splitting} → EachSplit split → (x : ℕ) (type : Term) (m : Option Member) → IfSome m MemberLacks
    → Walks (at_member n t split x type m)
of-member n t k x type None l p left h = stuck t p left h
of-member n t k x type (Some m) l p left h = either-ends _ (k x type m l p left h) (stuck t p left h)

variable : (S : Signature) → SignatureLacks S → (n : ℕ) (t : Term) {split : Splitting} → EachSplit split → (x : Option ℕ) → Walks (at_variable S n t split x)
variable S all n t k None p left h = stuck t p left h
variable S all n t k (Some x) p left h =
    next (halts (whnf S true left (type_of_variable p.context x) all (variable-type p.context x h.context))) (λ type rest l.
    of-member n t k x type (member_of S type) (member S all type l).is p rest h)

other : (S : Signature) → SignatureLacks S → (n : ℕ) (t : Term) {split : Splitting} → EachSplit split → Walks (at_other S n t split)
other S all n t k p left h = next {P = Any} (anyhow (halting (tidy_of S left t))) (λ u rest q. variable S all n t k (variable_in u) p rest h)

head : (S : Signature) → SignatureLacks S → (n : ℕ) (t : Term) {branch : Branching} {split : Splitting} → EachBranch branch → EachSplit split → (b : Option Built)
    → Walks (at_head S n t branch split b)
head S all n t l k None p left h = other S all n t k p left h
head S all n t l k (Some b) p left h = either-ends _ (l b.number b.arguments p left h) (other S all n t k p left h)

looked : (S : Signature) → SignatureLacks S → (n x : ℕ) {branch : Branching} {split : Splitting} → EachBranch branch → EachSplit split
    → Walks (at_split S n x branch split)
looked S all n x l k p left h = next {P = Any} (anyhow (halting (whnf_of S true left (value_at p.values x)))) (λ w rest q. head S all n (value_at p.values x) l k (built_of S w) p rest h)

-- ---- splitting a variable

moved : (p : Place) (context : Telescope) (solution : List Term) → PlaceLacks p → Lack context → Lack solution
    → Gives PlaceLacks (bounded_place (moved_place p context solution))
moved p context solution h k l =
    let own = take (length p.context) solution in
    either _ (ok (record { context = k; terms = all-put own p.terms (first (length p.context) solution l) h.terms })) no

solved : {go : Walking} → Walks go → (p : Place) (o : Outcome) {others : ℕ → Reporting Proofs} → ((left : ℕ) → Ends ProofsLack (others left)) → (left : ℕ)
    → PlaceLacks p → OutcomeLacks o → Ends ProofsLack (solved_branch go p o others left)
solved more p (Solved steps context solution) k left h l =
    next (now {left = left} (halted (moved p context solution h l.0 l.1))) (λ q rest a.
    next (more q rest a) (λ proof end b. next (k end) (λ proofs last c. done (both (leaves_in proof) (all_leaves proofs) b c))))
solved more p (Absurd steps context u v) k left h l = k left
solved more p (Stuck steps context u v why) k left h l = k left

all-solved : {go : Walking} → Walks go → (p : Place) (runs : List Ran) (left : ℕ) → PlaceLacks p → RunsLack runs → Ends ProofsLack (solved_branches go p runs left)
all-solved more p [] left h k = done tt
all-solved more p (run ∷ runs) left h k = solved more p run.outcome (λ rest. all-solved more p runs rest h k.1) left h k.0

runs-found : {go : Walking} → Walks go → (x : ℕ) (type : Term) (p : Place) (runs : Look (List Ran)) (left : ℕ) → PlaceLacks p → LookHas RunsLack runs
    → Ends ProofLacks (with_runs go x type p runs left)
runs-found more x type p (There runs) left h k = next (all-solved more p runs left h k) (λ proofs rest l. done l)
runs-found more x type p (Passed r) left h k = refused

halted-run : {A : Type 0} {P : A → Type 0} {r : Result A TreeStop} → Gives P r → Gives P (or_halted r)
halted-run {A} {P} {r} h = by r h
  where
    by : (x : Result A TreeStop) → Gives P x → Gives P (or_halted x)
    by (Ok a) k = ok k.is
    by (Err e) k = no

split : (S : Signature) → SignatureLacks S → {go : Walking} → Walks go → EachSplit (split_variable S go)
split S all more x type m k p left h =
    next (now (halted-run (all-run S all p.context x m 0 m.family.constructors left h.context k k.constructors).only)) (λ runs rest l.
    runs-found more x type p runs rest h l)

no-split : (t : Term) → EachSplit (no_splitting t)
no-split t x type m k p left h = stuck t p left h

again : (S : Signature) → SignatureLacks S → (n x : ℕ) {branch : Branching} → EachBranch branch → Walks (looked_again S n x branch)
again S all n x l p left h = looked S all n x l (no-split (value_at p.values x)) p left h

-- ---- the walk

mutual
  pub walks : (S : Signature) → SignatureLacks S → (t : Tree) → Walks (walk_tree S t)
  walks S all (tree.Leaf clause context goal substitution terms binds) p left h = done (h, tt)
  walks S all (tree.Split context x n type branches) p left h =
      looked S all n x (takes S all branches) (split S all (again S all n x (takes S all branches))) p left h

  takes : (S : Signature) → SignatureLacks S → (branches : Branches) → EachBranch (take_branch S branches)
  takes S all tree.nil number arguments p left h = refused
  takes S all (tree.cons branch branches) zero arguments p left h = enters S all branch arguments p left h
  takes S all (tree.cons branch branches) (suc number) arguments p left h = takes S all branches number arguments p left h

  enters : (S : Signature) → SignatureLacks S → (branch : Branch) (arguments : List Term) → Walks (enter_branch S branch arguments)
  enters S all (tree.Absurd steps context u v) arguments p left h = refused
  enters S all (tree.Solved steps origins subtree) arguments p left h =
      walks S all subtree (record p { values = map (at_origin p.values arguments) origins }) left (record { context = h.context; terms = h.terms })
