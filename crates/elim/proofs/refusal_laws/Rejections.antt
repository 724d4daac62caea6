-- An entry that is shown as rejected is one that the checker rejects.
use Rattle.std.proofs.Common.{◌≡◌, ℕ, zero, suc, ◌==◌, Bool, true, false, cond, Option, Some, None, Result, Ok, Err, IfErr, List, [], ◌∷◌, length, refl}
use Rattle.theory.specs.Terms.{Term}
use Rattle.theory.specs.Families.{Family}
use Rattle.theory.specs.Signatures.{AxiomKAt, Definition, EliminatorAt, Entry, FamilyOf, Signature}
use Rattle.core_sig.specs.Drafts.{Draft}
use Rattle.core_sig.specs.Names.{find}
use Rattle.core_sig.specs.Settling.{renumbered_entry, settled_number}
use Rattle.core_terms.specs.CaseTrees as tree
use Rattle.core_terms.specs.CaseTrees.{Branch, Branches, Tree}
use Rattle.core_terms.specs.Answers.{and_next}
use Rattle.core_terms.specs.Verdicts.{Denial}
use Rattle.core_terms.specs.declared.stop.Stop.{Stop}
use Rattle.core_terms.specs.declared.stop.Stop.TheVariants.{Deep}
use Rattle.family_check.specs.Entering.{Entered, axiom_k_of, define_of, instance_of}
use Rattle.family_check.specs.Outcomes as family
use Rattle.family_check.specs.Outcomes.{FamilyStop, Site}
use Rattle.kernel_reduce.specs.Entries.{family_at}
use Rattle.kernel_reduce.specs.Reduction.{whnf_of}
use Rattle.kernel_reduce.specs.Tidying.{tidy_of}
use Rattle.unification.specs.Built.{Built, built_of}
use Rattle.unification.specs.Solutions.{variable_in}
use Rattle.unification.specs.Outcomes as outcome
use Rattle.unification.specs.Outcomes.{Outcome}
use Rattle.case_trees.specs.Looking.{Found, Look, Passed, Ran, run_all}
use Rattle.case_trees.specs.Problems.{Member, member_of, type_of_variable}
use Rattle.case_trees.specs.Stops as tree_stop
use Rattle.case_trees.specs.Stops.{TreeStop}
use Rattle.tree_translation.specs.Needed.{is_found}
use Rattle.clause_reports.proofs.Keeping.{Any}
use Rattle.clause_reports.specs.DraftEntering.{AssumesK, Eliminates, Entering, Mention, Names, enter_all, enter_axiom_k, enter_chain, enter_draft_of, enter_eliminator, enter_entry, enter_generated, enter_mention, enter_needed, enter_with, longest_chain, mentioned}
use Rattle.clause_reports.specs.Generated.{Generated, generated_by, generated_draft}
use Rattle.clause_reports.specs.ProofWalks.{Branching, Place, Proofs, Splitting, Walking, at_head, at_member, at_other, at_split, at_variable, bounded_place, enter_branch, halted, looked_again, moved_place, no_splitting, or_halted, solved_branch, solved_branches, split_variable, stuck_at, take_branch, value_at, walk_tree, with_runs}
use Rattle.clause_reports.specs.Stops.{Halts, Reporting, answers, entering, halting, or_halts, or_rejected, rejection}
use Rattle.elim.specs.refusal_laws.Causes.{IsDenied, of_axiom_k, of_draft, of_eliminator}
use Rattle.elim.proofs.refusal_laws.Chains.{IfRejected, Refuses, next-refuses}
use Rattle.elim.proofs.refusal_laws.WalkCauses.{splits-any}

pub halting-rejects : {A : Type 0} (r : Result A Stop) → IfErr (or_halts r) IfRejected
halting-rejects (Ok a) = tt
halting-rejects (Err e) = tt

-- goes on after a call that is not rejected, or whose rejection is a denial
pub on-rejects : {A B : Type 0} (first : Reporting A) (go : A → ℕ → Reporting B) → Refuses IfRejected first
    → ((a : A) (rest : ℕ) → Refuses IfRejected (go a rest)) → Refuses IfRejected (and_next first go)
on-rejects first go h k = next-refuses Any IfRejected first go (splits-any IfRejected first.0 h) (λ a rest u. k a rest)

-- ---- entries

entered-rejects : (S : Signature) (e : Entry) (r : Result Entered FamilyStop)
    → ((site : Site) (d : Denial) → r ≡ Err (family.Denied site d) → IsDenied (rejection S e d)) → IfErr (or_rejected S e r) IfRejected
entered-rejects S e (Ok a) h = tt
entered-rejects S e (Err (family.Stopped stop)) h = tt
entered-rejects S e (Err (family.Denied site d)) h = h site d refl
entered-rejects S e (Err (family.NotPositive n k)) h = tt
entered-rejects S e (Err (family.TooLarge o k)) h = tt
entered-rejects S e (Err family.BadFamily) h = tt
entered-rejects S e (Err family.Duplicate) h = tt

eliminator-rejects : (S : Signature) (n m : ℕ) (o : Option Family) (left : ℕ) → Refuses IfRejected (enter_eliminator S n m o left)
eliminator-rejects S n m None left = tt
eliminator-rejects S n m (Some f) left =
    on-rejects (entering S (EliminatorAt n m) (instance_of S n f m left)) _
    (entered-rejects S (EliminatorAt n m) (instance_of S n f m left).0 (λ site d is. of_eliminator S n m f left site d is refl)) (λ e rest. tt)

axiom_k-rejects : (S : Signature) (i m : ℕ) (on : Bool) (left : ℕ) → Refuses IfRejected (enter_axiom_k S i m on left)
axiom_k-rejects S i m true left =
    on-rejects (entering S (AxiomKAt i m) (axiom_k_of S i m left)) _
    (entered-rejects S (AxiomKAt i m) (axiom_k_of S i m left).0 (λ site d is. of_axiom_k S i m left site d is refl)) (λ e rest. tt)
axiom_k-rejects S i m false left = tt

-- a way to enter that only rejects an entry where the checker does
abbrev Rejects : Entering → Type 0
Rejects enter = (S : Signature) (d : Draft) (left : ℕ) → Refuses IfRejected (enter S d left)

generated-rejects : (enter : Entering) → Rejects enter → (S : Signature) (o : Option Generated) (left : ℕ)
    → Refuses IfRejected (enter_generated enter S o left)
generated-rejects enter h S None left = tt
generated-rejects enter h S (Some g) left =
    let made = generated_draft (length S.entries) g in
    on-rejects (answers (or_halts made) left) _ (halting-rejects made) (λ d rest. on-rejects (enter S d rest) _ (h S d rest) (λ e end. tt))

mention-rejects : (enter : Entering) → Rejects enter → (S : Signature) (m : Mention) (left : ℕ) → Refuses IfRejected (enter_mention enter S m left)
mention-rejects enter h S (Eliminates n m) left = eliminator-rejects S n m (family_at S n) left
mention-rejects enter h S (AssumesK i m) left = axiom_k-rejects S i m S.has_k left
mention-rejects enter h S (Names name) left = by (is_found (find S name))
  where
    by : (b : Bool) → Refuses IfRejected (cond b (answers (Ok S) left) (enter_generated enter S (generated_by S name) left))
    by true = tt
    by false = generated-rejects enter h S (generated_by S name) left

all-rejects : (enter : Entering) → Rejects enter → (S : Signature) (mentions : List Mention) (left : ℕ) → Refuses IfRejected (enter_all enter S mentions left)
all-rejects enter h S [] left = tt
all-rejects enter h S (m ∷ mentions) left =
    on-rejects (enter_mention enter S m left) _ (mention-rejects enter h S m left) (λ T rest. all-rejects enter h T mentions rest)

-- a draft by its numbers in a signature
pub draft-rejects : (T : Signature) (d : Draft) (left : ℕ) → Refuses IfRejected (enter_entry T (renumbered_entry (settled_number T d.base d.names) d.entry) left)
draft-rejects T d left = by (renumbered_entry (settled_number T d.base d.names) d.entry) refl
  where
    by : (e : Entry) → renumbered_entry (settled_number T d.base d.names) d.entry ≡ e → Refuses IfRejected (enter_entry T e left)
    by (Definition name type body) is =
        entered-rejects T (Definition name type body) (define_of T name type body left).0
        (λ site denial denied. of_draft T d name type body left site denial is denied refl)
    by (FamilyOf f) is = tt
    by (EliminatorAt n m) is = tt
    by (AxiomKAt i m) is = tt

with-rejects : (enter : Entering) → Rejects enter → Rejects (enter_with enter)
with-rejects enter h = λ S d left.
    on-rejects (enter_all enter S (mentioned d) left) _ (all-rejects enter h S (mentioned d) left) (λ T rest. draft-rejects T d rest)

chain-rejects : (chain : ℕ) → Rejects (enter_chain chain)
chain-rejects zero = λ S d left. with-rejects (λ T other rest. answers (Err (Halts Deep)) rest) (λ T other rest. tt) S d left
chain-rejects (suc chain) = λ S d left. with-rejects (enter_chain chain) (chain-rejects chain) S d left

needed-rejects : Rejects enter_needed
needed-rejects = λ S d left. chain-rejects longest_chain S d left

pub entering-rejects : (S : Signature) (d : Draft) (left : ℕ) → Refuses IfRejected (enter_draft_of S d left)
entering-rejects = λ S d left. with-rejects enter_needed needed-rejects S d left

pub mentioning-rejects : (S : Signature) (m : Mention) (left : ℕ) → Refuses IfRejected (enter_mention enter_needed S m left)
mentioning-rejects S m left = mention-rejects enter_needed needed-rejects S m left

pub needing-rejects : (S : Signature) (mentions : List Mention) (left : ℕ) → Refuses IfRejected (enter_all enter_needed S mentions left)
needing-rejects S mentions left = all-rejects enter_needed needed-rejects S mentions left

-- ---- walks through a tree

abbrev GoesOn : Walking → Type 0
GoesOn go = (p : Place) (left : ℕ) → Refuses IfRejected (go p left)

abbrev SplitsOn : Splitting → Type 0
SplitsOn split = (x : ℕ) (type : Term) (m : Member) → GoesOn (split x type m)

abbrev BranchesOn : Branching → Type 0
BranchesOn branch = (number : ℕ) (arguments : List Term) → GoesOn (branch number arguments)

member-rejects : (n : ℕ) (t : Term) (split : Splitting) → SplitsOn split → (x : ℕ) (type : Term) (o : Option Member) → GoesOn (at_member n t split x type o)
member-rejects n t split h x type None = λ p left. tt
member-rejects n t split h x type (Some m) = λ p left. by p left (m.n == n)
  where
    by : (p : Place) (left : ℕ) (b : Bool) → Refuses IfRejected (cond b (split x type m p left) (stuck_at t p left))
    by p left true = h x type m p left
    by p left false = tt

variable-rejects : (S : Signature) (n : ℕ) (t : Term) (split : Splitting) → SplitsOn split → (o : Option ℕ) → GoesOn (at_variable S n t split o)
variable-rejects S n t split h None = λ p left. tt
variable-rejects S n t split h (Some x) = λ p left.
    let reduced = whnf_of S true left (type_of_variable p.context x) in
    on-rejects (halting reduced) _ (halting-rejects reduced.0) (λ type rest. member-rejects n t split h x type (member_of S type) p rest)

other-rejects : (S : Signature) (n : ℕ) (t : Term) (split : Splitting) → SplitsOn split → GoesOn (at_other S n t split)
other-rejects S n t split h = λ p left.
    let tidied = tidy_of S left t in
    on-rejects (halting tidied) _ (halting-rejects tidied.0) (λ u rest. variable-rejects S n t split h (variable_in u) p rest)

head-rejects : (S : Signature) (n : ℕ) (t : Term) (branch : Branching) (split : Splitting) → BranchesOn branch → SplitsOn split → (o : Option Built)
    → GoesOn (at_head S n t branch split o)
head-rejects S n t branch split g h None = λ p left. other-rejects S n t split h p left
head-rejects S n t branch split g h (Some b) = λ p left. by p left (b.n == n)
  where
    by : (p : Place) (left : ℕ) (same : Bool)
        → Refuses IfRejected (cond same (branch b.number b.arguments p left) (at_other S n t split p left))
    by p left true = g b.number b.arguments p left
    by p left false = other-rejects S n t split h p left

split-rejects : (S : Signature) (n x : ℕ) (branch : Branching) (split : Splitting) → BranchesOn branch → SplitsOn split → GoesOn (at_split S n x branch split)
split-rejects S n x branch split g h = λ p left.
    let t = value_at p.values x in
    let reduced = whnf_of S true left t in
    on-rejects (halting reduced) _ (halting-rejects reduced.0) (λ w rest. head-rejects S n t branch split g h (built_of S w) p rest)

branch-rejects : (go : Walking) → GoesOn go → (p : Place) (o : Outcome) (others : ℕ → Reporting Proofs) → ((left : ℕ) → Refuses IfRejected (others left))
    → (left : ℕ) → Refuses IfRejected (solved_branch go p o others left)
branch-rejects go h p (outcome.Solved steps context solution) others k left =
    let made = bounded_place (moved_place p context solution) in
    on-rejects (answers (or_halts made) left) _ (halting-rejects made) (λ q rest.
    on-rejects (go q rest) _ (h q rest) (λ proof end. on-rejects (others end) _ (k end) (λ proofs last. tt)))
branch-rejects go h p (outcome.Absurd steps context u v) others k left = k left
branch-rejects go h p (outcome.Stuck steps context u v why) others k left = k left

branches-reject : (go : Walking) → GoesOn go → (p : Place) (runs : List Ran) (left : ℕ) → Refuses IfRejected (solved_branches go p runs left)
branches-reject go h p [] left = tt
branches-reject go h p (run ∷ runs) left = branch-rejects go h p run.outcome (solved_branches go p runs) (branches-reject go h p runs) left

runs-reject : (go : Walking) → GoesOn go → (x : ℕ) (type : Term) (p : Place) (look : Look (List Ran)) (left : ℕ)
    → Refuses IfRejected (with_runs go x type p look left)
runs-reject go h x type p (Found runs) left = on-rejects (solved_branches go p runs left) _ (branches-reject go h p runs left) (λ proofs rest. tt)
runs-reject go h x type p (Passed r) left = tt

halted-rejects : (e : TreeStop) → IfRejected (halted e)
halted-rejects (tree_stop.Halts e) = tt
halted-rejects (tree_stop.Stuck number context u v why) = tt
halted-rejects (tree_stop.Uncovered context terms) = tt
halted-rejects (tree_stop.NotAbsurd number n c) = tt
halted-rejects (tree_stop.Impossible number context u v) = tt
halted-rejects (tree_stop.WrongConstructor number context type) = tt
halted-rejects (tree_stop.Forced number context pat t) = tt

or_halted-rejects : {A : Type 0} (r : Result A TreeStop) → IfErr (or_halted r) IfRejected
or_halted-rejects (Ok a) = tt
or_halted-rejects (Err e) = halted-rejects e

variables-split : (S : Signature) (go : Walking) → GoesOn go → SplitsOn (split_variable S go)
variables-split S go h x type m = λ p left.
    let runs = run_all S p.context x m 0 m.family.constructors left in
    on-rejects (answers (or_halted runs.0) runs.1) _ (or_halted-rejects runs.0) (λ look rest. runs-reject go h x type p look rest)

again-rejects : (S : Signature) (n x : ℕ) (branch : Branching) → BranchesOn branch → GoesOn (looked_again S n x branch)
again-rejects S n x branch g = λ p left.
    split-rejects S n x branch (no_splitting (value_at p.values x)) g (λ y type m q rest. tt) p left

mutual
  pub walk-rejects : (S : Signature) (t : Tree) (p : Place) (left : ℕ) → Refuses IfRejected (walk_tree S t p left)
  walk-rejects S (tree.Leaf clause context goal substitution terms binds) p left = tt
  walk-rejects S (tree.Split context x n type branches) p left =
      split-rejects S n x (take_branch S branches) (split_variable S (looked_again S n x (take_branch S branches))) (taken-rejects S branches)
      (variables-split S (looked_again S n x (take_branch S branches)) (again-rejects S n x (take_branch S branches) (taken-rejects S branches))) p left

  taken-rejects : (S : Signature) (branches : Branches) (number : ℕ) (arguments : List Term) (p : Place) (left : ℕ)
      → Refuses IfRejected (take_branch S branches number arguments p left)
  taken-rejects S tree.nil number arguments p left = tt
  taken-rejects S (tree.cons branch branches) zero arguments p left = entered-branch S branch arguments p left
  taken-rejects S (tree.cons branch branches) (suc number) arguments p left = taken-rejects S branches number arguments p left

  entered-branch : (S : Signature) (branch : Branch) (arguments : List Term) (p : Place) (left : ℕ)
      → Refuses IfRejected (enter_branch S branch arguments p left)
  entered-branch S (tree.Absurd steps context u v) arguments p left = tt
  entered-branch S (tree.Solved steps origins subtree) arguments p left = walk-rejects S subtree _ left
