-- What a walk through a tree comes to: its places are scoped, and a split has the runs of all constructors, of which each that is solved
-- is followed by a proof over its context.
use Rattle.std.proofs.Common.{◌≡◌, ℕ, zero, suc, ◌+◌, ◌<◌, ◌==◌, ◌&&◌, Bool, true, false, cond, Option, Some, None, Result, Ok, Err, IfOk, List, [], ◌∷◌, length, map, slice_get, All, refl, sym, ap, ◌∙◌, subst as transport, arith}
use Rattle.theory.specs.Terms.{Term}
use Rattle.theory.specs.Telescopes.{Telescope}
use Rattle.theory.specs.Families.{Constructor}
use Rattle.theory.specs.Signatures.{Signature}
use Rattle.theory.specs.SignatureScopes.{IsScoped, IsScopedTelescope}
use Rattle.core_terms.specs.Answers.{and_next, are_low, is_low}
use Rattle.core_terms.specs.CaseTrees as tree
use Rattle.core_terms.specs.CaseTrees.{Step, Tree, Branch, Branches}
use Rattle.core_terms.specs.declared.stop.Stop.{Stop}
use Rattle.core_terms.specs.declared.stop.Stop.TheVariants.{Deep}
use Rattle.core_terms.proofs.Answers.{Answers, and_next-has}
use Rattle.kernel_reduce.specs.Reduction.{whnf_of}
use Rattle.kernel_reduce.specs.Tidying.{tidy_of}
use Rattle.kernel_reduce.proofs.ScopedReduction.{whnf-scoped}
use Rattle.unification.specs.Built.{Built, built_of}
use Rattle.unification.specs.Outcomes as outcome
use Rattle.unification.specs.Outcomes.{Outcome, steps_in}
use Rattle.unification.specs.ScopedStates.{IsReady, IsScopedOutcome}
use Rattle.unification.specs.Solutions.{variable_in}
use Rattle.unification.proofs.OutcomeScopes.{outcome-scoped}
use Rattle.unification.proofs.Variables.{variable-low}
use Rattle.case_trees.specs.Looking.{Look, Found, Passed, Ran, run_all}
use Rattle.case_trees.specs.Problems.{Member, member_of, problem_of, type_of_variable}
use Rattle.case_trees.specs.Standing.{Runs}
use Rattle.case_trees.specs.Stops.{TreeStop}
use Rattle.case_trees.proofs.Answered.{Holds}
use Rattle.case_trees.proofs.Running.{AllRun, IsNotStuck, RunHas, all-run}
use Rattle.case_trees.proofs.ScopedPoints.{built-parts}
use Rattle.case_trees.proofs.ScopedProblems.{member-in, problem-scoped, type_of-scoped}
use Rattle.clause_reports.specs.ProofWalks.{Place, Proof, Ends, Splits, Proofs, nil, cons, Branching, Splitting, Walking, at_head, at_member, at_other, at_split, at_variable, bounded_place, enter_branch, looked_again, moved_place, no_splitting, or_halted, solved_branch, solved_branches, split_variable, stuck_at, take_branch, value_at, walk_tree, with_runs}
use Rattle.clause_reports.specs.Stops.{Reporting, answers, halting, or_halts}
use Rattle.clause_walks.specs.PairConditions.{IsSolvedIn}
use Rattle.proof_walks.specs.PlaceScopes.{IsScopedPlace}
use Rattle.proof_walks.proofs.KeptPlaces.{origins-scoped, value-scoped, moved-scoped}

-- ---- proofs

-- the place of a proof
abbrev pub place_in : Proof → Place
place_in (Ends clause p) = p
place_in (Splits p x type runs proofs) = p

mutual
  pub data IsProof (S : Signature) : Proof → Type 0 where
    ends : (clause : ℕ) (p : Place) → IsScopedPlace S p → IsProof S (Ends clause p)
    splits : (p : Place) (x : ℕ) (type : Term) (m : Member) (runs : List (List Step)) (proofs : Proofs) → IsScopedPlace S p → x < length p.context
        → IsScoped S (length p.context) type → member_of S type ≡ Some m → AreProofs S p x m 0 m.family.constructors runs proofs
        → IsProof S (Splits p x type runs proofs)

  -- those after the runs of the constructors from a number on
  pub data AreProofs (S : Signature) : Place → ℕ → Member → ℕ → List Constructor → List (List Step) → Proofs → Type 0 where
    none : (p : Place) (x : ℕ) (m : Member) (number : ℕ) → AreProofs S p x m number [] [] nil
    absurd_run : (p : Place) (x : ℕ) (m : Member) (number : ℕ) (c : Constructor) (cs : List Constructor) (steps : List Step) (context : Telescope) (u v : Term)
        (runs : List (List Step)) (proofs : Proofs) → Runs S (problem_of p.context x m number c) (outcome.Absurd steps context u v)
        → AreProofs S p x m (number + 1) cs runs proofs → AreProofs S p x m number (c ∷ cs) (steps ∷ runs) proofs
    solved_run : (p : Place) (x : ℕ) (m : Member) (number : ℕ) (c : Constructor) (cs : List Constructor) (steps : List Step) (context : Telescope)
        (solution : List Term) (proof : Proof) (runs : List (List Step)) (proofs : Proofs)
        → Runs S (problem_of p.context x m number c) (outcome.Solved steps context solution) → IsProof S proof → (place_in proof).context ≡ context
        → AreProofs S p x m (number + 1) cs runs proofs → AreProofs S p x m number (c ∷ cs) (steps ∷ runs) (cons proof proofs)

-- a proof from a context on
pub record IsProofOver (S : Signature) (context : Telescope) (proof : Proof) : Type 0 where
  pub made : IsProof S proof
  pub over : (place_in proof).context ≡ context

-- ---- the walk

halted : {A : Type 0} (P : A → Type 0) (r : Result A Stop) → IfOk r P → IfOk (or_halts r) P
halted P (Ok a) h = h
halted P (Err e) h = tt

bounded-is : (p : Place) (P : Place → Type 0) → P p → IfOk (or_halts (bounded_place p)) P
bounded-is p P h =
    halted P (bounded_place p)
    (by (are_low p.context && (is_low p.type && (is_low p.left && (is_low p.right && (are_low p.terms && are_low p.values))))))
  where
    by : (b : Bool) → (let answer : Result Place Stop = cond b (Ok p) (Err Deep) in IfOk answer P)
    by true = h
    by false = tt

-- the constructors from a number on
abbrev pub AreFrom : Member → (number : ℕ) → List Constructor → Type 0
AreFrom m number cs = (j : ℕ) (c : Constructor) → slice_get cs j ≡ Some c → slice_get m.family.constructors (number + j) ≡ Some c

pub from-next : (m : Member) (number : ℕ) (c : Constructor) (cs : List Constructor) → AreFrom m number (c ∷ cs) → AreFrom m (number + 1) cs
from-next m number c cs h j d e =
    let next : number + suc j ≡ number + 1 + j = omega arith in ap (slice_get m.family.constructors) (sym next) ∙ h (suc j) d e

pub from-first : (m : Member) (number : ℕ) (c : Constructor) (cs : List Constructor) → AreFrom m number (c ∷ cs) → slice_get m.family.constructors number ≡ Some c
from-first m number c cs h = let place : number + 0 ≡ number = omega arith in ap (slice_get m.family.constructors) (sym place) ∙ h 0 c refl

abbrev runs_in : List Ran → List (List Step)
runs_in runs = map (λ (run : Ran). steps_in run.outcome) runs

module _ (S : Signature) (ready : IsReady S) where
  abbrev Leads : Place → Reporting Proof → Type 0
  Leads p r = Answers (IsProofOver S p.context) r

  abbrev IsWalking : Walking → Type 0
  IsWalking go = (p : Place) (left : ℕ) → IsScopedPlace S p → Leads p (go p left)

  abbrev IsBranching : Branching → Type 0
  IsBranching branch =
      (number : ℕ) (arguments : List Term) (p : Place) (left : ℕ) → IsScopedPlace S p → All (IsScoped S (length p.context)) arguments →
      Leads p (branch number arguments p left)

  abbrev IsSplitting : Splitting → Type 0
  IsSplitting split =
      (x : ℕ) (type : Term) (m : Member) (p : Place) (left : ℕ) → IsScopedPlace S p → x < length p.context → IsScoped S (length p.context) type →
      member_of S type ≡ Some m → Leads p (split x type m p left)

  reduced : (delta : Bool) (n : ℕ) (t : Term) (left : ℕ) → IsScoped S n t → Answers (IsScoped S n) (halting (whnf_of S delta left t))
  reduced delta n t left h = halted (IsScoped S n) (whnf_of S delta left t).0 (whnf-scoped S delta left n t ready.scoped h)

  -- ---- looking at a split

  member-leads : (n : ℕ) (t : Term) (split : Splitting) → IsSplitting split → (x : ℕ) (type : Term) (o : Option Member) → member_of S type ≡ o
      → (p : Place) (left : ℕ) → IsScopedPlace S p → x < length p.context → IsScoped S (length p.context) type → Leads p (at_member n t split x type o p left)
  member-leads n t split h x type None e p left is low scoped = tt
  member-leads n t split h x type (Some m) e p left is low scoped = by (m.n == n)
    where
      by : (b : Bool) → Leads p (cond b (split x type m p left) (stuck_at t p left))
      by true = h x type m p left is low scoped e
      by false = tt

  variable-leads : (n : ℕ) (t : Term) (split : Splitting) → IsSplitting split → (u : Term) (o : Option ℕ) → variable_in u ≡ o → (p : Place) (left : ℕ)
      → IsScopedPlace S p → IsScoped S (length p.context) u → Leads p (at_variable S n t split o p left)
  variable-leads n t split h u None e p left is scoped = tt
  variable-leads n t split h u (Some x) e p left is scoped =
      let low = variable-low S (length p.context) u x e scoped in
      and_next-has (IsScoped S (length p.context)) (IsProofOver S p.context) (halting (whnf_of S true left (type_of_variable p.context x))) _
      (reduced true (length p.context) (type_of_variable p.context x) left (type_of-scoped S p.context x is.context low))
      (λ type rest k. member-leads n t split h x type (member_of S type) refl p rest is low k)

  other-leads : (n : ℕ) (t : Term) (split : Splitting) → IsSplitting split → (p : Place) (left : ℕ) → IsScopedPlace S p → IsScoped S (length p.context) t
      → Leads p (at_other S n t split p left)
  other-leads n t split h p left is scoped =
      and_next-has (IsScoped S (length p.context)) (IsProofOver S p.context) (halting (tidy_of S left t)) _
      (reduced false (length p.context) t left scoped)
      (λ u rest k. variable-leads n t split h u (variable_in u) refl p rest is k)

  head-leads : (n : ℕ) (t : Term) (branch : Branching) (split : Splitting) → IsBranching branch → IsSplitting split → (w : Term) (o : Option Built) → built_of S w ≡ o
      → (p : Place) (left : ℕ) → IsScopedPlace S p → IsScoped S (length p.context) t → IsScoped S (length p.context) w
      → Leads p (at_head S n t branch split o p left)
  head-leads n t branch split g h w None e p left is scoped k = other-leads n t split h p left is scoped
  head-leads n t branch split g h w (Some b) e p left is scoped k = by (b.n == n)
    where
      by : (there : Bool) → Leads p (cond there (branch b.number b.arguments p left) (at_other S n t split p left))
      by true = g b.number b.arguments p left is (built-parts S (length p.context) w b k e).arguments
      by false = other-leads n t split h p left is scoped

  split-leads : (n x : ℕ) (branch : Branching) (split : Splitting) → IsBranching branch → IsSplitting split → IsWalking (at_split S n x branch split)
  split-leads n x branch split g h p left is =
      let t = value_at p.values x in
      let scoped = value-scoped S (length p.context) p.values x is.values in
      and_next-has (IsScoped S (length p.context)) (IsProofOver S p.context) (halting (whnf_of S true left t)) _ (reduced true (length p.context) t left scoped)
      (λ w rest k. head-leads n t branch split g h w (built_of S w) refl p rest is scoped k)

  -- ---- splitting a variable

  solved-in : (context : Telescope) (x : ℕ) (type : Term) (m : Member) (number : ℕ) (c : Constructor) (steps : List Step) (next : Telescope) (solution : List Term)
      → IsScopedTelescope S 0 context → x < length context → IsScoped S (length context) type → member_of S type ≡ Some m
      → slice_get m.family.constructors number ≡ Some c → Runs S (problem_of context x m number c) (outcome.Solved steps next solution)
      → IsSolvedIn S next solution
  solved-in context x type m number c steps next solution h low scoped e there runs =
      let p = problem_of context x m number c in
      let is : IsScopedOutcome S (length p.context) (outcome.Solved steps next solution) =
      transport (λ r. IfOk r (IsScopedOutcome S (length p.context))) runs.run
      (outcome-scoped S p runs.units ready
      (problem-scoped S context x m number c ready h low (member-in S (length context) type m scoped e) there)) in
      record { context = is.1; solution = is.2 }

  module _ (go : Walking) (walks : IsWalking go) (p : Place) (is : IsScopedPlace S p) (x : ℕ) (type : Term) (m : Member) (low : x < length p.context)
      (scoped : IsScoped S (length p.context) type) (found : member_of S type ≡ Some m) where
    abbrev Lead : (number : ℕ) → List Constructor → List (List Step) → Reporting Proofs → Type 0
    Lead number cs runs r = Answers (AreProofs S p x m number cs runs) r

    branch-leads : (number : ℕ) (c : Constructor) (cs : List Constructor) (runs : List (List Step)) (o : Outcome) (others : ℕ → Reporting Proofs)
        → slice_get m.family.constructors number ≡ Some c → Runs S (problem_of p.context x m number c) o → IsNotStuck o
        → ((left : ℕ) → Lead (number + 1) cs runs (others left)) → (left : ℕ) → Lead number (c ∷ cs) (steps_in o ∷ runs) (solved_branch go p o others left)
    branch-leads number c cs runs (outcome.Solved steps context solution) others there ran goes rest left =
        let q = moved_place p context solution in
        let at : IsScopedPlace S q = moved-scoped S p context solution is (solved-in p.context x type m number c steps context solution is.context low scoped found there ran) in
        let P = AreProofs S p x m number (c ∷ cs) (steps ∷ runs) in
        and_next-has (λ (r : Place). IsScopedPlace S r × (r.context ≡ context)) P (answers (or_halts (bounded_place q)) left) _
        (bounded-is q (λ (r : Place). IsScopedPlace S r × (r.context ≡ context)) (at, refl)) (λ r next k.
        and_next-has (IsProofOver S r.context) P (go r next) _ (walks r next k.0) (λ proof end made.
        and_next-has (AreProofs S p x m (number + 1) cs runs) P (others end) _ (rest end) (λ proofs last all.
        solved_run p x m number c cs steps context solution proof runs proofs ran made.made (made.over ∙ k.1) all)))
    branch-leads number c cs runs (outcome.Absurd steps context u v) others there ran goes rest left = by (others left).0 (rest left)
      where
        by : {E : Type 0} (r : Result Proofs E) → IfOk r (AreProofs S p x m (number + 1) cs runs) → IfOk r (AreProofs S p x m number (c ∷ cs) (steps ∷ runs))
        by (Ok proofs) h = absurd_run p x m number c cs steps context u v runs proofs ran h
        by (Err e) h = tt
    branch-leads number c cs runs (outcome.Stuck steps context u v why) others there ran goes rest left = absurd goes

    branches-lead : (number : ℕ) (cs : List Constructor) (runs : List Ran) → AreFrom m number cs → AllRun S p.context x m number cs runs → (left : ℕ)
        → Lead number cs (runs_in runs) (solved_branches go p runs left)
    branches-lead number [] [] from all left = none p x m number
    branches-lead number [] (run ∷ runs) from all left = absurd all
    branches-lead number (c ∷ cs) [] from all left = absurd all
    branches-lead number (c ∷ cs) (run ∷ runs) from all left =
        branch-leads number c cs (runs_in runs) run.outcome (solved_branches go p runs) (from-first m number c cs from) all.0.runs all.0.not_stuck
        (λ rest. branches-lead (number + 1) cs runs (from-next m number c cs from) all.1 rest) left

    runs-lead : (r : Result (Look (List Ran)) TreeStop) (left : ℕ) → Holds (RunHas S p.context x m 0 m.family.constructors) (λ e. Unit {0}) r
        → Leads p (and_next (answers (or_halted r) left) (with_runs go x type p))
    runs-lead (Ok (Found runs)) left all =
        and_next-has (AreProofs S p x m 0 m.family.constructors (runs_in runs)) (IsProofOver S p.context) (solved_branches go p runs left) _
        (branches-lead 0 m.family.constructors runs
        (λ j c e. let place : j ≡ 0 + j = omega arith in ap (slice_get m.family.constructors) (sym place) ∙ e) all left)
        (λ proofs rest h. record { made = splits p x type m (runs_in runs) proofs is low scoped found h; over = refl })
    runs-lead (Ok (Passed r)) left all = tt
    runs-lead (Err e) left all = tt

  variable-splits : (go : Walking) → IsWalking go → IsSplitting (split_variable S go)
  variable-splits go walks x type m p left is low scoped found =
      let runs = run_all S p.context x m 0 m.family.constructors left in
      runs-lead go walks p is x type m low scoped found runs.0 runs.1
      (all-run S p.context x m 0 m.family.constructors left (λ e. Unit {0}) (λ e. tt))

  none-splits : (t : Term) → IsSplitting (no_splitting t)
  none-splits t x type m p left is low scoped found = tt

  again-leads : (n x : ℕ) (branch : Branching) → IsBranching branch → IsWalking (looked_again S n x branch)
  again-leads n x branch g p left is =
      split-leads n x branch (no_splitting (value_at p.values x)) g (none-splits (value_at p.values x)) p left is

  -- ---- the walk

  mutual
    tree-leads : (t : Tree) → IsWalking (walk_tree S t)
    tree-leads (tree.Leaf clause context goal substitution terms binds) p left is = record { made = ends clause p is; over = refl }
    tree-leads (tree.Split context x n type branches) p left is =
        split-leads n x (take_branch S branches) (split_variable S (looked_again S n x (take_branch S branches))) (take-leads branches)
        (variable-splits (looked_again S n x (take_branch S branches)) (again-leads n x (take_branch S branches) (take-leads branches))) p left is

    take-leads : (branches : Branches) → IsBranching (take_branch S branches)
    take-leads tree.nil number arguments p left is scoped = tt
    take-leads (tree.cons branch branches) zero arguments p left is scoped = enter-leads branch arguments p left is scoped
    take-leads (tree.cons branch branches) (suc number) arguments p left is scoped = take-leads branches number arguments p left is scoped

    enter-leads : (branch : Branch) (arguments : List Term) (p : Place) (left : ℕ) → IsScopedPlace S p → All (IsScoped S (length p.context)) arguments
        → Leads p (enter_branch S branch arguments p left)
    enter-leads (tree.Absurd steps context u v) arguments p left is scoped = tt
    enter-leads (tree.Solved steps origins subtree) arguments p left is scoped =
        tree-leads subtree _ left
        (record {
          context = is.context;
          type = is.type;
          left = is.left;
          right = is.right;
          terms = is.terms;
          values = origins-scoped S (length p.context) p.values arguments is.values scoped origins;
        })

-- a walk from a scoped place on
pub walk-proves : (S : Signature) (t : Tree) (p : Place) (left : ℕ) → IsReady S → IsScopedPlace S p → Answers (IsProofOver S p.context) (walk_tree S t p left)
walk-proves S t p left ready is = tree-leads S ready t p left is
