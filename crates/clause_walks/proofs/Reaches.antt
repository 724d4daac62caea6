-- A walk and a tree look for an open pair as the code does, and go on from what is reached there.
use Rattle.std.proofs.Common.{◌≡◌, ℕ, ◌+◌, true, false, Option, Some, None, Result, Ok, Err, List, [], ◌∷◌, map, slice_get, refl, sym, ap, ◌∙◌}
use Rattle.theory.specs.Terms.{Term}
use Rattle.theory.specs.Telescopes.{Telescope}
use Rattle.theory.specs.Families.{Constructor}
use Rattle.theory.specs.Signatures.{Signature}
use Rattle.core_terms.specs.Answers.{on_answer, and_next, and_then}
use Rattle.core_terms.specs.Patterns as pattern
use Rattle.core_terms.specs.Patterns.{Pat}
use Rattle.core_terms.specs.declared.stop.Stop.{Stop}
use Rattle.kernel_reduce.specs.Tidying.{tidy_of}
use Rattle.unification.specs.Outcomes as outcome
use Rattle.unification.specs.Outcomes.{Outcome}
use Rattle.unification.specs.Runs.{unify_of}
use Rattle.unification.specs.Solutions.{variable_in}
use Rattle.case_trees.specs.Pairs.{Pairs, or_later}
use Rattle.case_trees.specs.Points.{Point, solution_for}
use Rattle.case_trees.specs.Problems.{problem_of}
use Rattle.case_trees.specs.Stops.{TreeStop, Stopping, or_halts, answers, Forced}
use Rattle.case_trees.specs.Looking.{Look, Found, Passed, Looked, StuckRun, Ran, stuck_at, Further, behind_look, at_open, first_found, look_at_type, unless_stuck, run_all}
use Rattle.case_trees.specs.OwnWalks as walk
use Rattle.case_trees.specs.OwnWalks.{Turn, Ends, solved_pairs, or_first, first_solved, no_constructor, absurd_outcome, own_outcome, run_own, run_pattern}
use Rattle.case_trees.specs.Trees as tree
use Rattle.case_trees.specs.Trees.{SplitAt, as_split}
use Rattle.clause_walks.specs.CodeWalks.{first_solved_end, unless_solved, turn_at}
use Rattle.clause_walks.specs.Reaching.{Reached, end_of_run, with_ends, wanted_of, run_wanted, reached_by, reach_from, reach, reached_split}

-- ---- two ways to look that lead to the same

abbrev Going : (A C : Type 0) → Type 0
Going A C = A → ℕ → Stopping C

abbrev on_look : {A C : Type 0} → Going A C → Going StuckRun C → Going (Look A) C
on_look go passed (Found a) left = go a left
on_look go passed (Passed r) left = passed r left

abbrev Looking : Type 0 → Type 0
Looking A = Pat → ℕ → ℕ → Stopping (Look A)

abbrev Agree : {A B C : Type 0} → Looking A → Going A C → Looking B → Going B C → Type 0
Agree {A} {B} {C} look go look' go' =
    (pat : Pat) (x left : ℕ) (passed : Going StuckRun C) → and_next (look pat x left) (on_look go passed) ≡ and_next (look' pat x left) (on_look go' passed)

look-out : {A C : Type 0} (clause : ℕ) (go : Going A C) (further : Further A) (stuck forced : Option TreeStop) (r : Result (Look A) TreeStop) (left : ℕ)
    → and_next (on_answer r left (behind_look clause further stuck forced)) go
    ≡ on_answer r left (on_look go (λ s rest. and_next (further (or_later stuck (Some (stuck_at clause s))) forced rest) go))
look-out clause go further stuck forced (Err e) left = refl
look-out clause go further stuck forced (Ok (Found a)) left = refl
look-out clause go further stuck forced (Ok (Passed s)) left = refl

look-in : {B C : Type 0} (clause : ℕ) (go : Going B C) (further : Further B) (passed : Going StuckRun C) (stuck forced : Option TreeStop)
    (r : Result (Look B) TreeStop) (left : ℕ)
    → ((s : StuckRun) → passed s left ≡ and_next (further (or_later stuck (Some (stuck_at clause s))) forced left) go)
    → on_answer r left (on_look go passed) ≡ and_next (on_answer r left (behind_look clause further stuck forced)) go
look-in clause go further passed stuck forced (Err e) left same = refl
look-in clause go further passed stuck forced (Ok (Found a)) left same = refl
look-in clause go further passed stuck forced (Ok (Passed s)) left same = same s

-- the further search leads to the same
abbrev Same : {A B C : Type 0} → Further A → Going A C → Further B → Going B C → Type 0
Same further go further' go' = (stuck forced : Option TreeStop) (left : ℕ) → and_next (further stuck forced left) go ≡ and_next (further' stuck forced left) go'

open-agrees : {A B C : Type 0} (clause : ℕ) (context : Telescope) (look : Looking A) (go : Going A C) (look' : Looking B) (go' : Going B C)
    (further : Further A) (further' : Further B) (pat : Pat) (u : Term) (x : Option ℕ) (stuck forced : Option TreeStop) (rest : ℕ)
    → Agree look go look' go' → Same further go further' go'
    → and_next (at_open clause context look further pat u x stuck forced rest) go ≡ and_next (at_open clause context look' further' pat u x stuck forced rest) go'
open-agrees clause context look go look' go' further further' pat u None stuck forced rest agree more =
    more stuck (or_later forced (Some (Forced clause context pat u))) rest
open-agrees clause context look go look' go' further further' pat u (Some x) stuck forced rest agree more =
    look-out clause go further stuck forced (look pat x rest).0 (look pat x rest).1
    ∙ (agree pat x rest (λ s end. and_next (further (or_later stuck (Some (stuck_at clause s))) forced end) go)
    ∙ look-in clause go' further' (λ s end. and_next (further (or_later stuck (Some (stuck_at clause s))) forced end) go) stuck forced
    (look' pat x rest).0 (look' pat x rest).1 (λ s. more (or_later stuck (Some (stuck_at clause s))) forced (look' pat x rest).1))

tidied-agrees : {A B C : Type 0} (clause : ℕ) (context : Telescope) (look : Looking A) (go : Going A C) (look' : Looking B) (go' : Going B C)
    (further : Further A) (further' : Further B) (pat : Pat) (stuck forced : Option TreeStop) (r : Result Term Stop) (rest : ℕ)
    → Agree look go look' go' → Same further go further' go'
    → and_next (on_answer (or_halts r) rest (λ u end. at_open clause context look further pat u (variable_in u) stuck forced end)) go
    ≡ and_next (on_answer (or_halts r) rest (λ u end. at_open clause context look' further' pat u (variable_in u) stuck forced end)) go'
tidied-agrees clause context look go look' go' further further' pat stuck forced (Err e) rest agree more = refl
tidied-agrees clause context look go look' go' further further' pat stuck forced (Ok u) rest agree more =
    open-agrees clause context look go look' go' further further' pat u (variable_in u) stuck forced rest agree more

first-agrees : {A B C : Type 0} (S : Signature) (clause : ℕ) (context : Telescope) (look : Looking A) (go : Going A C) (look' : Looking B) (go' : Going B C)
    (pairs : List (Pat × Term)) → Agree look go look' go' → Same (first_found S clause context look pairs) go (first_found S clause context look' pairs) go'
first-agrees S clause context look go look' go' [] agree stuck forced left = refl
first-agrees S clause context look go look' go' (pair ∷ pairs) agree stuck forced left =
    tidied-agrees clause context look go look' go' (first_found S clause context look pairs) (first_found S clause context look' pairs) pair.0 stuck forced
    (tidy_of S left pair.1).0 (tidy_of S left pair.1).1 agree (first-agrees S clause context look go look' go' pairs agree)

-- ---- a tree

tree-runs : {C : Type 0} (go : Going Reached C) (passed : Going StuckRun C) (x : ℕ) (found : Looked) (r : Result (Look (List Ran)) TreeStop) (left : ℕ)
    → and_next (on_answer r left (λ runs end. answers (Ok (as_split x found runs)) end)) (on_look (λ s rest. go (reached_split s) rest) passed)
    ≡ and_next (on_answer r left (λ runs end. answers (Ok (reached_by x found.type found.member.n None (with_ends [] runs))) end)) (on_look go passed)
tree-runs go passed x found (Err e) left = refl
tree-runs go passed x found (Ok (Found runs)) left = refl
tree-runs go passed x found (Ok (Passed s)) left = refl

all-wanted : (pat : Pat) → wanted_of false pat ≡ None
all-wanted (pattern.Con n number pats) = refl
all-wanted pattern.Bind = refl
all-wanted pattern.Wild = refl
all-wanted (pattern.Dot written) = refl
all-wanted pattern.Absurd = refl

tree-agrees : {C : Type 0} (S : Signature) (clause : ℕ) (context : Telescope) (go : Going Reached C)
    → Agree (tree.look S clause context) (λ s rest. go (reached_split s) rest) (reach S false clause context) go
tree-agrees S clause context go pat x left passed = by (look_at_type S clause context pat x left).0 (look_at_type S clause context pat x left).1
  where
    by : (r : Result Looked TreeStop) (rest : ℕ)
        → and_next (on_answer r rest (λ found rest.
        and_next (run_all S context x found.member 0 found.member.family.constructors rest) (λ runs end. answers (Ok (as_split x found runs)) end)))
        (on_look (λ s rest. go (reached_split s) rest) passed)
        ≡ and_next (on_answer r rest (λ found rest. reach_from S clause context x found (wanted_of false pat) rest)) (on_look go passed)
    by (Err e) rest = refl
    by (Ok found) rest =
        tree-runs go passed x found (run_all S context x found.member 0 found.member.family.constructors rest).0
        (run_all S context x found.member 0 found.member.family.constructors rest).1
        ∙ ap (λ wanted. and_next (reach_from S clause context x found wanted rest) (on_look go passed)) (sym (all-wanted pat))

-- the looking of a tree
pub tree-reaches : {C : Type 0} (S : Signature) (clause : ℕ) (context : Telescope) (pairs : List (Pat × Term)) (stuck forced : Option TreeStop) (left : ℕ)
    (go : Reached → ℕ → Stopping C)
    → and_next (first_found S clause context (tree.look S clause context) pairs stuck forced left) (λ s rest. go (reached_split s) rest)
    ≡ and_next (first_found S clause context (reach S false clause context) pairs stuck forced left) go
tree-reaches S clause context pairs stuck forced left go =
    first-agrees S clause context (tree.look S clause context) (λ s rest. go (reached_split s) rest) (reach S false clause context) go pairs
    (tree-agrees S clause context go) stuck forced left

-- ---- a walk

solved-ends : (number : ℕ) (runs : List Ran) → first_solved number runs ≡ first_solved_end number (map end_of_run runs)
solved-ends number [] = refl
solved-ends number (run ∷ runs) = ap (or_first run.outcome number) (solved-ends (number + 1) runs)

module _ {C : Type 0} (S : Signature) (clause : ℕ) (p : Point) (pairs : Pairs) (go : Turn → ℕ → Stopping C) where
  -- how the walk goes on from the reached variable
  abbrev turned : Going Reached C
  turned r rest = and_next (answers (turn_at clause p pairs r) rest) go

  -- the absurd pattern
  ends-turn : (passed : Going StuckRun C) (n : ℕ) (k : Option ℕ) (left : ℕ)
      → and_next (answers (no_constructor clause n k) left) (on_look go passed) ≡ and_next (answers (unless_solved clause n k) left) go
  ends-turn passed n None left = refl
  ends-turn passed n (Some number) left = refl

  absurd-turns : (passed : Going StuckRun C) (x : ℕ) (found : Looked) (r : Result (Look (List Ran)) TreeStop) (left : ℕ)
      → and_next (on_answer r left (λ runs rest. answers (absurd_outcome clause found.member.n runs) rest)) (on_look go passed)
      ≡ and_next (on_answer r left (λ runs rest. answers (Ok (reached_by x found.type found.member.n None (with_ends [] runs))) rest)) (on_look turned passed)
  absurd-turns passed x found (Err e) left = refl
  absurd-turns passed x found (Ok (Passed s)) left = refl
  absurd-turns passed x found (Ok (Found runs)) left =
      ap (λ k. and_next (answers (no_constructor clause found.member.n k) left) (on_look go passed)) (solved-ends 0 runs)
      ∙ ends-turn passed found.member.n (first_solved_end 0 (map end_of_run runs)) left

  -- a constructor pattern
  solved-turn : (passed : Going StuckRun C) (r : Result Turn Stop) (left : ℕ)
      → and_next (answers (and_then (or_halts r) (λ turn. Ok (Found turn))) left) (on_look go passed) ≡ and_next (answers (or_halts r) left) go
  solved-turn passed (Ok turn) left = refl
  solved-turn passed (Err e) left = refl

  own-turns : (passed : Going StuckRun C) (x : ℕ) (found : Looked) (number : ℕ) (c : Constructor) (r : Result Outcome Stop) (left : ℕ)
      → and_next (on_answer (or_halts r) left (λ o rest. answers (own_outcome clause p pairs o) rest)) (on_look go passed)
      ≡ and_next (and_next (on_answer (or_halts r) left (unless_stuck c (problem_of p.context x found.member number c) (λ end. answers (Ok (Found [])) end)))
      (λ runs rest. answers (Ok (reached_by x found.type found.member.n (Some number) (with_ends [] runs))) rest)) (on_look turned passed)
  own-turns passed x found number c (Err e) left = refl
  own-turns passed x found number c (Ok (outcome.Stuck steps context u v why)) left = refl
  own-turns passed x found number c (Ok (outcome.Absurd steps context u v)) left = refl
  own-turns passed x found number c (Ok (outcome.Solved steps context solution)) left =
      solved-turn passed (solved_pairs p pairs context (solution_for p solution)) left

  wanted-turns : (passed : Going StuckRun C) (x : ℕ) (found : Looked) (number : ℕ) (c : Option Constructor) (left : ℕ)
      → and_next (run_own S clause p pairs x found number c left) (on_look go passed)
      ≡ and_next (and_next (run_wanted S clause p.context x found number c left)
      (λ runs rest. answers (Ok (reached_by x found.type found.member.n (Some number) (with_ends [] runs))) rest)) (on_look turned passed)
  wanted-turns passed x found number None left = refl
  wanted-turns passed x found number (Some c) left =
      own-turns passed x found number c (unify_of S (problem_of p.context x found.member number c) left).0
      (unify_of S (problem_of p.context x found.member number c) left).1

  pattern-turns : (passed : Going StuckRun C) (x : ℕ) (found : Looked) (pat : Pat) (left : ℕ)
      → and_next (run_pattern S clause p pairs x found pat left) (on_look go passed)
      ≡ and_next (reach_from S clause p.context x found (wanted_of true pat) left) (on_look turned passed)
  pattern-turns passed x found (pattern.Con n number pats) left =
      wanted-turns passed x found number (slice_get found.member.family.constructors number) left
  pattern-turns passed x found pattern.Absurd left =
      absurd-turns passed x found (run_all S p.context x found.member 0 found.member.family.constructors left).0
      (run_all S p.context x found.member 0 found.member.family.constructors left).1
  pattern-turns passed x found pattern.Bind left =
      absurd-turns passed x found (run_all S p.context x found.member 0 found.member.family.constructors left).0
      (run_all S p.context x found.member 0 found.member.family.constructors left).1
  pattern-turns passed x found pattern.Wild left =
      absurd-turns passed x found (run_all S p.context x found.member 0 found.member.family.constructors left).0
      (run_all S p.context x found.member 0 found.member.family.constructors left).1
  pattern-turns passed x found (pattern.Dot written) left =
      absurd-turns passed x found (run_all S p.context x found.member 0 found.member.family.constructors left).0
      (run_all S p.context x found.member 0 found.member.family.constructors left).1

  walk-agrees : Agree (walk.look S clause p pairs) go (reach S true clause p.context) turned
  walk-agrees pat x left passed = by (look_at_type S clause p.context pat x left).0 (look_at_type S clause p.context pat x left).1
    where
      by : (r : Result Looked TreeStop) (rest : ℕ)
          → and_next (on_answer r rest (λ found rest. run_pattern S clause p pairs x found pat rest)) (on_look go passed)
          ≡ and_next (on_answer r rest (λ found rest. reach_from S clause p.context x found (wanted_of true pat) rest)) (on_look turned passed)
      by (Err e) rest = refl
      by (Ok found) rest = pattern-turns passed x found pat rest

  -- the looking of a walk
  pub walk-reaches : (waiting : List (Pat × Term)) (stuck forced : Option TreeStop) (left : ℕ)
      → and_next (first_found S clause p.context (walk.look S clause p pairs) waiting stuck forced left) go
      ≡ and_next (first_found S clause p.context (reach S true clause p.context) waiting stuck forced left)
      (λ r rest. and_next (answers (turn_at clause p pairs r) rest) go)
  walk-reaches waiting stuck forced left =
      first-agrees S clause p.context (walk.look S clause p pairs) go (reach S true clause p.context) turned waiting walk-agrees stuck forced left
