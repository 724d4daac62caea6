-- With more units a walk and a tree come to the same, unless there were too few; so there is one of each.
use Rattle.std.proofs.Common.{ℕ, zero, suc, ◌+◌, Option, Some, None, List, [], ◌∷◌, slice_get, refl}
use Rattle.theory.specs.Terms.{Term}
use Rattle.theory.specs.Telescopes.{Telescope}
use Rattle.theory.specs.Families.{Constructor}
use Rattle.theory.specs.Signatures.{Signature}
use Rattle.core_terms.specs.Answers.{and_next}
use Rattle.core_terms.specs.Patterns as pattern
use Rattle.core_terms.specs.Patterns.{Pat, Pats}
use Rattle.core_terms.specs.Clauses.{Clause, Is}
use Rattle.core_terms.specs.declared.stop.Stop.TheVariants.{Fuel}
use Rattle.unification.specs.Outcomes as outcome
use Rattle.unification.specs.Outcomes.{Outcome}
use Rattle.unification.specs.Runs.{unify_of}
use Rattle.case_trees.specs.Laws.{WalkWithMoreUnits, TreeWithMoreUnits, OutcomeIsUnique, WalkIsUnique, TreeIsUnique}
use Rattle.case_trees.specs.Looking.{Looked, Ran, first_found, look_at_type, run_all}
use Rattle.case_trees.specs.OwnWalks as walk
use Rattle.case_trees.specs.OwnWalks.{Turn, Goes, Ends, own_outcome, run_own, absurd_outcome, run_pattern, Walking, behind_turn, at_pairs, own_walk_of}
use Rattle.case_trees.specs.Pairs.{Pairs, waiting, first_clash, all_open, all_left}
use Rattle.case_trees.specs.Points.{Point, bounded_point, start_at, solution_for, point_keeping}
use Rattle.case_trees.specs.Problems.{problem_of}
use Rattle.case_trees.specs.Stops.{or_halts, halting, answers}
use Rattle.case_trees.specs.Trees as tree
use Rattle.case_trees.specs.Trees.{Live, Node, SplitAt, Growing, all_live, patterns_left, worked, solved_node, branch_by, grow_branches, split_at, by_first, by_live, one_node, split_of}
use Rattle.case_trees.specs.Working.{of_columns, work_pairs}
use Rattle.case_trees.proofs.MoreUnits.{answered-once, Lasts, answers-last, and_next-lasts, AlwaysLasts}
use Rattle.case_trees.proofs.MoreUnitsRuns.{unify-lasts}
use Rattle.case_trees.proofs.MoreUnitsLooks.{pairs-last, Stops, halting-lasts, LookLasts, first_found-lasts, type-lasts, run-lasts, run_all-lasts}

-- ---- walks

own-lasts : (S : Signature) (clause : ℕ) (p : Point) (pairs : Pairs) (x : ℕ) (found : Looked) (number : ℕ) (c : Option Constructor)
    → AlwaysLasts Stops (run_own S clause p pairs x found number c)
own-lasts S clause p pairs x found number None = λ left more fine. refl
own-lasts S clause p pairs x found number (Some c) = λ left more.
    and_next-lasts Stops more (halting (unify_of S (problem_of p.context x found.member number c) left))
    (halting (unify_of S (problem_of p.context x found.member number c) (left + more))) _ _ (run-lasts S p.context x found.member number c left more)
    (λ o rest fine. refl)

all-last : (S : Signature) (clause : ℕ) (p : Point) (x : ℕ) (found : Looked) (pairs : Pairs) → AlwaysLasts Stops
    (λ left. and_next (run_all S p.context x found.member 0 found.member.family.constructors left) (λ runs rest. answers (absurd_outcome clause found.member.n runs) rest))
all-last S clause p x found pairs = λ left more.
    and_next-lasts Stops more (run_all S p.context x found.member 0 found.member.family.constructors left)
    (run_all S p.context x found.member 0 found.member.family.constructors (left + more)) _ _
    (run_all-lasts S p.context x found.member 0 found.member.family.constructors left more) (λ runs rest fine. refl)

run_pattern-lasts : (S : Signature) (clause : ℕ) (p : Point) (pairs : Pairs) (x : ℕ) (found : Looked) (pat : Pat) → AlwaysLasts Stops (run_pattern S clause p pairs x found pat)
run_pattern-lasts S clause p pairs x found (pattern.Con n number pats) =
    own-lasts S clause p pairs x found number (slice_get found.member.family.constructors number)
run_pattern-lasts S clause p pairs x found pattern.Absurd = all-last S clause p x found pairs
run_pattern-lasts S clause p pairs x found pattern.Bind = all-last S clause p x found pairs
run_pattern-lasts S clause p pairs x found pattern.Wild = all-last S clause p x found pairs
run_pattern-lasts S clause p pairs x found (pattern.Dot written) = all-last S clause p x found pairs

walk-look-lasts : (S : Signature) (clause : ℕ) (p : Point) (pairs : Pairs) → LookLasts (walk.look S clause p pairs)
walk-look-lasts S clause p pairs = λ pat x left more.
    and_next-lasts Stops more (look_at_type S clause p.context pat x left) (look_at_type S clause p.context pat x (left + more)) _ _
    (type-lasts S clause p.context pat x left more) (λ found rest. run_pattern-lasts S clause p pairs x found pat rest more)

WalkingLasts : Walking → Type 0
WalkingLasts go = (p : Point) (pairs : Pairs) → AlwaysLasts Stops (go p pairs)

at_pairs-last : (S : Signature) (clause : ℕ) (go : Walking) (p : Point) (pairs : Pairs) (open_pairs : List (Pat × Term)) → WalkingLasts go
    → AlwaysLasts Stops (at_pairs S clause go p pairs open_pairs)
unfolding WalkingLasts
at_pairs-last S clause go p pairs [] h = λ left more fine. refl
at_pairs-last S clause go p pairs (pair ∷ others) h = λ left more.
    and_next-lasts Stops more (first_found S clause p.context (walk.look S clause p pairs) (pair ∷ others) None None left)
    (first_found S clause p.context (walk.look S clause p pairs) (pair ∷ others) None None (left + more)) _ _
    (first_found-lasts S clause p.context (walk.look S clause p pairs) (pair ∷ others) (walk-look-lasts S clause p pairs) None None left more)
    (λ turn rest. by turn rest more)
  where
    by : (turn : Turn) → AlwaysLasts Stops (behind_turn go p pairs turn)
    by (Goes next moved) = h next moved
    by Ends = λ left more fine. refl

walk-dropped-lasts : (S : Signature) (clause : ℕ) (go : Walking) (p : Point) (pairs : Pairs) (clash : Option (Pat × Term)) → WalkingLasts go
    → AlwaysLasts Stops (walk.unless_dropped S clause go p pairs clash)
walk-dropped-lasts S clause go p pairs (Some clash) h = λ left more fine. refl
walk-dropped-lasts S clause go p pairs None h = λ left more.
    and_next-lasts Stops more _ _ _ _ (answers-last Stops more (or_halts (point_keeping S p pairs)) left) (λ next rest.
    at_pairs-last S clause go next pairs (all_open pairs) h rest more)

one_turn-lasts : (S : Signature) (clause : ℕ) (go : Walking) → WalkingLasts go → WalkingLasts (walk.one_turn S clause go)
unfolding WalkingLasts
one_turn-lasts S clause go h = λ p pairs left more.
    and_next-lasts Stops more (halting (work_pairs S of_columns pairs left)) (halting (work_pairs S of_columns pairs (left + more))) _ _
    (halting-lasts more (work_pairs S of_columns pairs left) (work_pairs S of_columns pairs (left + more)) (pairs-last S of_columns pairs left more))
    (λ worked rest. walk-dropped-lasts S clause go p worked (first_clash worked) h rest more)

by_patterns-last : (S : Signature) (clause patterns : ℕ) → WalkingLasts (walk.by_patterns S clause patterns)
unfolding WalkingLasts
by_patterns-last S clause zero = one_turn-lasts S clause walk.nowhere (λ p pairs left more fine. refl)
by_patterns-last S clause (suc patterns) = one_turn-lasts S clause (walk.by_patterns S clause patterns) (by_patterns-last S clause patterns)

pub walk_with_more_units : WalkWithMoreUnits
unfolding WalkingLasts
walk_with_more_units = λ S context goal terms c number left more. by S context goal terms c number left more
  where
    by : (S : Signature) (context : Telescope) (goal : Term) (terms : List Term) (c : Clause) (number left more : ℕ)
        → Lasts Stops more (own_walk_of S context goal terms c number left) (own_walk_of S context goal terms c number (left + more))
    by S context goal terms (Is pats binds right) number left more =
        and_next-lasts Stops more _ _ _ _ (answers-last Stops more (or_halts (bounded_point (start_at context goal terms))) left) (λ p rest.
        by_patterns-last S number (all_left (waiting pats terms)) p (waiting pats terms) rest more)

-- ---- trees

tree-look-lasts : (S : Signature) (clause : ℕ) (context : Telescope) → LookLasts (tree.look S clause context)
tree-look-lasts S clause context = λ pat x left more.
    and_next-lasts Stops more (look_at_type S clause context pat x left) (look_at_type S clause context pat x (left + more)) _ _
    (type-lasts S clause context pat x left more) (λ found rest.
    and_next-lasts Stops more (run_all S context x found.member 0 found.member.family.constructors rest)
    (run_all S context x found.member 0 found.member.family.constructors (rest + more)) _ _
    (run_all-lasts S context x found.member 0 found.member.family.constructors rest more) (λ runs end fine. refl))

worked-lasts : (S : Signature) (p : Point) (live : List Live) → AlwaysLasts Stops (worked S p live)
worked-lasts S p [] = λ left more fine. refl
worked-lasts S p (c ∷ live) = λ left more.
    and_next-lasts Stops more (halting (work_pairs S of_columns c.pairs left)) (halting (work_pairs S of_columns c.pairs (left + more))) _ _
    (halting-lasts more (work_pairs S of_columns c.pairs left) (work_pairs S of_columns c.pairs (left + more)) (pairs-last S of_columns c.pairs left more))
    (λ pairs rest.
    and_next-lasts Stops more _ _ _ _ (answers-last Stops more (or_halts (point_keeping S p pairs)) rest) (λ next middle.
    and_next-lasts Stops more (worked S next live middle) (worked S next live (middle + more)) _ _ (worked-lasts S next live middle more)
    (λ node end fine. refl)))

GrowingLasts : Growing → Type 0
GrowingLasts go = (p : Point) (live : List Live) → AlwaysLasts Stops (go p live)

branch-lasts : (go : Growing) (p : Point) (live : List Live) (run : Ran) (o : Outcome) → GrowingLasts go → AlwaysLasts Stops (branch_by go p live run o)
unfolding GrowingLasts
branch-lasts go p live run (outcome.Absurd steps context u v) h = λ left more fine. refl
branch-lasts go p live run (outcome.Stuck steps context u v why) h = λ left more fine. refl
branch-lasts go p live run (outcome.Solved steps context solution) h = λ left more.
    and_next-lasts Stops more _ _ _ _ (answers-last Stops more (or_halts (solved_node p live context (solution_for p solution))) left) (λ node rest.
    and_next-lasts Stops more (go node.point node.live rest) (go node.point node.live (rest + more)) _ _ (h node.point node.live rest more)
    (λ subtree end fine. refl))

branches-last : (go : Growing) (p : Point) (live : List Live) (runs : List Ran) → GrowingLasts go → AlwaysLasts Stops (grow_branches go p live runs)
branches-last go p live [] h = λ left more fine. refl
branches-last go p live (run ∷ runs) h = λ left more.
    and_next-lasts Stops more (branch_by go p live run run.outcome left) (branch_by go p live run run.outcome (left + more)) _ _
    (branch-lasts go p live run run.outcome h left more) (λ branch rest.
    and_next-lasts Stops more (grow_branches go p live runs rest) (grow_branches go p live runs (rest + more)) _ _ (branches-last go p live runs h rest more)
    (λ branches end fine. refl))

by_first-lasts : (S : Signature) (go : Growing) (p : Point) (c : Live) (live : List Live) (pairs : List (Pat × Term)) → GrowingLasts go
    → AlwaysLasts Stops (by_first S go p c live pairs)
by_first-lasts S go p c live [] h = λ left more fine. refl
by_first-lasts S go p c live (pair ∷ others) h = λ left more.
    and_next-lasts Stops more (first_found S c.number p.context (tree.look S c.number p.context) (pair ∷ others) None None left)
    (first_found S c.number p.context (tree.look S c.number p.context) (pair ∷ others) None None (left + more)) _ _
    (first_found-lasts S c.number p.context (tree.look S c.number p.context) (pair ∷ others) (tree-look-lasts S c.number p.context) None None left more)
    (λ s rest.
    and_next-lasts Stops more (grow_branches go p (c ∷ live) s.runs rest) (grow_branches go p (c ∷ live) s.runs (rest + more)) _ _
    (branches-last go p (c ∷ live) s.runs h rest more) (λ branches end fine. refl))

by_live-lasts : (S : Signature) (go : Growing) (p : Point) (live : List Live) → GrowingLasts go → AlwaysLasts Stops (by_live S go p live)
by_live-lasts S go p [] h = λ left more fine. refl
by_live-lasts S go p (c ∷ live) h = by_first-lasts S go p c live (all_open c.pairs) h

one_node-lasts : (S : Signature) (go : Growing) → GrowingLasts go → GrowingLasts (one_node S go)
unfolding GrowingLasts
one_node-lasts S go h = λ p live left more.
    and_next-lasts Stops more (worked S p live left) (worked S p live (left + more)) _ _ (worked-lasts S p live left more)
    (λ node rest. by_live-lasts S go node.point node.live h rest more)

tree-patterns-last : (S : Signature) (patterns : ℕ) → GrowingLasts (tree.by_patterns S patterns)
unfolding GrowingLasts
tree-patterns-last S zero = one_node-lasts S tree.nowhere (λ p live left more fine. refl)
tree-patterns-last S (suc patterns) = one_node-lasts S (tree.by_patterns S patterns) (tree-patterns-last S patterns)

pub tree_with_more_units : TreeWithMoreUnits
unfolding GrowingLasts
tree_with_more_units = λ S context goal terms clauses left more.
    and_next-lasts Stops more _ _ _ _ (answers-last Stops more (or_halts (bounded_point (start_at context goal terms))) left) (λ p rest.
    tree-patterns-last S (patterns_left (all_live 0 terms clauses)) p (all_live 0 terms clauses) rest more)

-- ---- one answer

pub outcome_is_unique : OutcomeIsUnique
outcome_is_unique = λ S p o other h k. answered-once Fuel (unify_of S p) (unify-lasts S p) h.units k.units o other h.run k.run

pub walk_is_unique : WalkIsUnique
walk_is_unique = λ S context goal terms c number left other w v.
    answered-once Stops (own_walk_of S context goal terms c number) (λ units more. walk_with_more_units S context goal terms c number units more) left other w v

pub tree_is_unique : TreeIsUnique
tree_is_unique = λ S context goal terms clauses left other t u.
    answered-once Stops (split_of S context goal terms clauses) (λ units more. tree_with_more_units S context goal terms clauses units more) left other t u
