-- Trees give no units back.
use Rattle.std.proofs.Common.{ℕ, zero, suc, ◌≤◌, None, List, [], ◌∷◌, arith}
use Rattle.theory.specs.Terms.{Term}
use Rattle.theory.specs.Telescopes.{Telescope}
use Rattle.theory.specs.Signatures.{Signature}
use Rattle.core_terms.specs.Patterns.{Pat}
use Rattle.unification.specs.Outcomes as outcome
use Rattle.unification.specs.Outcomes.{Outcome}
use Rattle.case_trees.specs.Pairs.{all_open}
use Rattle.case_trees.specs.Working.{of_columns, work_pairs}
use Rattle.case_trees.specs.Points.{Point, bounded_point, start_at, solution_for, point_keeping}
use Rattle.case_trees.specs.Stops.{or_halts, halting, answers}
use Rattle.case_trees.specs.Looking.{Ran, look_at_type, first_found, run_all}
use Rattle.case_trees.specs.Trees.{Live, SplitAt, Growing, all_live, patterns_left, worked, look, solved_node, branch_by, grow_branches, split_at, by_first, by_live, one_node, nowhere, by_patterns}
use Rattle.case_trees.specs.Laws.{TreeSpends}
use Rattle.case_trees.proofs.Answered.{and_next-spends}
use Rattle.case_trees.proofs.SpentUnits.{LookSpends, work_pairs-spends, first_found-spends, look_at_type-spends, run_all-spends}

worked-spends : (S : Signature) (p : Point) (live : List Live) (left : ℕ) → (worked S p live left).1 ≤ left
worked-spends S p [] left = omega arith
worked-spends S p (c ∷ live) left =
    and_next-spends (halting (work_pairs S of_columns c.pairs left)) left _ (work_pairs-spends S of_columns c.pairs left) (λ pairs rest.
    and_next-spends (answers (or_halts (point_keeping S p pairs)) rest) rest _ (omega arith) (λ next rest.
    and_next-spends (worked S next live rest) rest _ (worked-spends S next live rest) (λ node end. omega arith)))

look-spends : (S : Signature) (clause : ℕ) (context : Telescope) → LookSpends (look S clause context)
look-spends S clause context = λ pat x left.
    and_next-spends (look_at_type S clause context pat x left) left _ (look_at_type-spends S clause context pat x left) (λ found rest.
    and_next-spends (run_all S context x found.member 0 found.member.family.constructors rest) rest _
    (run_all-spends S context x found.member 0 found.member.family.constructors rest) (λ runs end. omega arith))

abbrev GrowingSpends : Growing → Type 0
GrowingSpends go = (p : Point) (live : List Live) (next : ℕ) → (go p live next).1 ≤ next

branch_by-spends : (go : Growing) (p : Point) (live : List Live) (run : Ran) (o : Outcome) (left : ℕ) → GrowingSpends go
    → (branch_by go p live run o left).1 ≤ left
branch_by-spends go p live run (outcome.Absurd steps context u v) left h = omega arith
branch_by-spends go p live run (outcome.Solved steps context solution) left h =
    and_next-spends (answers (or_halts (solved_node p live context (solution_for p solution))) left) left _ (omega arith) (λ node rest.
    and_next-spends (go node.point node.live rest) rest _ (h node.point node.live rest) (λ subtree end. omega arith))
branch_by-spends go p live run (outcome.Stuck steps context u v why) left h = omega arith

grow_branches-spends : (go : Growing) (p : Point) (live : List Live) (runs : List Ran) (left : ℕ) → GrowingSpends go
    → (grow_branches go p live runs left).1 ≤ left
grow_branches-spends go p live [] left h = omega arith
grow_branches-spends go p live (run ∷ runs) left h =
    and_next-spends (branch_by go p live run run.outcome left) left _ (branch_by-spends go p live run run.outcome left h) (λ branch rest.
    and_next-spends (grow_branches go p live runs rest) rest _ (grow_branches-spends go p live runs rest h) (λ branches end. omega arith))

split_at-spends : (go : Growing) (p : Point) (live : List Live) (s : SplitAt) (left : ℕ) → GrowingSpends go → (split_at go p live s left).1 ≤ left
split_at-spends go p live s left h =
    and_next-spends (grow_branches go p live s.runs left) left _ (grow_branches-spends go p live s.runs left h) (λ branches rest. omega arith)

by_first-spends : (S : Signature) (go : Growing) (p : Point) (c : Live) (live : List Live) (pairs : List (Pat × Term)) (left : ℕ) → GrowingSpends go
    → (by_first S go p c live pairs left).1 ≤ left
by_first-spends S go p c live [] left h = omega arith
by_first-spends S go p c live (pair ∷ others) left h =
    and_next-spends (first_found S c.number p.context (look S c.number p.context) (pair ∷ others) None None left) left _
    (first_found-spends S c.number p.context (look S c.number p.context) (pair ∷ others) (look-spends S c.number p.context) None None left)
    (λ s rest. split_at-spends go p (c ∷ live) s rest h)

by_live-spends : (S : Signature) (go : Growing) (p : Point) (live : List Live) (left : ℕ) → GrowingSpends go → (by_live S go p live left).1 ≤ left
by_live-spends S go p [] left h = omega arith
by_live-spends S go p (c ∷ live) left h = by_first-spends S go p c live (all_open c.pairs) left h

one_node-spends : (S : Signature) (go : Growing) → GrowingSpends go → GrowingSpends (one_node S go)
one_node-spends S go h = λ p live left.
    and_next-spends (worked S p live left) left _ (worked-spends S p live left) (λ node rest. by_live-spends S go node.point node.live rest h)

by_patterns-spends : (S : Signature) (patterns : ℕ) → GrowingSpends (by_patterns S patterns)
by_patterns-spends S zero = one_node-spends S nowhere (λ p live left. omega arith)
by_patterns-spends S (suc patterns) = one_node-spends S (by_patterns S patterns) (by_patterns-spends S patterns)

pub tree_spends : TreeSpends
tree_spends = λ S context goal terms clauses left.
    and_next-spends (answers (or_halts (bounded_point (start_at context goal terms))) left) left _ (omega arith) (λ p rest.
    by_patterns-spends S (patterns_left (all_live 0 terms clauses)) p (all_live 0 terms clauses) rest)
